-- Laws that speak of no function: of the label list, of the words of steps, of readings, of the answer.
mod LabelLaws
mod StepLaws
mod ReadingLaws
mod LoopLaws
mod Answers
