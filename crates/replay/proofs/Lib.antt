mod AnswerLaws
mod KindLaws
mod OneStepLaws
mod RunLaws
mod StackLaws
mod TurnLaws
