-- Laws that speak of no function: of labels laid as words, of the letters of steps, of the whole text.
pub mod LabelLaws
pub mod StepLaws
pub mod TextLaws
