mod AnswerLaws
mod DistanceLaws
mod ParentLaws
mod SizeLaws
