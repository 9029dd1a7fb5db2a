mod CheckLaws
mod EntryLaws
mod GoalLaws
mod HeaderLaws
mod HypothesisLaws
mod StatementLaws
