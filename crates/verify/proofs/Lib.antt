mod StageLaws
mod AgainLaws
mod WalkLaws
mod SpelledLaws
mod WayLaws
mod WipeLaws
