mod LineLaws
mod SaidLaws
mod TextLaws
mod VerdictLaws
