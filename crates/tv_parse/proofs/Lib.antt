-- Library of lemmas for the crates above: how what is read is spelled.
pub mod SpelledPhrases
-- Lemmas of this crate's own.
mod Lists
mod SetSteps
mod Heights
mod SetLaws
mod RowLaws
mod SetsRead
mod GrammarLaws
mod RowsRead
mod GrammarRead
mod ProgramLaws
mod FormulaFronts
mod SpelledForms
mod SpelledPrograms
mod LexTokens
mod UniquePhrases
