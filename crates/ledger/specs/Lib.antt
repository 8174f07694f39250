-- The definition, to be read in this order.
pub mod Ledger
pub mod Reading
-- Worked cases, and what is proved of the definition.
pub mod Examples
pub mod LineLaws
pub mod AnswerLaws
pub mod DecimalLaws
pub mod Sound
pub mod BookLaws
pub mod Pieces
pub mod Fronts
pub mod Stages
