-- The definition of Forf. "002" is the language's document, "02" the change requests (W10), "01" the scope paper; the readings are W10.1 to W10.32 of docs/DECISIONS.md.
-- The definition, to be read in this order. Bytes, numbers and names as text are Floo's.
pub mod Errors
pub mod Tokens
pub mod Items
pub mod Machine
pub mod Operators
pub mod Steps
pub mod Outcome
pub mod Setup
-- Worked cases, and what is proved of the definition.
pub mod Examples
pub mod SkipLaws
pub mod TokenLaws
pub mod GroupLaws
pub mod RestLaws
pub mod EndLaws
pub mod BodyLaws
pub mod FaultLaws
pub mod RunLaws
pub mod PlaceLaws
pub mod NameLaws
pub mod ShiftLaws
pub mod ShortLaws
pub mod OutcomeLaws
