-- What the contracts of this crate say. `Rep` says which machine of the definition the lent words stand for, `Does` what a word does to it.
pub mod Slots
pub mod Rep
pub mod Does
pub mod Operands
pub mod Numbers
pub mod Steps
pub mod Titles
pub mod WordLaws
