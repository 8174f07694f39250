-- `Refusing` has the laws of the tests in their order, and `Accepting` says what a run that is made may rely on, for the crates that link this one.
pub mod Refusing
pub mod Accepting
