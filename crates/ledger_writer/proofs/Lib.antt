mod Emits
mod Places
mod Lines
mod Turns
mod Answers
