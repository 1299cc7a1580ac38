-- What a program is told.
pub mod Arguments
pub mod Lines
pub mod Answers
