-- What the lines of hall files and scripts say, and how a lamp is shown.
pub mod Words
pub mod Lines
pub mod Halls
pub mod Orders
pub mod Answers
pub mod Shows
