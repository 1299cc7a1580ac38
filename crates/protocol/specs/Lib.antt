pub mod Wiring
pub mod Rows
pub mod Rules
pub mod Hearing
pub mod Works
pub mod Memories
pub mod Words
