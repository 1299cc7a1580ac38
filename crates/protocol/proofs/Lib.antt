mod Rising
pub mod Writes
pub mod Rows
pub mod Wires
pub mod Hearings
pub mod Siblings
pub mod Tells
pub mod Told
