pub mod Words
pub mod Frames
pub mod Parts
