pub mod Layout
pub mod Refusals
pub mod Readings
pub mod Laws
pub mod Words
