pub mod Ways
mod Spreads
mod Kept
mod Pairs
mod Names
mod Ends
pub mod Described
