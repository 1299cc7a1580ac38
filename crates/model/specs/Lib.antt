pub mod Halls
pub mod Nets
pub mod Rounds
pub mod Assignment
pub mod Promise
pub mod Stages
pub mod Stable
pub mod Trees
