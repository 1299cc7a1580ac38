pub mod Lamps
pub mod Files
pub mod Checks
pub mod Reach
pub mod Reading
pub mod Reasons
pub mod Plans
