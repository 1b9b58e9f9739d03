pub mod Refusals
pub mod Image
pub mod Drift
pub mod Calls
pub mod Held
