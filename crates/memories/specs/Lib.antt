pub mod Tables
pub mod Back
pub mod Through
