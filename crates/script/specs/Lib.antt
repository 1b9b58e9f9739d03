pub mod Language
pub mod Tokens
pub mod Reading
pub mod Answers
pub mod Lines
pub mod Scripts
pub mod Complaints
