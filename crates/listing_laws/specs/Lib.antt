pub mod Covers
pub mod Standards
pub mod Foretold
pub mod Turns
pub mod OneText
