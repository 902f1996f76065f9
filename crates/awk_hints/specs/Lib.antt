pub mod Causes
pub mod Hints
