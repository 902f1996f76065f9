pub mod Loops
pub mod NoLvalue
pub mod Steps
pub mod Stops
