pub mod Closing
pub mod Loops
pub mod Others
pub mod Whole
