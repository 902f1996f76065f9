pub mod Leading
pub mod Opens
pub mod Turns
