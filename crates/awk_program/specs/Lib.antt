pub mod Slots
pub mod Builtins
pub mod Jumps
pub mod Program
pub mod View
