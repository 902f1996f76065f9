pub mod Gots
pub mod Hosts
pub mod Inputs
pub mod Operands
pub mod Performs
pub mod Ranges
