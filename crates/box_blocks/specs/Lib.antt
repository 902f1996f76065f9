pub mod Parts
pub mod HeldBytes
pub mod Blocks
pub mod Follows
pub mod Stops
pub mod Owes
pub mod Written
pub mod Laws
