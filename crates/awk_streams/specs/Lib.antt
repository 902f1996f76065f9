pub mod Chains
pub mod Closings
pub mod Ends
pub mod Flows
pub mod Readings
pub mod Tables
pub mod Tasks
