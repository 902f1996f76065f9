pub mod Sites
pub mod Listings
pub mod Verdicts
pub mod Lines
pub mod Json
pub mod Scripts
pub mod Walks
