pub mod Lists
pub mod Weight
