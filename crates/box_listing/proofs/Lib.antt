pub mod Lists
pub mod Finding
pub mod Walking
pub mod Texts
pub mod Orders
