pub mod Adding
pub mod Carried
pub mod Lists
pub mod Sounding
pub mod Wanted
pub mod Rows
