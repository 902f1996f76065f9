pub mod Lists
pub mod TellingLemmas
