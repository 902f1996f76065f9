pub mod Directives
pub mod Fields
pub mod Formatted
pub mod NumberTexts
pub mod Written
