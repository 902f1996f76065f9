pub mod Tree
pub mod View
pub mod Terminals
pub mod Looks
pub mod Input
pub mod Expressions
pub mod Statements
pub mod Canon
