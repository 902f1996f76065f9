pub mod NestsStatements
pub mod Open
pub mod Places
