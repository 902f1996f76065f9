pub mod OsFollows
pub mod OsNumbers
pub mod OsOwn
pub mod OsReading
pub mod OsStreams
