mod Consumed
mod Judging
mod Spelling
pub mod Driving
pub mod OneAnswer
pub mod Passing
pub mod QuotedText
pub mod TwoWorlds
mod Foretold
mod Turns
mod TwoDrives
