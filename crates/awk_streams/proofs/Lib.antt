pub mod Chain
pub mod Numbers
mod Entries
pub mod Asking
pub mod Opened
pub mod Leading
mod Shut
pub mod Lifting
pub mod Reading
pub mod Records
pub mod Firsts
pub mod Lives
pub mod MoreSteps
pub mod Lines
mod Closes
mod Held
mod Scans
