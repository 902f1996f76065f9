pub mod GotSteps
pub mod ReadSteps
pub mod MainSteps
pub mod RangeSteps
pub mod OutputSteps
pub mod Hosting
mod Recording
mod Restored
mod AssignSteps
mod OperandSteps
mod Opening
mod Shutting
mod FileSteps
