mod Doubles
mod Fronts
mod Numbers
mod Octals
mod Readings
pub mod Digits
