pub mod KeptLemmas
pub mod Rests
