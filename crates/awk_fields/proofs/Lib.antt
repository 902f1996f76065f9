mod Bits
mod Marked
mod Edges
mod FoundLemmas
mod WordSteps
mod PartSteps
mod MarkSteps
pub mod Cuts
pub mod WordLemmas
pub mod Bests
pub mod Seeks
pub mod Places
pub mod HeadLemmas
pub mod LineLemmas
pub mod EditLemmas
pub mod PartLemmas
pub mod RowLemmas
pub mod StreamLemmas
pub mod Alone
