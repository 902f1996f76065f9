-- Rows of the definition of plain awk: whole runs of scripts, and their listings, computed by the prover from their
-- text. The calls of this crate need none of them.
mod Matching
mod Playing
mod Sound
mod Scripts
mod FormRows
mod Replays
mod Choices
mod Lines
mod SiteRows
