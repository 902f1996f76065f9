use Rattle.std.specs.Prelude.{◌≡◌, ℕ, ◌-◌, ◌≤◌, vec_len}
use Rattle.awk_lib.specs.Dense.{dense_rows}
use Rattle.awk_lib.proofs.dense.Dense.pad.Given as goal

abbrev pub invariant-loop-self : goal.invariant-loop-self
invariant-loop-self g l = record {
  rows : (j : ℕ) → dense_rows j l.self.places.items ≡ dense_rows j l.initial.self.places.items;
  low : vec_len l.initial.self.places ≤ vec_len l.self.places;
  high : vec_len l.self.places ≤ l.len;
}

abbrev pub decreases-loop-self : goal.decreases-loop-self
decreases-loop-self g l = l.len - vec_len l.self.places
