-- Steps of a run.
use Rattle.std.specs.Prelude.{◌≡◌, ℕ, ◌<◌, ◌≤◌, Result, Ok, Err}
use Rattle.awk_store.specs.Changes.{stepped}
use Rattle.awk_streams.specs.declared.halt.Halt.{Halt}
use Rattle.awk_streams.specs.declared.halt.Halt.TheVariants as halt
use Rattle.awk_store.specs.Wholes.{Whole, used}

-- a step is taken, or none is left
abbrev pub Steps : ℕ → Whole → Result (Unit {0}) Halt → Whole → Type 0
Steps bound old (Ok u) new = (used old < bound) × (new ≡ (stepped old.0, old.1))
Steps bound old (Err h) new = (h ≡ halt.Cut) × (bound ≤ used old) × (new ≡ old)
