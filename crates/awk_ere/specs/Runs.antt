-- What a search knows of its runs at a place.
use Rattle.std.specs.Prelude.{ℕ, List, Option}
use Rattle.awk_ere.specs.Search.{Marks, Goes, BestOf}
use Rattle.awk_ere.specs.declared.search.Runs.{Runs}

-- at this place each step is marked with the least start below `limit` from which a run reaches it
abbrev pub AreMarks : Runs → ℕ → ℕ → List ℕ → Type 0
AreMarks r limit place starts = Marks r.sets.now r.program.now r.text.now r.entry r.from limit place starts

-- this is the best of the runs that end before `bound`
abbrev pub IsBest : Runs → ℕ → Option (ℕ × ℕ) → Type 0
IsBest r bound best = BestOf (λ i j. Goes r.sets.now r.program.now r.text.now r.entry i 0 j) bound r.from best
