-- How numbers are marked: each that is marked first is queued.
use Rattle.std.specs.Prelude.{ℕ, Bool, true, false, List, [], ◌∷◌, ◌++◌, replicate, slice_get, slice_set, Option, Some}
use Rattle.std.specs.Prelude.{None}
use Rattle.awk_resolve.specs.declared.uses.Reach.{Reach}

abbrev pub fresh : ℕ → Reach
fresh count = record { marks = replicate count false; queue = [] }

abbrev pub marked : ℕ → Option Bool → Reach → Reach
marked n (Some false) r = record { marks = slice_set r.marks n true; queue = r.queue ++ n ∷ [] }
marked n (Some true) r = r
marked n None r = r

abbrev pub mark : ℕ → Reach → Reach
mark n r = marked n (slice_get r.marks n) r

abbrev pub mark_all : List ℕ → Reach → Reach
mark_all [] r = r
mark_all (n ∷ ns) r = mark_all ns (mark n r)

-- what a number is linked to, where there are links from it
abbrev pub followed : Option (List ℕ) → Reach → Reach
followed None r = r
followed (Some ns) r = mark_all ns r

abbrev pub follow : ℕ → List (List ℕ) → Reach → Reach
follow n links r = followed (slice_get links n) r
