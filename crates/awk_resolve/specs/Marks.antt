-- The kinds that the marks of a name's number say.
use Rattle.std.specs.Prelude.{◌≡◌, ◌↔◌, ℕ, Bool, true, false, List, slice_get, Option, Some, None}
use Rattle.awk_resolve.specs.Kinds as k
use Rattle.awk_resolve.specs.Kinds.{Kind, Named, global, parameter, Forced}
use Rattle.awk_resolve.specs.declared.mention.Section.{Section}
use Rattle.awk_resolve.specs.Numbers.{number, is_function}
use Rattle.awk_resolve.specs.Reached.{Reached}
use Rattle.awk_resolve.specs.Uses as u
use Rattle.awk_resolve.specs.declared.uses.Use.{Use}
use Rattle.awk_resolve.specs.declared.kinds.Kinds.{Kinds}

abbrev pub is_set : Option Bool → Bool
is_set None = false
is_set (Some b) = b

abbrev pub is_marked : List Bool → Option ℕ → Bool
is_marked marks None = false
is_marked marks (Some n) = is_set (slice_get marks n)

abbrev pub has : Kinds → Named → Kind → Bool
has c a k.scalar = is_marked c.scalars (number c.numbers a)
has c a k.array = is_marked c.arrays (number c.numbers a)
has c (global x) k.function = is_function c.numbers x
has c (parameter f x) k.function = false

-- each name has the kinds that it is forced to, and no other one
abbrev pub AreKinds : List Section → Kinds → Type 0
AreKinds parts c = (a : Named) (kind : Kind) → (has c a kind ≡ true) ↔ Forced parts a kind

-- the marks of what is reached
abbrev pub Marks : List ℕ → List (List ℕ) → List Bool → Type 0
Marks seeds links marks = (n : ℕ) → (slice_get marks n ≡ Some true) ↔ Reached seeds links n

-- The marks of the arrays: from each of them along the links, and back to those numbers whose length is asked.
abbrev pub AreArrays : List Use → List (List ℕ) → List Bool → Type 0
AreArrays us links marks = (measured : List Bool) × Marks (u.measures us) links measured
    × Marks (u.arrays us) (u.with_back_links measured us links) marks
