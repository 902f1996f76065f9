-- Which rules of a policy no request reaches.
use Rattle.std.specs.Prelude.{◌≡◌, ℕ, ◌+◌, ◌-◌, ◌<◌, zero, suc, List, [], ◌∷◌, ◌++◌, take, slice_get, Option}
use Rattle.std.specs.Prelude.{Some, None}
use Rattle.box_policy.specs.declared.policy.Rule.{Rule}
use Rattle.box_policy.specs.Rulebook.{Rulebook}
use Rattle.box_policy.specs.Shelves.{first_of}
use Rattle.box_advice.specs.Covers.{Covers, covers}
use Rattle.box_advice.specs.declared.unreached.Unreached.{Unreached}

-- the number of the first of these rules that is found to cover the later one
abbrev pub first_covering : List ℕ → List Rule → Rule → Option ℕ
first_covering base earlier later = first_of (λ rule. covers base rule later) 1 earlier

abbrev pub unreached_by : ℕ → Option ℕ → List Unreached
unreached_by n None = []
unreached_by n (Some by) = record { rule = n; by = by } ∷ []

-- the rule behind the first n, if one of these covers it
abbrev pub unreached_at : List ℕ → List Rule → ℕ → Option Rule → List Unreached
unreached_at base rules n None = []
unreached_at base rules n (Some rule) = unreached_by (n + 1) (first_covering base (take n rules) rule)

-- those of the first n rules that one before them covers, each with the first that does
abbrev pub unreached_in : List ℕ → List Rule → ℕ → List Unreached
unreached_in base rules zero = []
unreached_in base rules (suc n) = unreached_in base rules n ++ unreached_at base rules n (slice_get rules n)

-- the one rule stands before the other, and speaks of all that it speaks of, however often it has allowed
pub record IsUnreached (book : Rulebook) (told : Unreached) : Type 0 where
  pub before : told.by < told.rule
  pub earlier : Rule
  pub later : Rule
  pub is_earlier : slice_get book.rules (told.by - 1) ≡ Some earlier
  pub is_later : slice_get book.rules (told.rule - 1) ≡ Some later
  pub covered : Covers book.base earlier later

abbrev pub AreUnreached : Rulebook → List Unreached → Type 0
AreUnreached book [] = Unit {0}
AreUnreached book (told ∷ more) = IsUnreached book told × AreUnreached book more
