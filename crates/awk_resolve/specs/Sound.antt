-- What holds of the variables of every script.
use Rattle.std.specs.Prelude.{◌≡◌, ℕ, ◌<◌, List, [], get_or, length}
use Rattle.awk_program.specs.Slots.{Text, slot_of, name_of}
use Rattle.awk_program.specs.declared.variables.Own.{Own}

-- each name has one slot, and none is empty: that is the name of a slot that is none
abbrev pub IsOnce : List Text → Type 0
IsOnce names = (j k : ℕ) → j < length names → get_or names j [] ≡ get_or names k [] → j ≡ k

pub record Sound (names : List Text) : Type 0 where
  pub once : IsOnce names
  -- awk's own variables have their slots
  pub own : (x : Own) → get_or names (slot_of x) [] ≡ name_of x
