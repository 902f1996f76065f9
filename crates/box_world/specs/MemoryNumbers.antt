-- The numbers that a world in memory hands out: from 3 on, each once.
use Rattle.std.specs.Prelude.{◌≡◌, ℕ, ◌^◌, ◌<◌, ◌≤◌, List, [], ◌∷◌}
use Rattle.box_world.specs.declared.ask.Reply.{Reply}
use Rattle.box_world.specs.declared.ask.Reply.TheVariants.{Opened}

abbrev pub AllBelow : ℕ → List ℕ → Type 0
AllBelow next [] = Unit {0}
AllBelow next (k ∷ ks) = (k < next) × AllBelow next ks

-- the next number is past all that are open. At 2 ^ 32 none is left
pub record IsNumbered (next : ℕ) (numbers : List ℕ) : Type 0 where
  pub low : 3 ≤ next
  pub high : next ≤ 2 ^ 32
  pub below : AllBelow next numbers

-- no number is handed out but the next
abbrev pub GivesNext : ℕ → Reply → Type 0
GivesNext next (Opened n) = n ≡ next
GivesNext next reply = Unit {0}
