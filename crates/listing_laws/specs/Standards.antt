-- What no run asks for: a standard stream is never shut.
use Rattle.std.specs.Prelude.{ℕ, List, [], ◌∷◌, Option}
use Rattle.awk_machine.specs.Pieces.{Outcome}
use Rattle.awk_machine.specs.Plays.{Plays}
use Rattle.awk_machine.specs.State.{Given}
use Rattle.box_world.specs.Events.{Standard, Wish, Shuts, Want, Event}

-- it shuts no standard stream
abbrev pub IsKept : Wish → Type 0
IsKept (Shuts (Standard n)) = ⊥
IsKept wish = Unit {0}

abbrev pub AllKept : List Event → Type 0
AllKept [] = Unit {0}
AllKept (e ∷ es) = IsKept e.want.wish × AllKept es

-- no request of a run does
abbrev pub StandardsKept : Type 0
StandardsKept = (g : Given) (events : List Event) (o : Outcome) (used : ℕ) (last : Option Want) →
    Plays g events o used last → AllKept events
