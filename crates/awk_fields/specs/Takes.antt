-- What a reader holds, and what a call that takes a record answers and leaves.
use Rattle.std.specs.Prelude.{◌≡◌, ℕ, ◌-◌, nat_le, Bool, if◌then◌else◌, List}
use Rattle.awk_fields.specs.Heads.{Head, taken, need_more, done}
use Rattle.awk_fields.specs.declared.reader.Taken.{Taken}
use Rattle.awk_fields.specs.declared.reader.Taken.TheVariants.{Record, NeedMore, Done}

-- what a reader holds: the bytes pushed less those taken, and whether the input has ended
pub record Input : Type 0 where
  pub unread : List ℕ
  pub ended : Bool

-- the same, and how many bytes lie in the window: those, and the taken ones in front that are not dropped yet
pub record Window : Type 0 where
  pub input : Input
  pub held : ℕ

-- how many of the bytes in a window are left where the taken ones are dropped once they are at least as many as the
-- unread ones
abbrev pub kept : ℕ → ℕ → ℕ
kept unread held = if nat_le unread (held - unread) then unread else held

abbrev pub Takes : Head → Taken → Input → Input → Type 0
Takes (taken text rest) (Record given) old new = (given ≡ text) × (new ≡ record { unread = rest; ended = old.ended })
Takes need_more NeedMore old new = new ≡ old
Takes done Done old new = new ≡ old
Takes head answer old new = ⊥
