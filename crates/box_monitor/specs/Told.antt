-- What the log tells of a denied request.
use Rattle.std.specs.Prelude.{ℕ, List, Option}
use Rattle.awk_text.specs.declared.place.Place.{Place}
use Rattle.box_policy.specs.declared.policy.Kind.{Kind}

-- its place, its kind, the rule that denies it or none where no rule fits, and its path, command or
-- name
pub record Told : Type 0 where
  pub place : Place
  pub kind : Kind
  pub rule : Option ℕ
  pub text : List ℕ
