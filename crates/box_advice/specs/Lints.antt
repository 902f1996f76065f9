-- What a policy's text is told.
use Rattle.std.specs.Prelude.{◌≡◌, ℕ, List, length, Option, Some, None}
use Rattle.box_policy.specs.declared.error.PolicyError.{PolicyError}
use Rattle.box_policy.specs.Rebased.{IsRefusedUnder, WrittenUnder}
use Rattle.box_policy.specs.Refusals.{no_memory}
use Rattle.box_policy.specs.Rulebook.{Rulebook}
use Rattle.box_advice.specs.Unreached.{AreUnreached, unreached_in}
use Rattle.box_advice.specs.declared.linting.Findings.{Findings}
use Rattle.box_advice.specs.declared.unreached.Unreached.{Unreached}

-- those of the policy's rules that no request reaches, each that an earlier one is found to cover
pub record TellsRules (book : Rulebook) (told : List Unreached) : Type 0 where
  pub all : told ≡ unreached_in book.base book.rules (length book.rules)
  pub sound : AreUnreached book told

-- the rules of the policy that the text writes, under its own base or the one that is given; or that a read of it
-- refuses it, and not for want of memory
abbrev pub Tells : Option (List ℕ) → List ℕ → Option PolicyError → List Unreached → Type 0
Tells base bytes None told = (book : Rulebook) × WrittenUnder base bytes book × TellsRules book told
Tells base bytes (Some error) told = IsRefusedUnder base bytes error × (error ≡ no_memory → ⊥)

abbrev pub Lints : Option (List ℕ) → List ℕ → Findings → Type 0
Lints base bytes lint = Tells base bytes lint.refusal lint.unreached.items

-- what is found of a policy that is in order, and of one that is refused
pub record FindsNone (book : Rulebook) (lint : Findings) : Type 0 where
  pub accepted : lint.refusal ≡ None
  pub rules : TellsRules book lint.unreached.items

pub record FindsRefused (error : PolicyError) (lint : Findings) : Type 0 where
  pub refused : lint.refusal ≡ Some error
  pub not_memory : error ≡ no_memory → ⊥
