-- What is found of a policy is what its text is told.
use Rattle.std.proofs.Common.{◌≡◌, List, ℕ, Option, None, Some, sym, subst}
use Rattle.std.specs.Prelude.{IfOk, Result, Ok, Err}
use Rattle.box_policy.specs.declared.error.PolicyError.{PolicyError}
use Rattle.box_policy.specs.Rebased.{IsRefusedUnder, WrittenUnder}
use Rattle.box_policy.specs.Rulebook.{Rulebook}
use Rattle.box_advice.specs.Lints.{FindsNone, FindsRefused, Lints, Tells}
use Rattle.box_advice.specs.declared.linting.Findings.{Findings}

pub told_none : {E : Type 0} (base : Option (List ℕ)) (text : List ℕ) (book : Rulebook) → WrittenUnder base text book →
    (result : Result Findings E) → IfOk result (FindsNone book) → IfOk result (Lints base text)
told_none base text book written (Ok lint) found =
    subst (λ r. Tells base text r lint.unreached.items) (sym found.accepted) (book, written, found.rules)
told_none base text book written (Err e) found = tt

pub told_refused : {E : Type 0} (base : Option (List ℕ)) (text : List ℕ) (error : PolicyError)
    → IsRefusedUnder base text error →
    (result : Result Findings E) → IfOk result (FindsRefused error) → IfOk result (Lints base text)
told_refused base text error refused (Ok lint) found =
    subst (λ r. Tells base text r lint.unreached.items) (sym found.refused) (refused, found.not_memory)
told_refused base text error refused (Err e) found = tt
