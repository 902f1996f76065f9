use Rattle.std.proofs.Common.{◌≡◌, ℕ, true, ◌≤◌, ◌-◌, List, [], ◌∷◌, length, length-drop, drop, refl, sym, ◌∙◌, arith}
use Rattle.awk_run.specs.SetupParts.{ascends}
use Rattle.awk_run.proofs.setup.ascends.Goals as goal

-- one text alone ascends
one-ascends : (names : List (List ℕ)) → length names ≤ 1 → ascends names ≡ true
one-ascends [] h = refl
one-ascends (x ∷ []) h = refl
one-ascends (x ∷ y ∷ rest) h = absurd (omega arith)

pub returns : goal.returns
returns c = sym (one-ascends (drop (c.loop-i.i - 1) c.args.names.now) (omega (arith, length-drop {A = List ℕ})))
    ∙ c.loop-i.invariant
