use Rattle.std.proofs.Common.{◌≡◌, sym, ◌∙◌, false, rules, w64}
use Rattle.std.proofs.lemmas.Int.{to_z-of_z}
use Rattle.awk_store.specs.Kept as kept
use Rattle.awk_text.specs.declared.value.Value.TheVariants as v
use Rattle.awk_builtins.proofs.AtHand.{nf_there, variable_there}
use Rattle.awk_builtins.proofs.Rests.{some_both}
use Rattle.awk_builtins.proofs.at_hand.values.number_held.Goals as goal

pub returns-then-is_nf : goal.returns-then-is_nf
returns-then-is_nf c = λ g t. rw (to_z-of_z w64 c.in_ok-count.count (search rules))
    (nf_there g (c.args.store.now, t) c.args.variable c.in_ok-count.count (sym c.is_nf.ensures ∙ c.if-is_nf.true)
    c.in_ok-count.ensures)

pub returns : goal.returns
returns c =
    some_both {P = λ n. kept.is_nf c.args.variable ≡ false} {Q = λ n. kept.value c.args.store.now c.args.variable
    ≡ v.Num n} c.number_kept.result
    (λ n nf is g t. rw is at (variable_there g (c.args.store.now, t) c.args.variable nf)) c.number_kept.ensures.nf
    c.number_kept.ensures.number
