use Rattle.std.proofs.Common.{sym, ◌∙◌, rules, w64}
use Rattle.std.proofs.lemmas.Int.{to_z-of_z}
use Rattle.awk_builtins.proofs.AtHand.{nf_there, variable_there}
use Rattle.awk_builtins.proofs.at_hand.values.variable_at_hand.Goals as goal

pub returns-then-is_nf : goal.returns-then-is_nf
returns-then-is_nf c = λ g t. rw (to_z-of_z w64 c.in_ok-count.count (search rules))
    (nf_there g (c.args.store.now, t) c.args.variable c.in_ok-count.count (sym c.is_nf.ensures ∙ c.if-is_nf.true)
    c.in_ok-count.ensures)

pub returns-in-Some : goal.returns-in-Some
returns-in-Some c = λ g t. rw (c.of.ensures, c.in-Some.ensures) (variable_there g (c.args.store.now, t) c.args.variable
    (sym c.is_nf.ensures ∙ c.if-is_nf.false))

pub returns-in-None : goal.returns-in-None
returns-in-None c = λ g t. rw c.in-None.ensures (variable_there g (c.args.store.now, t) c.args.variable
    (sym c.is_nf.ensures ∙ c.if-is_nf.false))
