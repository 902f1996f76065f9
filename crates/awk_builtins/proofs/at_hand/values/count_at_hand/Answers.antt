use Rattle.std.proofs.Common.{ap, ◌∙◌, rules, w64}
use Rattle.std.specs.Prelude.{pos}
use Rattle.std.proofs.lemmas.Int.{to_z-of_z}
use Rattle.awk_program.proofs.Views.{view-Count}
use Rattle.awk_builtins.proofs.WholeArrays.{counts_so}
use Rattle.awk_builtins.proofs.at_hand.values.count_at_hand.Goals as goal

pub returns-in-Ok : goal.returns-in-Ok
returns-in-Ok c = λ g t.
    rw (c.in-Count.is, view-Count, to_z-of_z w64 c.in-Ok.count (search rules))
    (counts_so g (c.args.store.now, t) c.in-Count.array c.in-Ok.count
    (c.in-Ok.ensures.1 ∙ ap pos c.element_count.ensures))
