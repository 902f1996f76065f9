use Rattle.std.proofs.Common.{◌∙◌}
use Rattle.awk_program.specs.View.{view}
use Rattle.awk_program.proofs.Views.{view-Choice}
use Rattle.awk_store.specs.Wholes.{names_in}
use Rattle.awk_builtins.proofs.MadeThere.{choice_else, choice_then}
use Rattle.awk_builtins.proofs.at_hand.tests.part_chosen.Goals as goal

pub returns-then-holds : goal.returns-then-holds
returns-then-holds c = λ val there g t.
    let h = c.in-Some.ensures in
    rw (c.in-Choice.is, view-Choice) (choice_then g (c.args.store.now, t) (view (names_in g) c.in-Choice.x)
    (view (names_in g) c.in-Choice.y) (view (names_in g) c.in-Choice.z) h.val val
    (rw c.get.ensures at (h.there g t)) (h.is ∙ c.if-holds.true) (rw c.get-then-holds.ensures at (there g t)))

pub returns-else-holds : goal.returns-else-holds
returns-else-holds c = λ val there g t.
    let h = c.in-Some.ensures in
    rw (c.in-Choice.is, view-Choice) (choice_else g (c.args.store.now, t) (view (names_in g) c.in-Choice.x)
    (view (names_in g) c.in-Choice.y) (view (names_in g) c.in-Choice.z) h.val val
    (rw c.get.ensures at (h.there g t)) (h.is ∙ c.if-holds.false) (rw c.get-else-holds.ensures at (there g t)))
