use Rattle.std.proofs.Common.{◌∷◌, drop, map}
use Rattle.awk_program.specs.View.{view_rule}
use Rattle.awk_machine.specs.Pieces.{Do, Rules}
use Rattle.awk_store.specs.Wholes.{names_in}
use Rattle.awk_forms.specs.Along.{Along}
use Rattle.awk_run.proofs.rules.rules.Given as goal

abbrev pub invariant-loop-n : goal.invariant-loop-n
invariant-loop-n g l =
    Along g.W.World l.cx (λ m. Do (Rules 0 m.program.rules))
    (λ m k. Do (Rules l.n (map (view_rule (names_in m)) (drop l.n l.cx.program.now.rules))) ∷ k)
    (l.fn.run.store, l.fn.run.streams) l.fn.world (l.run.store, l.run.streams) l.world
