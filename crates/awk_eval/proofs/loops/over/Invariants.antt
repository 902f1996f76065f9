use Rattle.std.proofs.Common.{◌∷◌, drop}
use Rattle.awk_program.specs.View.{view_statement, variable_of}
use Rattle.awk_machine.specs.Pieces.{Do, Keys}
use Rattle.awk_store.specs.Wholes.{names_in}
use Rattle.awk_forms.specs.Along.{Along}
use Rattle.awk_eval.proofs.loops.over.Given as goal

abbrev pub invariant-loop-key : goal.invariant-loop-key
invariant-loop-key g l =
    Along g.W.World l.cx (λ m. Do (Keys l.place (variable_of (names_in m) l.variable)
    (view_statement (names_in m) l.inner) l.keys))
    (λ m k. Do (Keys l.place (variable_of (names_in m) l.variable) (view_statement (names_in m) l.inner)
    (drop l.key-index l.keys)) ∷ k) (l.fn.run.store, l.fn.run.streams) l.fn.world (l.run.store, l.run.streams) l.world
