use Rattle.std.proofs.Common.{[], ◌∷◌, map}
use Rattle.awk_program.specs.Program as p
use Rattle.awk_program.specs.View.{view, view_statement}
use Rattle.awk_machine.specs.Pieces.{At, Choosing}
use Rattle.awk_store.specs.Wholes.{names_in}
use Rattle.awk_forms.specs.Along.{Along}
use Rattle.awk_run.specs.Rules.{rule_of}
use Rattle.awk_run.proofs.rules.within.Given as goal

abbrev pub invariant-loop-pattern : goal.invariant-loop-pattern
invariant-loop-pattern g l =
    Along g.W.World l.cx (λ m. At
    (Choosing l.n (rule_of (p.range (view (names_in m) l.first) (view (names_in m) l.last))
    (map (view_statement (names_in m)) l.action))) [])
    (λ m k. At (Choosing l.n (rule_of (p.range (view (names_in m) l.first) (view (names_in m) l.last))
    (map (view_statement (names_in m)) l.action))) [] ∷ k) (l.fn.run.store, l.fn.run.streams) l.fn.world
    (l.run.store, l.run.streams) l.world
