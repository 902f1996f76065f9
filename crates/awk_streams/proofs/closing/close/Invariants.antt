use Rattle.std.proofs.Common.{◌∷◌, length}
use Rattle.std.specs.Prelude.{None, option_map}
use Rattle.awk_text.specs.declared.value.Value.TheVariants.{Num}
use Rattle.awk_machine.specs.Pieces.{Close, Do}
use Rattle.awk_machine.specs.State.{Given, State}
use Rattle.awk_streams.specs.Chains.{Leads}
use Rattle.awk_streams.specs.Tasks.{Owns, IsTable, beside}
use Rattle.awk_streams.proofs.closing.close.Given as goal

abbrev pub invariant-loop-class : goal.invariant-loop-class
invariant-loop-class g l =
    ((m : Given) (s : State) → Leads g.W.World (beside s) IsTable (λ t. s.course.used) m
    (Do (Close l.fn.place l.text None)) l.fn.streams l.fn.world
    (λ k. Do (Close l.fn.place l.text (option_map (λ n. Num n) l.answer)) ∷ k) l.streams l.world)
    × Owns (g.W.World.open_numbers l.world) l.streams

abbrev pub decreases-loop-class : goal.decreases-loop-class
decreases-loop-class g l = length l.streams.entries
