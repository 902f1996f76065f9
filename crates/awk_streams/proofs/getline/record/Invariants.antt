use Rattle.std.proofs.Common.{◌≡◌, List, ◌∷◌}
use Rattle.std.specs.Prelude.{codes}
use Rattle.awk_machine.specs.Pieces.{Piece}
use Rattle.awk_machine.specs.State.{Given, State}
use Rattle.awk_machine.specs.Variables.{own_text}
use Rattle.awk_streams.specs.declared.getline.NextRecord.{NextRecord}
use Rattle.awk_streams.specs.Chains.{Leads}
use Rattle.awk_streams.specs.Readings.{IsLive, IsReading, key_of}
use Rattle.awk_streams.specs.Tasks.{Owns, IsTable, beside}
use Rattle.awk_streams.proofs.getline.record.Given as goal

abbrev pub invariant-loop : goal.invariant-loop
invariant-loop g l =
    ((m : Given) (s : State) (p : Piece) (to : NextRecord → List Piece → List Piece)
    → IsReading m s p l.fn.place (key_of l.fn.source) to → own_text s (codes "RS") ≡ l.fn.rs →
    Leads g.W.World (beside s) IsTable (λ t. s.course.used) m p l.fn.streams l.fn.world (λ k. p ∷ k) l.streams l.world)
    × Owns (g.W.World.open_numbers l.world) l.streams × IsLive (key_of l.fn.source) l.streams
