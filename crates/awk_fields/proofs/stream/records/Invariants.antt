use Rattle.std.proofs.Common.{◌≡◌, ◌++◌, ℕ, List, true, false, take}
use Rattle.std.specs.List.{flat_map}
use Rattle.awk_fields.specs.Heads.{FirstRecords}
use Rattle.awk_fields.proofs.stream.records.Given as goal

abbrev pub invariant-loop-piece : goal.invariant-loop-piece
invariant-loop-piece l = record {
  open_still : l.reader.input.ended ≡ false;
  found_are : (later : List ℕ) → FirstRecords l.rs true (flat_map (λ piece. piece) (take l.piece-index l.pieces)
      ++ later) l.found.items (l.reader.input.unread ++ later);
}
