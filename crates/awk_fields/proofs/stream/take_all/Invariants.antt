use Rattle.std.proofs.Common.{◌≡◌, ◌++◌, ℕ, List, length}
use Rattle.awk_fields.specs.Heads.{FirstRecords}
use Rattle.awk_fields.proofs.stream.take_all.Given as goal

abbrev pub invariant-loop-room : goal.invariant-loop-room
invariant-loop-room l = record {
  texts : (texts : List (List ℕ)) × (l.found.items ≡ l.fn.found.items ++ texts)
      × FirstRecords l.rs l.fn.reader.input.ended l.fn.reader.input.unread texts l.reader.input.unread;
  ended : l.reader.input.ended ≡ l.fn.reader.input.ended;
}

abbrev pub decreases-loop-room : goal.decreases-loop-room
decreases-loop-room l = length l.reader.input.unread
