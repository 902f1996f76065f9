use Rattle.std.proofs.Common.{◌≡◌, false}
use Rattle.library_calls.proofs.readers.block.Given as goal

abbrev pub invariant-loop-row : goal.invariant-loop-row
invariant-loop-row l = l.reader.input.ended ≡ false
