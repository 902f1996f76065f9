use Rattle.std.proofs.Common.{◌≡◌, drop}
use Rattle.awk_streams.specs.Closings.{first_of}
use Rattle.awk_streams.proofs.streams.Streams.first_of.Given as goal

abbrev pub invariant-loop-i : goal.invariant-loop-i
invariant-loop-i l = first_of l.fn.text l.fn.self.entries ≡ first_of l.fn.text (drop l.i l.fn.self.entries)
