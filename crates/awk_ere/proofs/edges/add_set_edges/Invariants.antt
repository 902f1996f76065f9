use Rattle.std.proofs.Common.{◌≡◌, ℕ, ◌+◌, ◌<◌, false}
use Rattle.awk_ere.specs.Lexing.{has}
use Rattle.awk_ere.proofs.edges.add_set_edges.Given as goal

abbrev pub invariant-loop-byte : goal.invariant-loop-byte
invariant-loop-byte l = record {
  kept : (b : ℕ) → has l.edges b ≡ false → has l.fn.edges b ≡ false;
  edges : (b : ℕ) → b + 1 < l.byte → has l.edges (b + 1) ≡ false → has l.set (b + 1) ≡ has l.set b;
}
