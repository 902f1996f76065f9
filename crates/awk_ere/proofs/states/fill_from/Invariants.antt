use Rattle.std.proofs.Common.{◌≡◌, ◌≤◌, ◌<◌, ℕ, get_or}
use Rattle.awk_ere.proofs.states.fill_from.Given as goal

abbrev pub invariant-loop-at : goal.invariant-loop-at
invariant-loop-at l = record {
  kept : (b : ℕ) → b < l.byte → get_or l.row b 0 ≡ get_or l.fn.row b 0;
  rest : (b : ℕ) → l.byte ≤ b → b < l.at → get_or l.row b 0 ≡ l.state;
}
