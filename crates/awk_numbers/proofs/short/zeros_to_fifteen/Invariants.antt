use Rattle.std.proofs.Common.{◌≡◌, ◌-◌, ◌*◌, ◌^◌, ◌<◌, ◌≤◌}
use Rattle.awk_numbers.proofs.short.zeros_to_fifteen.Given as goal

abbrev pub invariant-loop-raised : goal.invariant-loop-raised
invariant-loop-raised l =
    (l.raised ≡ l.number * 10 ^ l.places) × (l.raised < 10 ^ 15) × (l.places ≤ 9) × (0 < l.raised)

abbrev pub decreases-loop-raised : goal.decreases-loop-raised
decreases-loop-raised l = 100000000000000 - l.raised
