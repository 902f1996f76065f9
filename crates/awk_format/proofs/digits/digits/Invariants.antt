use Rattle.std.proofs.Common.{◌≡◌, ◌+◌, ◌^◌, ◌<◌, ◌≤◌, length, drop}
use Rattle.std.specs.Fmt.{digits, digits_onto}
use Rattle.awk_format.proofs.digits.digits.Given as goal

-- the digits that are left, before those that are written, are the number's, and there is room for them
abbrev pub invariant-loop-left : goal.invariant-loop-left
invariant-loop-left l = record {
  length_is : length l.buffer ≡ 22;
  room : l.left < l.base ^ l.at;
  some : 0 < l.at;
  within : l.at ≤ 22;
  whole : digits_onto (l.at + 42) l.base l.upper l.left (drop l.at l.buffer)
      ≡ digits l.base l.upper l.fn.number;
}

abbrev pub decreases-loop-left : goal.decreases-loop-left
decreases-loop-left l = l.at
