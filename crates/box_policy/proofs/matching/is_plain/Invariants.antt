use Rattle.std.proofs.Common.{◌≡◌, drop}
use Rattle.box_policy.specs.Plain.{is_plain_pattern}
use Rattle.box_policy.proofs.matching.is_plain.Given as goal

abbrev pub invariant-loop-byte : goal.invariant-loop-byte
invariant-loop-byte l = is_plain_pattern l.sort (drop l.byte-index l.pattern) ≡ is_plain_pattern l.sort l.pattern
