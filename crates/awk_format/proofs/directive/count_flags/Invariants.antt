use Rattle.std.proofs.Common.{◌≡◌, ◌+◌, drop}
use Rattle.std.specs.List.{prefix_len}
use Rattle.awk_format.specs.Directives.{is_flag}
use Rattle.awk_format.proofs.directive.count_flags.Given as goal

-- all bytes so far are flags
abbrev pub invariant-loop-i : goal.invariant-loop-i
invariant-loop-i l = prefix_len is_flag l.text ≡ l.i + prefix_len is_flag (drop l.i l.text)
