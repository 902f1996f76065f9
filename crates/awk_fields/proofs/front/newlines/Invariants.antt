use Rattle.std.proofs.Common.{◌≡◌, ◌+◌, drop}
use Rattle.std.specs.List.{prefix_len}
use Rattle.awk_fields.specs.Heads.{is_newline}
use Rattle.awk_fields.proofs.front.newlines.Given as goal

abbrev pub invariant-loop-i : goal.invariant-loop-i
invariant-loop-i l = l.i + prefix_len is_newline (drop l.i l.unread) ≡ prefix_len is_newline l.unread
