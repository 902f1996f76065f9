use Rattle.std.proofs.Common.{◌≡◌, ◌+◌, drop}
use Rattle.std.specs.List.{position_or_len}
use Rattle.awk_machine.specs.MainInput.{is_equals}
use Rattle.awk_input.proofs.operands.name_length.Given as goal

-- no byte so far is a `=`
abbrev pub invariant-loop-i : goal.invariant-loop-i
invariant-loop-i l = position_or_len is_equals l.text ≡ l.i + position_or_len is_equals (drop l.i l.text)
