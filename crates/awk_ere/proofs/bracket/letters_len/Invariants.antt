use Rattle.std.proofs.Common.{◌≡◌, ◌+◌, drop}
use Rattle.std.specs.List.{prefix_len}
use Rattle.std.specs.Char.{is_ascii_lowercase}
use Rattle.awk_ere.proofs.bracket.letters_len.Given as goal

abbrev pub invariant-loop-byte : goal.invariant-loop-byte
invariant-loop-byte l = (l.len ≡ l.byte-index) × (l.len + prefix_len is_ascii_lowercase (drop l.byte-index l.text)
    ≡ prefix_len is_ascii_lowercase l.text)
