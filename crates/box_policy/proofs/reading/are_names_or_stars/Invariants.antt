use Rattle.std.proofs.Common.{◌≡◌, ◌||◌, drop}
use Rattle.std.specs.Prelude.{◌==◌}
use Rattle.std.specs.List.{list_all}
use Rattle.box_policy.specs.Patterns.{is_name_byte}
use Rattle.box_policy.proofs.reading.are_names_or_stars.Given as goal

abbrev pub invariant-loop-byte : goal.invariant-loop-byte
invariant-loop-byte l = list_all (λ b. is_name_byte b || b == 42) (drop l.byte-index l.pattern)
    ≡ list_all (λ b. is_name_byte b || b == 42) l.pattern
