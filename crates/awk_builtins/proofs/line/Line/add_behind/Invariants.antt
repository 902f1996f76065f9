use Rattle.std.proofs.Common.{◌≡◌, ℕ, List, ◌++◌, drop}
use Rattle.std.specs.List.{flat_map}
use Rattle.awk_text.specs.Values.{text_of}
use Rattle.awk_lib.specs.Written.{written}
use Rattle.awk_builtins.proofs.line.Line.add_behind.Given as goal

-- what is still to come makes the whole, with whatever stands behind it
abbrev pub invariant-loop-value : goal.invariant-loop-value
invariant-loop-value l =
    (more : List ℕ) → written l.self (flat_map (λ v. l.separator ++ text_of v) (drop l.value-index l.values) ++ more)
    ≡ written l.fn.self (flat_map (λ v. l.separator ++ text_of v) l.fn.values ++ more)
