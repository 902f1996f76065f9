use Rattle.std.proofs.Common.{◌≡◌, ◌++◌, drop, Ok}
use Rattle.awk_format.specs.Directives.{◌>>=◌}
use Rattle.awk_format.specs.NumberTexts.{all_shown}
use Rattle.awk_format.proofs.number_texts.all_shown.Given as goal

-- the values so far and those still to come make the whole
abbrev pub invariant-loop-value : goal.invariant-loop-value
invariant-loop-value l = (all_shown l.by (drop l.value-index l.fn.values) >>= λ ys. Ok (l.made.items ++ ys))
    ≡ all_shown l.by l.fn.values
