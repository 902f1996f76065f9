use Rattle.std.proofs.Common.{◌≡◌, ◌++◌, drop, Ok}
use Rattle.awk_format.specs.Directives.{◌>>=◌}
use Rattle.awk_format.specs.NumberTexts.{shown_where}
use Rattle.awk_format.proofs.number_texts.shown_where.Given as goal

-- the values so far and those still to come make the whole
abbrev pub invariant-loop-value : goal.invariant-loop-value
invariant-loop-value l = (shown_where l.by l.wanted (drop l.value-index l.fn.values) >>= λ ys. Ok (l.made.items ++ ys))
    ≡ shown_where l.by l.wants l.fn.values
