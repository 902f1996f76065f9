use Rattle.std.proofs.Common.{◌≡◌, ◌++◌, length}
use Rattle.awk_format.specs.Formatted.{pieces}
use Rattle.awk_format.specs.NumberTexts.{directives, wants_texts}
use Rattle.awk_format.proofs.number_texts.texts_wanted.Given as goal

-- what is found so far and what is still to be found make the whole
abbrev pub invariant-loop-rest : goal.invariant-loop-rest
invariant-loop-rest l = l.wants.items ++ wants_texts (directives (pieces l.numbers l.rest))
    ≡ wants_texts (directives (pieces l.numbers l.format))

abbrev pub decreases-loop-rest : goal.decreases-loop-rest
decreases-loop-rest l = length l.rest
