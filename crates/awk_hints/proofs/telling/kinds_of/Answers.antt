use Rattle.awk_hints.proofs.TellingLemmas.{format_told, pattern_told, function_told}
use Rattle.awk_hints.proofs.telling.kinds_of.Goals as goal

pub returns-in_ok-format_hints-in-Quoted : goal.returns-in_ok-format_hints-in-Quoted
returns-in_ok-format_hints-in-Quoted c = format_told _ _ _ _ _ _ c.in-Quoted.is c.in_ok-format_hints-in-Quoted.ensures

pub returns-in_ok-escape_hints-in-Pattern : goal.returns-in_ok-escape_hints-in-Pattern
returns-in_ok-escape_hints-in-Pattern c =
    pattern_told _ _ _ _ _ _ c.in-Pattern.is c.in_ok-escape_hints-in-Pattern.ensures

pub returns-in_ok-one-in-CallName : goal.returns-in_ok-one-in-CallName
returns-in_ok-one-in-CallName c = function_told _ _ _ _ _ c.flaw_hint.result _ c.in-CallName.is
    c.in_ok-one-in-CallName.ensures c.flaw_hint.ensures
