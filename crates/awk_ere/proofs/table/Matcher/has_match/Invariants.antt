use Rattle.awk_ere.specs.Matcher.{NoneTo}
use Rattle.awk_ere.proofs.table.Matcher.has_match.Given as goal

abbrev pub invariant-loop-tried : goal.invariant-loop-tried
invariant-loop-tried l = NoneTo l.self l.text 0 l.at
