use Rattle.std.proofs.Common.{◌≡◌, ◌+◌, ◌≤◌, ◌++◌, List, length, map}
use Rattle.box_policy.specs.declared.tokens.Token.{Token}
use Rattle.box_policy.specs.Division.{Symbol}
use Rattle.box_policy.specs.Patterns.{symbols}
use Rattle.box_policy.specs.Tables.{Holds}
use Rattle.box_policy.specs.Tokens.{lifted}
use Rattle.box_policy.proofs.matching.put_text.Given as goal

-- what is left of the pattern is still to be put
abbrev pub invariant-loop-element : goal.invariant-loop-element
invariant-loop-element l = record {
  len : length l.blocks ≡ length l.initial.blocks;
  room : l.at + length l.left ≤ l.fn.at + length l.pattern;
  whole : (rest whole : List (Symbol Token))
      → Holds l.sort l.initial.blocks l.fn.at (map lifted (symbols l.sort l.pattern) ++ rest) whole
      → Holds l.sort l.blocks l.at (map lifted (symbols l.sort l.left) ++ rest) whole;
}

abbrev pub decreases-loop-element : goal.decreases-loop-element
decreases-loop-element l = length l.left
