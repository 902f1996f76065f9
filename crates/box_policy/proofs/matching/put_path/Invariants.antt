use Rattle.std.proofs.Common.{◌≡◌, ◌+◌, ◌≤◌, ◌++◌, List, length, map}
use Rattle.box_policy.specs.declared.tokens.Sort.TheVariants.{Component}
use Rattle.box_policy.specs.declared.tokens.Token.{Token}
use Rattle.box_policy.specs.Division.{Symbol}
use Rattle.box_policy.specs.Paths.{names}
use Rattle.box_policy.specs.Tables.{Holds}
use Rattle.box_policy.specs.Tokens.{flat, width}
use Rattle.box_policy.proofs.matching.put_path.Given as goal

-- what is left of the components is still to be put
abbrev pub invariant-loop-piece : goal.invariant-loop-piece
invariant-loop-piece l = record {
  len : length l.blocks ≡ length l.initial.blocks;
  room : l.at + width (names l.left) ≤ width (names l.pattern);
  whole : (rest whole : List (Symbol Token)) → Holds Component l.initial.blocks 0 (flat (names l.pattern) ++ rest) whole
      → Holds Component l.blocks l.at (flat (names l.left) ++ rest) whole;
}

abbrev pub decreases-loop-piece : goal.decreases-loop-piece
decreases-loop-piece l = length l.left
