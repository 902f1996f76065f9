use Rattle.std.proofs.Common.{◌≡◌, ◌<◌, ◌*◌, ◌++◌, List, length, map, drop}
use Rattle.box_policy.specs.declared.tokens.Token.{Token}
use Rattle.box_policy.specs.declared.tokens.Token.TheVariants.{Byte}
use Rattle.box_policy.specs.Blocks.{has}
use Rattle.box_policy.specs.Cells.{row, never, reach, ones}
use Rattle.box_policy.specs.Division.{Symbol}
use Rattle.box_policy.specs.Tables.{IsTable}
use Rattle.box_policy.proofs.table.walk_text.Given as goal

-- what is left of the text fits from some place that is reached
abbrev pub invariant-loop-byte : goal.invariant-loop-byte
invariant-loop-byte l = record {
  len : length l.reached ≡ length l.initial.reached;
  whole : (symbols : List (Symbol Token)) (rest : List Token) → IsTable l.sort l.blocks symbols
      → ones symbols < 64 * length l.initial.reached
      → reach (has l.reached) (row never symbols) (map Byte (drop l.byte-index l.text) ++ rest)
      ≡ reach (has l.initial.reached) (row never symbols) (map Byte l.text ++ rest);
}
