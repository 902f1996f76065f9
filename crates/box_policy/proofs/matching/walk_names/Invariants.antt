use Rattle.std.proofs.Common.{◌≡◌, ◌<◌, ◌*◌, ◌++◌, List, length}
use Rattle.box_policy.specs.declared.tokens.Sort.TheVariants.{Component}
use Rattle.box_policy.specs.declared.tokens.Token.{Token}
use Rattle.box_policy.specs.Blocks.{has}
use Rattle.box_policy.specs.Cells.{row, never, reach, ones}
use Rattle.box_policy.specs.Division.{Symbol}
use Rattle.box_policy.specs.NamesLeft.{names_left}
use Rattle.box_policy.specs.Tables.{IsTable}
use Rattle.box_policy.specs.Tokens.{stream}
use Rattle.box_policy.proofs.matching.walk_names.Given as goal

-- what is left of the components fits from some place that is reached
abbrev pub invariant-loop-name : goal.invariant-loop-name
invariant-loop-name l = record {
  len : length l.reached ≡ length l.initial.reached;
  whole : (symbols : List (Symbol Token)) → IsTable Component l.blocks symbols
      → ones symbols < 64 * length l.initial.reached
      → reach (has l.reached) (row never symbols) (stream (names_left l.subject)) ≡ reach (has l.initial.reached)
      (row never symbols) (stream (names_left l.fn.subject));
}
