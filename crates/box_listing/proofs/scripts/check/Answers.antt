use Rattle.std.proofs.Common.{◌∙◌, ap, map, List}
use Rattle.awk_resolve.specs.Faults.{names_environ}
use Rattle.awk_resolve.specs.Mentions.{part}
use Rattle.awk_parse.specs.Scripts.{IsScriptOf, tree}
use Rattle.awk_program.specs.View.{view_program}
use Rattle.awk_tree.specs.Tree.{Entry}
use Rattle.awk_tree.specs.View.{view_item}
use Rattle.box_listing.specs.Verdicts.{IsVerdict}
use Rattle.box_listing.specs.Scripts.{sort_of, IsVerdictOf}
use Rattle.box_listing.proofs.Orders.{given, moved}
use Rattle.box_listing.proofs.scripts.check.Goals as goal

pub returns : goal.returns
returns c =
    given c.checked.result
    (λ a. IsVerdict (view_program c.program.result.now) c.as_slice.result.now c.names_environ.result c.args.policy.now
    a)
    (λ a. (items : List Entry) → IsScriptOf items c.args.script.now
    → IsVerdictOf c.args.script.now items c.args.policy.now a)
    (λ a h items is.
    moved (λ p o n. IsVerdict (view_program p) o n c.args.policy.now a) c.program.result.now c.args.script.now.program
    c.as_slice.result.now (map sort_of (tree c.args.script.now)) c.names_environ.result
    (names_environ (map part items))
    c.program.ensures (c.as_slice.ensures.value ∙ c.in_ok-order.ensures ∙ ap (λ xs. map sort_of (map view_item xs))
    c.items.ensures) (c.names_environ.ensures items is) h) c.checked.ensures
