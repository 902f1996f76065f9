use Rattle.std.proofs.Common.{◌≢◌, ◌∙◌, [], rules, arith, sym}
use Rattle.std.proofs.lemmas.Grind.{common_steps}
use Rattle.awk_tree.specs.View.{view}
use Rattle.awk_tree.proofs.Views.{view-Pipe}
use Rattle.awk_expressions.proofs.Steps.{seen_as, pipe_of-some}
use Rattle.awk_expressions.proofs.nodes.pipe_of.Goals as goal

pub returns : goal.returns
returns c =
    let some : c.args.more ≢ [] = first_of (search rules, grind (arith, common_steps)) in
    seen_as _ _ _ c.new.ensures (view-Pipe c.args.left c.args.more
    ∙ sym (pipe_of-some (view c.args.left) c.args.more some))
