use Rattle.awk_eval.proofs.Going.{block_first}
use Rattle.awk_forms.proofs.Leading.{quietly}
use Rattle.awk_streams.proofs.Chain.{at_once, passes}
use Rattle.awk_machine.specs.Pieces.{Do, Each}
use Rattle.awk_program.proofs.Views.{statement-Block}
use Rattle.awk_program.specs.View.{view_statement}
use Rattle.awk_store.specs.Wholes.{names_in}
use Rattle.std.proofs.Common.{map, refl, ◌∷◌}
use Rattle.awk_eval.proofs.statements.block.Goals as goal

pub returns-in-Block : goal.returns-in-Block
returns-in-Block g c =
    record {
      plays = λ m is. rw (c.in-Block.is, statement-Block)
          (passes (quietly {then_ = λ k. Do (Each (map (view_statement (names_in m)) c.in-Block.xs)) ∷ k} (at_once _ _ _)
          (λ k hid d a. block_first m (map (view_statement (names_in m)) c.in-Block.xs) k _))
          (rw c.as_slice.ensures at (c.body.ensures.plays m is)));
      owns = c.body.ensures.owns;
    }
