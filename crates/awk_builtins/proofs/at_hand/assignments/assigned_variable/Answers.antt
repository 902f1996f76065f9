use Rattle.std.proofs.Common.{sym, ◌∙◌}
use Rattle.awk_program.specs.View.{view}
use Rattle.awk_store.specs.Wholes.{names_in}
use Rattle.awk_builtins.proofs.Storing.{assigns_variable}
use Rattle.awk_builtins.proofs.at_hand.assignments.assigned_variable.Goals as goal

pub returns-clause-done : goal.returns-clause-done
returns-clause-done c = λ yes place. record {
  val = c.in-Some.value;
  gives = λ g t. assigns_variable g (c.args.store.now, t) c.set.new.self place c.args.variable (sym c.is_nf.ensures
      ∙ c.if-is_nf.false) (view (names_in g) c.args.x.now) c.in-Some.value
      (c.chosen.ensures c.in-Some.value c.in-Some.ensures g t) c.set.ensures;
}
