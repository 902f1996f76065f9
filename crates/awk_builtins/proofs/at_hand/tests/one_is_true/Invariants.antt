use Rattle.std.proofs.Common.{◌≡◌, map}
use Rattle.awk_streams.specs.Tables.{Table}
use Rattle.awk_machine.specs.Forms.{value}
use Rattle.awk_machine.specs.State.{Given}
use Rattle.awk_program.specs.Program as p
use Rattle.awk_program.specs.Program.{expressions_of}
use Rattle.awk_program.specs.View.{view}
use Rattle.awk_store.specs.Acts.{Passes}
use Rattle.awk_store.specs.Wholes.{names_in}
use Rattle.awk_text.specs.Values.{truth}
use Rattle.awk_text.specs.declared.value.Value.{Value}
use Rattle.awk_builtins.proofs.Truths.{ors}
use Rattle.awk_builtins.proofs.at_hand.tests.one_is_true.Given as goal

abbrev pub invariant-loop-y : goal.invariant-loop-y
invariant-loop-y l = record {
  val : Value;
  is : l.last ≡ truth l.store.numbers val;
  along : (g : Given) (t : Table)
      → Passes g (value (p.or (view (names_in g) l.x) (expressions_of (map (view (names_in g)) l.xs)))) (l.store, t)
      (ors g (l.store, t) l.xs l.y-index val) (l.store, t);
}
