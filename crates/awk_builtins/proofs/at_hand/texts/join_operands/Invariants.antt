use Rattle.std.proofs.Common.{◌≡◌, ◌<◌, ◌≤◌, length, map}
use Rattle.awk_streams.specs.Tables.{Table}
use Rattle.awk_machine.specs.Forms.{value}
use Rattle.awk_machine.specs.State.{Given}
use Rattle.awk_program.specs.Program as p
use Rattle.awk_program.specs.Program.{joins_of}
use Rattle.awk_program.specs.View.{view, view_joined}
use Rattle.awk_store.specs.Acts.{Passes}
use Rattle.awk_store.specs.Wholes.{names_in}
use Rattle.awk_text.specs.Limits.{most_bytes}
use Rattle.awk_text.specs.Values.{text_of}
use Rattle.awk_text.specs.declared.value.Value.{Value}
use Rattle.awk_text.specs.declared.value.Value.TheVariants as v
use Rattle.awk_builtins.specs.Lines.{held}
use Rattle.awk_builtins.proofs.Grown.{behind}
use Rattle.awk_builtins.proofs.at_hand.texts.join_operands.Given as goal

abbrev pub invariant-loop-next : goal.invariant-loop-next
invariant-loop-next l = record {
  val : Value;
  line_is : l.line ≡ held (text_of val);
  along : (g : Given) (t : Table) → length (text_of val) ≤ most_bytes →
      Passes g (value (p.concat (view (names_in g) l.first) (joins_of (map (view_joined (names_in g)) l.rest))))
      (l.store, t) (behind g l.rest l.next-index val) (l.store, t);
  is_text : 0 < l.next-index → val ≡ v.Text (text_of val);
}
