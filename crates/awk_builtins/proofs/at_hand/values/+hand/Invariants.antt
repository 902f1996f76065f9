use Rattle.std.proofs.Common.{◌≡◌, ◌≤◌, ◌+◌, ◌*◌, map}
use Rattle.std.specs.Prelude.{Ok}
use Rattle.awk_numbers.specs.declared.number.Number.TheVariants as number
use Rattle.awk_streams.specs.Tables.{Table}
use Rattle.awk_machine.specs.Forms.{value}
use Rattle.awk_machine.specs.State.{Given}
use Rattle.awk_program.specs.Program as p
use Rattle.awk_program.specs.Program.{terms_of}
use Rattle.awk_program.specs.View.{view, view_term}
use Rattle.awk_store.specs.Acts.{Passes}
use Rattle.awk_store.specs.Wholes.{names_in}
use Rattle.awk_text.specs.Values.{number_of}
use Rattle.awk_text.specs.declared.value.Value.{Value}
use Rattle.awk_text.specs.declared.value.Value.TheVariants as v
use Rattle.awk_builtins.proofs.AtHand.{waiting}
use Rattle.awk_builtins.proofs.at_hand.values.+hand.Given as goal

abbrev pub invariant-chain_at_hand-loop-next : goal.invariant-chain_at_hand-loop-next
invariant-chain_at_hand-loop-next l = record {
  val : Value;
  number : number_of l.store.numbers val ≡ Ok (number.Whole l.so_far);
  exact : 1 ≤ l.next-index → val ≡ v.Num l.so_far;
  along : (g : Given) (t : Table)
      → Passes g (value (p.chain (view (names_in g) l.x) (terms_of (map (view_term (names_in g)) l.xs)))) (l.store, t)
      (waiting g (l.store, t) l.xs l.next-index val) (l.store, t);
}

abbrev pub decreases-target_at_hand : goal.decreases-target_at_hand
decreases-target_at_hand l = 0 + 5 * l.level

abbrev pub decreases-at_hand : goal.decreases-at_hand
decreases-at_hand l = 1 + 5 * l.level

abbrev pub decreases-number_of_target : goal.decreases-number_of_target
decreases-number_of_target l = 1 + 5 * l.level

abbrev pub decreases-number_at_hand : goal.decreases-number_at_hand
decreases-number_at_hand l = 2 + 5 * l.level

abbrev pub decreases-element_at_hand : goal.decreases-element_at_hand
decreases-element_at_hand l = 3 + 5 * l.level

abbrev pub decreases-field_at_hand : goal.decreases-field_at_hand
decreases-field_at_hand l = 3 + 5 * l.level

abbrev pub decreases-chain_at_hand : goal.decreases-chain_at_hand
decreases-chain_at_hand l = 3 + 5 * l.level

abbrev pub decreases-made_at_hand : goal.decreases-made_at_hand
decreases-made_at_hand l = 5 + 5 * l.level

abbrev pub decreases-called_at_hand : goal.decreases-called_at_hand
decreases-called_at_hand l = 4 + 5 * l.level

abbrev pub decreases-substr_at_hand : goal.decreases-substr_at_hand
decreases-substr_at_hand l = 3 + 5 * l.level

abbrev pub decreases-number_made : goal.decreases-number_made
decreases-number_made l = 6 + 5 * l.level
