use Rattle.std.proofs.Common.{◌+◌, ◌≤◌, ◌++◌, List, ℕ, [], ◌∷◌, length, map, drop}
use Rattle.awk_streams.specs.Tables.{Table}
use Rattle.awk_machine.specs.Pieces.{At, Texts_of}
use Rattle.awk_machine.specs.State.{Given}
use Rattle.awk_program.specs.Program.{joins_of}
use Rattle.awk_program.specs.View.{view_joined}
use Rattle.awk_store.specs.Acts.{Passes}
use Rattle.awk_store.specs.Wholes.{names_in}
use Rattle.awk_text.specs.Limits.{most_bytes}
use Rattle.awk_text.specs.declared.value.Value.TheVariants as v
use Rattle.awk_builtins.proofs.at_hand.growth.gathered.Given as goal

abbrev pub invariant-loop-next : goal.invariant-loop-next
invariant-loop-next l = record {
  within : length l.texts.items ≤ l.room;
  joined : (g : Given) (t : Table) (text : List ℕ) → length text + l.room ≤ most_bytes →
      Passes g (At (Texts_of (joins_of (map (view_joined (names_in g)) l.rest))) (v.Text text ∷ [])) (l.store, t)
      (λ k. At (Texts_of (joins_of (map (view_joined (names_in g)) (drop l.next-index l.rest))))
      (v.Text (text ++ l.texts.items) ∷ []) ∷ k) (l.store, t);
}
