-- What is read of a target whose reading changes nothing.
use Rattle.std.proofs.Common.{◌≡◌, refl, sym, ap, false}
use Rattle.std.specs.Prelude.{Some}
use Rattle.awk_text.specs.declared.place.Place.{Place}
use Rattle.awk_text.specs.declared.value.Value.{Value}
use Rattle.awk_text.specs.declared.value.Value.TheVariants as v
use Rattle.awk_program.specs.Slots.{Text}
use Rattle.awk_program.specs.declared.variables.Variable.{Variable}
use Rattle.awk_lib.specs.Arrays.{element}
use Rattle.awk_machine.specs.Pieces.{Do, Get, Goes, give}
use Rattle.awk_machine.specs.State.{Given}
use Rattle.awk_machine.specs.Streams.{seen}
use Rattle.awk_store.specs.Kept as kept
use Rattle.awk_store.specs.Wholes.{Whole, base, names_in}
use Rattle.awk_store.specs.Acts.{Passes}
use Rattle.awk_store.specs.Spots.{meant}
use Rattle.awk_store.specs.declared.spot.Spot.TheVariants as s
use Rattle.awk_store.proofs.Acting.{at_rest, moves, doing}
use Rattle.awk_store.proofs.ArraySteps.{reads_element}
use Rattle.awk_store.proofs.Agreeing.{whole_kept}
use Rattle.awk_store.proofs.VariableSteps.{reads_variable}

module _ (g : Given) (w : Whole) where
  pub lends_variable : (x : Variable) → kept.is_nf x ≡ false → Passes g (Do (Get (meant (names_in g) (s.Variable x)))) w
      (give (kept.value w.0 x)) w
  lends_variable x n = doing (kept.value w.0 x) (at_rest _ w) (reads_variable g w x n) refl

  pub lends_element : (place : Place) (x : Variable) (key : Text) (val : Value) → element (kept.array w.0 x) key
      ≡ Some val → Passes g (Do (Get (meant (names_in g) (s.Element place x key)))) w (give val) w
  lends_element place x key val e = doing val (at_rest _ w) (reads_element g w x key place val e) refl

  pub lends_whole : Passes g (Do (Get (meant (names_in g) (s.Field 0)))) w (give (v.Input w.0.row.whole)) w
  lends_whole = moves (at_rest _ w) (λ k hid c a. ap (λ t. Goes (give (v.Input t) k) (seen (base g w hid) c))
      (sym (whole_kept hid.row w.0.row a.row)))
