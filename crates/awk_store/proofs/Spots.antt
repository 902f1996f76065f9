-- What is stored at a target.
use Rattle.std.proofs.Common.{◌≡◌, refl, zero, suc}
use Rattle.awk_text.specs.declared.value.Value.{Value}
use Rattle.awk_machine.specs.State.{Course, Given}
use Rattle.awk_machine.specs.Targets as machine
use Rattle.awk_store.specs.States.{Hidden}
use Rattle.awk_store.specs.Spots.{meant, stored}
use Rattle.awk_store.specs.Wholes.{Whole, Agreeing, names_in}
use Rattle.awk_store.specs.declared.spot.Spot.{Spot}
use Rattle.awk_store.specs.declared.spot.Spot.TheVariants as s
use Rattle.awk_store.proofs.Agreeing.{nf-so}

pub stored-so : (g : Given) (w : Whole) (hid : Hidden) (c : Course) → Agreeing g w hid c → (x : Spot) (val : Value)
    → machine.stored w.0.numbers (meant (names_in g) x) val ≡ stored w.0.numbers x val
stored-so g w hid c a (s.Variable x) val = rw (nf-so g w hid c a x) refl
stored-so g w hid c a (s.Element place x key) val = refl
stored-so g w hid c a (s.Field zero) val = refl
stored-so g w hid c a (s.Field (suc n)) val = refl
