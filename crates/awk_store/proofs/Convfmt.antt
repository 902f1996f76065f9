-- What CONVFMT makes of values, by the machine's state and by the store, and where it changes no text.
use Rattle.std.proofs.Common.{◌≡◌, ap, refl, true}
use Rattle.std.specs.Float.{Float}
use Rattle.std.specs.Prelude.{Ok}
use Rattle.awk_format.specs.NumberTexts.{is_usual, value_by}
use Rattle.awk_text.specs.declared.value.Value.{Value}
use Rattle.awk_text.specs.declared.value.Value.TheVariants as v
use Rattle.awk_program.specs.declared.variables.Own.TheVariants as own
use Rattle.awk_machine.specs.State.{Course, Given}
use Rattle.awk_machine.specs.Streams.{seen}
use Rattle.awk_machine.specs.Variables as variables
use Rattle.awk_store.specs.Kept.{Kept, by_convfmt, own_text}
use Rattle.awk_store.specs.States.{Hidden}
use Rattle.awk_store.specs.Wholes.{Agreeing, Whole, base}
use Rattle.awk_store.proofs.Agreeing.{own-text-so}

module _ (g : Given) (w : Whole) (hid : Hidden) (c : Course) (a : Agreeing g w hid c) where
  pub convfmt-so : (x : Value) → variables.by_convfmt (seen (base g w hid) c) x ≡ by_convfmt w.0 x
  convfmt-so x = ap (λ by. value_by w.0.numbers by x) (own-text-so g w hid c a own.Convfmt)

-- where CONVFMT is the usual one, a value stays
pub usual_stays : (kept : Kept) (x : Value) → is_usual kept.numbers (own_text kept own.Convfmt) ≡ true
    → by_convfmt kept x ≡ Ok x
usual_stays kept v.Unset e = refl
usual_stays kept (v.Num n) e = refl
usual_stays kept (v.Real x) e = rw e refl
usual_stays kept (v.Text x) e = refl
usual_stays kept (v.Input x) e = refl

-- and so does what is no number with a fraction
pub stays_unless : (kept : Kept) (x : Value) → ((y : Float) → x ≡ v.Real y → ⊥) → by_convfmt kept x ≡ Ok x
stays_unless kept v.Unset none = refl
stays_unless kept (v.Num n) none = refl
stays_unless kept (v.Real y) none = absurd (none y refl)
stays_unless kept (v.Text x) none = refl
stays_unless kept (v.Input x) none = refl
