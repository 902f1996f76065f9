-- Numbers without their fractions, and the faults that they can have.
use Rattle.std.proofs.Common.{◌≡◌, refl, subst, ℤ, List, Bool, true, false}
use Rattle.std.specs.Prelude.{ℕ, Result, Ok, Err, if◌then◌else◌}
use Rattle.awk_format.specs.Directives.{◌>>=◌}
use Rattle.awk_numbers.specs.declared.number.Number.{Number}
use Rattle.awk_numbers.specs.declared.number.NumberFault.{NumberFault}
use Rattle.awk_numbers.specs.declared.number.NumberFault.TheVariants as of
use Rattle.awk_numbers.specs.declared.number.Numbers.{Numbers}
use Rattle.awk_numbers.specs.declared.number.Numbers.TheVariants as profile
use Rattle.awk_numbers.specs.Numerals as double
use Rattle.awk_numbers.specs.Operators as on
use Rattle.awk_text.specs.Arithmetic.{whole_of}
use Rattle.awk_text.specs.Faults.{fault_of, or_fault}
use Rattle.awk_text.specs.Numerals.{number, number_in, wholly}
use Rattle.awk_text.specs.Values.{number_of}
use Rattle.awk_text.specs.declared.fault.Fault.{Fault}
use Rattle.awk_text.specs.declared.fault.Fault.TheVariants as fault
use Rattle.awk_text.specs.declared.place.Place.{Place}
use Rattle.awk_text.specs.declared.value.Value.{Value}
use Rattle.awk_text.specs.declared.value.Value.TheVariants as v
use Rattle.awk_store.specs.Numbers.{whole_number}
use Rattle.awk_streams.specs.Chains.{halt_at}
use Rattle.awk_streams.specs.declared.halt.Halt.TheVariants as halt

-- two steps one by one, and as one
pub bound_twice : {A B C : Type 0} (r : Result A Fault) (f : A → Result B Fault) (h : B → Result C Fault) →
    (r >>= λ x. f x >>= h) ≡ ((r >>= f) >>= h)
bound_twice (Ok x) f h = refl
bound_twice (Err e) f h = refl

-- ---- a fault that ends a run as a fault

abbrev pub Plain : Fault → Type 0
Plain f = (place : Place) → halt_at place f ≡ halt.Fault f place

abbrev failed : (A : Type 0) → Fault → Result A Fault
failed A f = Err f

err_is : (A : Type 0) (e f : Fault) → failed A e ≡ failed A f → e ≡ f
err_is A e f is = cc

plain_of : (e : NumberFault) → Plain (fault_of e)
plain_of of.OutOfRange place = refl
plain_of of.ZeroDivisor place = refl

or_plain : {A : Type 0} (r : Result A NumberFault) (f : Fault) → or_fault r ≡ Err f → Plain f
or_plain (Ok x) f is = absurd (cc)
or_plain {A = A} (Err e) f is = subst Plain (err_is A (fault_of e) f is) (plain_of e)

ranged_plain : (z : ℤ) (b : Bool) (f : Fault) → wholly (if b then Ok z else Err fault.OutOfRange) ≡ Err f → Plain f
ranged_plain z true f is = absurd (cc)
ranged_plain z false f is = subst Plain (err_is Number fault.OutOfRange f is) (λ place. refl)

text_plain : (numbers : Numbers) (text : List ℕ) (f : Fault) → number_in numbers text ≡ Err f → Plain f
text_plain profile.Whole text f is = ranged_plain (number text) (on.is_in_range (number text)) f is
text_plain profile.Double text f is = or_plain (double.number text) f is

number_plain : (numbers : Numbers) (val : Value) (f : Fault) → number_of numbers val ≡ Err f → Plain f
number_plain numbers v.Unset f is = absurd (cc)
number_plain numbers (v.Num n) f is = absurd (cc)
number_plain numbers (v.Real x) f is = absurd (cc)
number_plain numbers (v.Text text) f is = text_plain numbers text f is
number_plain numbers (v.Input text) f is = text_plain numbers text f is

whole_by : (r : Result Number Fault) → ((f : Fault) → r ≡ Err f → Plain f) → (f : Fault) → (r >>= whole_of) ≡ Err f
    → Plain f
whole_by (Ok x) plain f is = or_plain (on.whole_of x) f is
whole_by (Err e) plain f is = subst Plain (err_is ℤ e f is) (plain e refl)

pub whole_plain : (numbers : Numbers) (val : Value) (f : Fault) → whole_number numbers val ≡ Err f → Plain f
whole_plain numbers val f is = whole_by (number_of numbers val) (number_plain numbers val) f is
