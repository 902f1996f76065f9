-- What the machine makes of the items of a print.
use Rattle.std.proofs.Common.{◌≡◌, refl, sym, ap, ◌∙◌, Bool, true, false, ◌==◌, List, [], ◌∷◌, ◌++◌, length}
use Rattle.std.specs.Prelude.{if◌then◌else◌, Result, Ok, Err}
use Rattle.awk_fields.specs.Rows.{joined}
use Rattle.awk_format.specs.Directives.{◌>>=◌}
use Rattle.awk_format.specs.NumberTexts.{is_usual, values_by}
use Rattle.awk_text.specs.declared.fault.Fault.{Fault}
use Rattle.awk_text.specs.declared.value.Value.{Value}
use Rattle.awk_text.specs.declared.value.Value.TheVariants as v
use Rattle.awk_program.specs.Slots.{name_of, Text}
use Rattle.awk_program.specs.declared.variables.Own.TheVariants as own
use Rattle.awk_machine.specs.Operators.{limited}
use Rattle.awk_machine.specs.Printing as machine
use Rattle.awk_machine.specs.State.{Course, Given}
use Rattle.awk_machine.specs.Streams.{seen}
use Rattle.awk_machine.specs.Variables as variables
use Rattle.awk_store.specs.Kept as kept
use Rattle.awk_store.specs.States.{Hidden}
use Rattle.awk_store.specs.Wholes.{Whole, Agreeing, base}
use Rattle.awk_builtins.specs.Printed as spec
use Rattle.awk_store.proofs.Agreeing.{own-text-so, whole_kept}
use Rattle.awk_builtins.proofs.Lines.{joined_one}

abbrev values_ok : List Value → Result (List Value) Fault
values_ok vs = Ok vs

pub then_same : {A B : Type 0} (r : Result A Fault) (f h : A → Result B Fault) → ((x : A) → f x ≡ h x)
    → (r >>= f) ≡ (r >>= h)
then_same (Ok x) f h e = e x
then_same (Err fault) f h e = refl

-- ---- the text of a print

module _ (g : Given) (w : Whole) (hid : Hidden) (c : Course) (a : Agreeing g w hid c) where
  items-so : (vs : List Value) → machine.items (seen (base g w hid) c) vs ≡ spec.items w.0 vs
  items-so [] = ap (λ t. v.Input t ∷ []) (sym (whole_kept hid.row w.0.row a.row))
  items-so (x ∷ xs) = refl

  line-so : (vs : List Value) → machine.line_of (seen (base g w hid) c) vs ≡ spec.line_of w.0 vs
  line-so vs =
      ap (λ ofs. limited (joined ofs vs ++ variables.own_text (seen (base g w hid) c) (name_of own.Ors)))
      (own-text-so g w hid c a own.Ofs)
      ∙ ap (λ ors. limited (joined (kept.own_text w.0 own.Ofs) vs ++ ors)) (own-text-so g w hid c a own.Ors)

  pub printed-so : (vs : List Value) → machine.printed (seen (base g w hid) c) vs ≡ spec.printed w.0 vs
  printed-so vs =
      ap (λ by. values_by w.0.numbers by (machine.items (seen (base g w hid) c) vs)
      >>= machine.line_of (seen (base g w hid) c)) (own-text-so g w hid c a own.Ofmt)
      ∙ ap (λ is. values_by w.0.numbers (kept.own_text w.0 own.Ofmt) is
      >>= machine.line_of (seen (base g w hid) c)) (items-so vs)
      ∙ then_same (values_by w.0.numbers (kept.own_text w.0 own.Ofmt) (spec.items w.0 vs))
      (machine.line_of (seen (base g w hid) c)) (spec.line_of w.0) line-so

-- ---- the same where OFMT changes no text, and of the whole record

pub usual_line : (kept_ : kept.Kept) (vs : List Value) (text : Text)
    → is_usual kept_.numbers (kept.own_text kept_ own.Ofmt) ≡ true → spec.line_of kept_ vs ≡ Ok text
    → spec.by_ofmt kept_ vs ≡ Ok text
usual_line kept_ vs text e h = rw e h

either_way : {A : Type 0} (b : Bool) (x : A) → (if b then x else x) ≡ x
either_way true x = refl
either_way false x = refl

pub record_line : (kept_ : kept.Kept)
    → spec.printed kept_ [] ≡ limited (kept_.row.whole ++ kept.own_text kept_ own.Ors)
record_line kept_ =
    ap (λ r. r >>= spec.line_of kept_) (either_way (is_usual kept_.numbers (kept.own_text kept_ own.Ofmt))
    (values_ok (v.Input kept_.row.whole ∷ [])))
    ∙ ap (λ t. limited (t ++ kept.own_text kept_ own.Ors))
    (joined_one (kept.own_text kept_ own.Ofs) (v.Input kept_.row.whole))

pub some_items : (kept_ : kept.Kept) (vs : List Value) → false ≡ (length vs == 0)
    → spec.printed kept_ vs ≡ spec.by_ofmt kept_ vs
some_items kept_ [] e = absurd (cc)
some_items kept_ (x ∷ xs) e = refl
