-- The streams are gone through in order.
use Rattle.std.proofs.Common.{◌≡◌, refl, sym, ap, ◌∙◌, ◌+◌, ℕ, zero, suc, true, false, ◌&&◌, List, [], ◌∷◌, drop, map}
use Rattle.std.proofs.Common.{slice_get, length, ◌≤◌, arith}
use Rattle.std.specs.Prelude.{Some, None, if◌then◌else◌}
use Rattle.std.specs.Str.{bytes_eq}
use Rattle.awk_machine.specs.Closing.{is_closed}
use Rattle.awk_streams.specs.declared.streams.KeptName.{KeptName}
use Rattle.awk_streams.specs.declared.streams.Open.{Open}
use Rattle.awk_streams.specs.Closings.{first_of}
use Rattle.awk_streams.specs.Tables.{entry_of, kind}

-- the one at a place is the one, or the others are gone through
pub first_at : (text : List ℕ) (es : List (KeptName × Open)) (i : ℕ) (e : KeptName × Open) → slice_get es i ≡ Some e →
    first_of text (drop i (map entry_of es)) ≡ (if is_closed (kind e.0.class) && bytes_eq text e.0.text.items then Some
    (kind e.0.class, e.1.number) else first_of text (drop (suc i) (map entry_of es)))
first_at text [] i e h = absurd (cc)
first_at text (x ∷ xs) zero e h = let q : x ≡ e = cc in rw q refl
first_at text (x ∷ xs) (suc i) e h = first_at text xs i e h

pub first_past : (text : List ℕ) (es : List (KeptName × Open)) (i : ℕ) → length es ≤ i
    → first_of text (drop i (map entry_of es)) ≡ None
first_past text [] zero h = refl
first_past text [] (suc i) h = refl
first_past text (x ∷ xs) zero h = absurd (omega arith)
first_past text (x ∷ xs) (suc i) h = first_past text xs i (omega arith)

-- it is here, or behind this place
pub first_here : (text : List ℕ) (es : List (KeptName × Open)) (i : ℕ) (e : KeptName × Open) → slice_get es i ≡ Some e
    → (is_closed (kind e.0.class) && bytes_eq text e.0.text.items) ≡ true →
    first_of text (drop i (map entry_of es)) ≡ Some (kind e.0.class, e.1.number)
first_here text es i e h b = first_at text es i e h ∙ ap (λ z. if z then Some (kind e.0.class, e.1.number) else first_of
    text (drop (suc i) (map entry_of es))) b

pub first_next : (text : List ℕ) (es : List (KeptName × Open)) (i : ℕ) (e : KeptName × Open) → slice_get es i ≡ Some e
    → (is_closed (kind e.0.class) && bytes_eq text e.0.text.items) ≡ false →
    first_of text (drop i (map entry_of es)) ≡ first_of text (drop (i + 1) (map entry_of es))
first_next text es i e h b =
    let n : i + 1 ≡ suc i = omega arith in
    rw n (first_at text es i e h ∙ ap (λ z. if z then Some (kind e.0.class, e.1.number) else first_of text
    (drop (suc i) (map entry_of es))) b)

gone_past : (es : List (KeptName × Open)) (i : ℕ) → slice_get es i ≡ None → length es ≤ i
gone_past [] i h = omega arith
gone_past (x ∷ xs) zero h = absurd (cc)
gone_past (x ∷ xs) (suc i) h = let l = gone_past xs i h in omega (arith, l)

pub first_none : (text : List ℕ) (es : List (KeptName × Open)) (i : ℕ) → slice_get es i ≡ None
    → first_of text (drop i (map entry_of es)) ≡ first_of text (drop (i + 1) (map entry_of es))
first_none text es i h =
    let l = gone_past es i h in first_past text es i l ∙ sym (first_past text es (i + 1) (omega (arith, l)))
