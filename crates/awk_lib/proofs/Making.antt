-- The new text, made match by match.
use Rattle.std.proofs.Common.{◌≡◌, ℕ, ◌+◌, ◌-◌, ◌≤◌, ◌<◌, Bool, true, false, ℤ, pos, List, [], ◌∷◌, ◌++◌, length, take}
use Rattle.std.proofs.Common.{drop, Option, Some, None, refl, sym, ap, ap₂, subst, ◌∙◌, append_assoc, append-nil}
use Rattle.std.proofs.Common.{length-append, arith}
use Rattle.std.proofs.lemmas.Bool.Decides.{nat_tests}
use Rattle.std.specs.Prelude.{nat_le}
use Rattle.std.specs.List.{slice_range}
use Rattle.awk_text.specs.Limits.{most_bytes}
use Rattle.awk_ere.specs.Spelled.{Finds}
use Rattle.awk_lib.specs.Replacing.{next_from, AllFrom, filled, replaced, IsReplaced, IsTooLong}
use Rattle.awk_lib.specs.Seeking.{IsNextMatch}
use Rattle.awk_lib.specs.Written.{written}
use Rattle.awk_lib.proofs.Matching.{past}

-- one piece after the other is the two together
pub written-written : (o : Option (List ℕ)) (a b : List ℕ) → written (written o a) b ≡ written o (a ++ b)
written-written None a b = refl
written-written (Some text) a b = grind (arith, nat_tests, length-append {A = ℕ}, append_assoc {A = ℕ})

-- a text that is made from nothing is the whole, within the limit; or the whole is over it
made_is_by : (b : Bool) (whole new : List ℕ) → nat_le (0 + length whole) most_bytes ≡ b
    → written (Some []) whole ≡ Some new → new ≡ whole
made_is_by true whole new t e = let f = rw t at e in cc
made_is_by false whole new t e = let f = rw t at e in cc

pub made_is : (whole new : List ℕ) → written (Some []) whole ≡ Some new → new ≡ whole
made_is whole new e = made_is_by (nat_le (0 + length whole) most_bytes) whole new refl e

pub made_long : (whole : List ℕ) → written (Some []) whole ≡ None → most_bytes < length whole
made_long whole e = grind (arith, nat_tests)

-- the bytes before a sign, what the sign stands for, and what is still to come
pub filled_step : (o o1 o2 : Option (List ℕ)) (matched rest plain signs piece after : List ℕ) (at : ℕ)
    → plain ≡ take at rest → signs ≡ drop at rest
    → filled matched false rest ≡ take at rest ++ filled matched false (drop at rest)
    → filled matched false signs ≡ piece ++ filled matched false after
    → o1 ≡ written o plain → o2 ≡ written o1 piece → written o2 (filled matched false after)
    ≡ written o (filled matched false rest)
filled_step o o1 o2 matched rest plain signs piece after at plain_is signs_is split by_sign one two =
    let later = filled matched false after in
    ap (λ x. written x later) two
    ∙ written-written o1 piece later
    ∙ ap (λ x. written x (piece ++ later)) one
    ∙ written-written o plain (piece ++ later)
    ∙ ap (written o) (ap₂ (λ x y. x ++ y) plain_is (sym by_sign ∙ ap (filled matched false) signs_is) ∙ sym split)

-- ---- the matches so far

-- What was found before a place, and what was made of it: whatever is replaced from there on comes
-- behind.
pub record Turn (source with text : List ℕ) (next : Option (ℕ × ℕ)) (done count : ℕ) (out : Option (List ℕ)) : Type 0
  where
    pub from : ℕ
    pub last : Option ℕ
    pub so_far : List (ℕ × ℕ)
    pub is_next : IsNextMatch source text from last next
    pub low : done ≤ from
    pub inside : done ≤ length text
    pub few : count ≤ from
    pub count_is : count ≡ length so_far
    pub some : next ≡ None → 0 < count
    pub leads : (rest : List (ℕ × ℕ)) → AllFrom source text from last rest → AllFrom source text 0 None (so_far ++ rest)
    pub made : (rest : List (ℕ × ℕ)) → written out (replaced with text done rest) ≡ written (Some [])
        (replaced with text 0 (so_far ++ rest))

-- how much of the text the search has still before it
abbrev pub left_of : ℕ → Option (ℕ × ℕ) → ℕ
left_of len None = 0
left_of len (Some m) = len + 1 - m.0

module _ (source with text : List ℕ) where
  pub turn_begin : (next : Option (ℕ × ℕ)) → IsNextMatch source text 0 None next → (next ≡ None → ⊥)
      → Turn source with text next 0 0 (Some [])
  turn_begin next is some =
      record {
        from = 0;
        last = None;
        so_far = [];
        is_next = is;
        low = omega arith;
        inside = omega arith;
        few = omega arith;
        count_is = refl;
        some = λ none. absurd (some none);
        leads = λ rest h. h;
        made = λ rest. refl;
      }

  pub turn_on : (i j : ℕ) (next : Option (ℕ × ℕ)) (done count : ℕ) (out new : Option (List ℕ))
      → Turn source with text (Some (i, j)) done count out
      → new ≡ written out (slice_range text done i ++ filled (slice_range text i j) false with)
      → IsNextMatch source text (next_from (i, j)) (Some j) next → Turn source with text next j (count + 1) new
  turn_on i j next done count out new t wrote is =
      let here = t.is_next in
      let behind = past i j here.ordered in
      record {
        from = next_from (i, j);
        last = Some j;
        so_far = t.so_far ++ (i, j) ∷ [];
        is_next = is;
        low = behind.least;
        inside = here.inside;
        few = omega (arith, t.few, here.after, behind.behind);
        count_is = omega (arith, t.count_is, length-append t.so_far ((i, j) ∷ []));
        some = λ none. omega arith;
        leads = λ rest h. let Q : List (ℕ × ℕ) → Type 0 = λ ms. AllFrom source text 0 None ms in
            subst Q (sym (append_assoc t.so_far ((i, j) ∷ []) rest)) (t.leads ((i, j) ∷ rest) (here.leads rest h));
        made = λ rest.
            let piece = slice_range text done i ++ filled (slice_range text i j) false with in
            ap (λ o. written o (replaced with text j rest)) wrote
            ∙ written-written out piece (replaced with text j rest)
            ∙ t.made ((i, j) ∷ rest)
            ∙ ap (λ ms. written (Some []) (replaced with text 0 ms)) (sym (append_assoc t.so_far ((i, j) ∷ []) rest));
      }

  -- the whole list of matches, and what is made of it
  pub turn_found : (done count : ℕ) (out : Option (List ℕ)) (t : Turn source with text None done count out)
      → AllFrom source text 0 None t.so_far
  turn_found done count out t =
      let Q : List (ℕ × ℕ) → Type 0 = λ ms. AllFrom source text 0 None ms in
      subst Q (append-nil t.so_far) (t.leads [] t.is_next)

  pub turn_made : (done count : ℕ) (out : Option (List ℕ)) (t : Turn source with text None done count out)
      → written out (drop done text) ≡ written (Some []) (replaced with text 0 t.so_far)
  turn_made done count out t = t.made [] ∙ ap (λ ms. written (Some []) (replaced with text 0 ms)) (append-nil t.so_far)

  -- there is one at least
  nonempty : (P : List (ℕ × ℕ) → Type 0) (ms : List (ℕ × ℕ)) → 0 < length ms → P ms → (m : ℕ × ℕ)
      × (rest : List (ℕ × ℕ)) × P (m ∷ rest)
  nonempty P [] lt h = absurd (omega arith)
  nonempty P (m ∷ rest) lt h = (m, rest, h)

  module _ (done count : ℕ) (out : Option (List ℕ)) (piece : List ℕ) (piece_is : piece ≡ drop done text) where
    pub turn_replaced : (new : List ℕ) (number : ℤ) → Turn source with text None done count out
        → written out piece ≡ Some new → number ≡ pos count → (m : ℕ × ℕ) × (ms : List (ℕ × ℕ))
        × IsReplaced source with text true (m ∷ ms) new number
    turn_replaced new number t e is =
        nonempty (λ ms. IsReplaced source with text true ms new number) t.so_far
        (omega (arith, t.some refl, t.count_is)) (record {
          found = turn_found done count out t;
          text_is = made_is _ new (sym (turn_made done count out t) ∙ ap (written out) (sym piece_is) ∙ e);
          count_is = is ∙ ap pos t.count_is;
        })

    pub turn_too_long : Turn source with text None done count out → written out piece ≡ None → (m : ℕ × ℕ)
        × (ms : List (ℕ × ℕ)) × IsTooLong source with text true (m ∷ ms)
    turn_too_long t e =
        nonempty (IsTooLong source with text true) t.so_far (omega (arith, t.some refl, t.count_is)) (record {
          found = turn_found done count out t;
          long = made_long _ (sym (turn_made done count out t) ∙ ap (written out) (sym piece_is) ∙ e);
        })

  -- ---- the first match alone

  module _ (i j : ℕ) (out : Option (List ℕ)) (piece : List ℕ) (found : Finds source text 0 (Some (i, j)))
      (wrote : out ≡ written (Some []) (slice_range text 0 i ++ filled (slice_range text i j) false with))
      (piece_is : piece ≡ drop j text) where
    first_made : written out piece ≡ written (Some []) (replaced with text 0 ((i, j) ∷ []))
    first_made =
        ap₂ written wrote piece_is ∙ written-written (Some []) (slice_range text 0 i ++ filled (slice_range text i j)
        false with) (drop j text)

    pub first_replaced : (new : List ℕ) → written out piece ≡ Some new
        → IsReplaced source with text false ((i, j) ∷ []) new (pos 1)
    first_replaced new e = record {
      found = (Some (i, j), found, refl);
      text_is = made_is _ new (sym first_made ∙ e);
      count_is = refl;
    }

    pub first_too_long : written out piece ≡ None → IsTooLong source with text false ((i, j) ∷ [])
    first_too_long e = record { found = (Some (i, j), found, refl); long = made_long _ (sym first_made ∙ e) }
