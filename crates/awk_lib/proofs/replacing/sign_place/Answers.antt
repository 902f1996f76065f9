use Rattle.std.proofs.Common.{◌≡◌, ℕ, zero, suc, ◌<◌, ◌≤◌, ◌==◌, ◌||◌, Bool, true, false, List, [], ◌∷◌, ◌++◌, length}
use Rattle.std.proofs.Common.{take, drop, get_or, Option, Some, None, MatchOption, refl, ap, ◌∙◌, arith}
use Rattle.memchr.specs.Find.{IsFirstByte, is_byte2}
use Rattle.awk_lib.specs.Replacing.{filled}
use Rattle.awk_lib.proofs.replacing.sign_place.Goals as goal

abbrev is_sign : ℕ → Bool
is_sign b = is_byte2 38 92 b

is_no_sign : (x : Bool) → (x ≡ true → ⊥) → x ≡ false
is_no_sign true h = absurd (h refl)
is_no_sign false h = refl

plain_byte_by : (x y : Bool) (matched : List ℕ) (b : ℕ) (with : List ℕ) → (b == 38) ≡ x → (b == 92) ≡ y
    → (x || y) ≡ false → filled matched false (b ∷ with) ≡ b ∷ filled matched false with
plain_byte_by true y matched b with e f h = absurd (cc)
plain_byte_by false true matched b with e f h = absurd (cc)
plain_byte_by false false matched b with e f h = rw (f, e) refl

plain_byte : (matched : List ℕ) (b : ℕ) (with : List ℕ) → is_sign b ≡ false → filled matched false (b ∷ with)
    ≡ b ∷ filled matched false with
plain_byte matched b with h = plain_byte_by (b == 38) (b == 92) matched b with refl refl h

-- bytes that are no sign stand for themselves
plain_first : (matched : List ℕ) (n : ℕ) (with : List ℕ) → n ≤ length with
    → ((k : ℕ) → k < n → is_sign (get_or with k 0) ≡ false) → filled matched false with ≡ take n with
    ++ filled matched false (drop n with)
plain_first matched zero with le none = refl
plain_first matched (suc n) [] le none = absurd (omega arith)
plain_first matched (suc n) (b ∷ with) le none =
    plain_byte matched b with (none 0 (omega arith)) ∙ ap (λ t. b ∷ t) (plain_first matched n with (omega arith)
    (λ k lt. none (suc k) (omega arith)))

-- without a sign, all of them
plain_all : (matched with : List ℕ) → ((k : ℕ) → k < length with → is_sign (get_or with k 0) ≡ false)
    → filled matched false with ≡ with
plain_all matched [] none = refl
plain_all matched (b ∷ with) none =
    plain_byte matched b with (none 0 (omega arith)) ∙ ap (λ t. b ∷ t)
    (plain_all matched with (λ k lt. none (suc k) (omega arith)))

place_is : (with : List ℕ) (found : Option ℕ) → IsFirstByte is_sign with found → MatchOption found ((matched : List ℕ)
    → filled matched false with ≡ with) (λ at. (at < length with)
    × ((matched : List ℕ) → filled matched false with ≡ take at with ++ filled matched false (drop at with)))
place_is with None none = λ matched. plain_all matched with (λ k lt. is_no_sign _ (none k (omega arith) lt))
place_is with (Some at) (first, is) = (
  first.high,
  λ matched. plain_first matched at with (omega (arith, first.high))
      (λ k lt. is_no_sign _ (first.before k (omega arith) lt)),
)

pub returns : goal.returns
returns c = place_is c.args.with.now c.memchr2.result c.memchr2.ensures
