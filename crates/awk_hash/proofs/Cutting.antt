-- Pieces that are cut off one by one.
use Rattle.std.proofs.Common.{◌≡◌, ℕ, zero, suc, ◌<◌, ◌≤◌, true, false, if◌then◌else◌, nat_le, List, [], ◌∷◌, length}
use Rattle.std.proofs.Common.{take, drop, refl, sym, ap, ◌∙◌, arith, length-drop}
use Rattle.std.proofs.lemmas.Bool.{le-leb, lt-leb}
use Rattle.awk_hash.specs.Pieces.{pieces_of, pieces}

one : (n : ℕ) (text : List ℕ) → length text ≤ 8 → pieces_of n text ≡ text ∷ []
unfolding pieces_of
one zero text short = refl
one (suc n) text short =
    let yes : nat_le (length text) 8 ≡ true = le-leb (length text) 8 short in
    ap (λ b. if b then text ∷ [] else take 8 text ∷ pieces_of n (drop 8 text)) yes

more : (n : ℕ) (text : List ℕ) → 8 < length text → pieces_of (suc n) text ≡ take 8 text ∷ pieces_of n (drop 8 text)
unfolding pieces_of
more n text long =
    let no : nat_le (length text) 8 ≡ false = lt-leb (length text) 8 long in
    ap (λ b. if b then text ∷ [] else take 8 text ∷ pieces_of n (drop 8 text)) no

-- what is more than enough changes nothing
enough : (m n : ℕ) (text : List ℕ) → length text ≤ m → length text ≤ n → pieces_of m text ≡ pieces_of n text
unfolding pieces_of
enough zero n text few many = sym (one n text (omega (arith, few)))
enough (suc m) zero text few many = one (suc m) text (omega (arith, many))
enough (suc m) (suc n) text few many =
    let rest = enough m n (drop 8 text) (omega (arith, few, length-drop 8 text))
    (omega (arith, many, length-drop 8 text)) in
    ap (λ ps. if nat_le (length text) 8 then text ∷ [] else take 8 text ∷ ps) rest

pub cut : (text : List ℕ) → 8 < length text → pieces text ≡ take 8 text ∷ pieces (drop 8 text)
cut [] long = let impossible : ⊥ = omega (arith, long) in absurd impossible
cut (x ∷ xs) long =
    let text = x ∷ xs in
    let rest = enough (length xs) (length (drop 8 text)) (drop 8 text) (omega (arith, length-drop 8 text))
    (omega arith) in
    more (length xs) text long ∙ ap (λ ps. take 8 text ∷ ps) rest

pub uncut : (text : List ℕ) → length text ≤ 8 → pieces text ≡ text ∷ []
uncut text short = one (length text) text short
