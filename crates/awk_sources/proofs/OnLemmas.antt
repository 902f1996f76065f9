-- What ends in front of a rest ends so too where that rest goes on with a newline.
use Rattle.std.proofs.Common.{◌≡◌, ◌≢◌, ℕ, ◌+◌, Bool, true, false, ◌&&◌, eqb, List, [], ◌∷◌, ◌++◌, slice_index, sym, ap}
use Rattle.std.proofs.Common.{refl, subst, ◌∙◌, arith}
use Rattle.std.specs.Char.{is_ascii_alphabetic}
use Rattle.std.specs.List.{list_all}
use Rattle.std.proofs.lemmas.Bool.{and_parts, true≢false}
use Rattle.std.proofs.lemmas.List.{append_assoc}
use Rattle.awk_tokens.specs.Bytes.{Text}
use Rattle.awk_tokens.specs.Patterns.{BeginsClass, PatternEnds, ends, escaped, plain, opens, opens_not, first, no_first}
use Rattle.awk_tokens.specs.Patterns.{closes, member_escaped, member, class}
use Rattle.awk_tokens.specs.Reads.{IsGap, blank, joined, comment}
use Rattle.awk_tokens.proofs.FirstLemmas.{head_is, tail_is}

-- the first byte, where it is no newline
pub head_not : (z more : Text) (k : ℕ) → slice_index z 0 ≢ k → 10 ≢ k → slice_index (z ++ 10 ∷ more) 0 ≢ k
head_not [] more k other newline = newline
head_not (b ∷ z) more k other newline = other

letters_before : (name z more left : Text) → list_all is_ascii_alphabetic name ≡ true
    → z ++ 10 ∷ more ≡ name ++ (58 ∷ 93 ∷ left) → (w : Text) × (z ≡ name ++ (58 ∷ 93 ∷ w))
letters_before [] [] more left letters e = let same = head_is 10 58 more (93 ∷ left) e in absurd (omega arith)
letters_before [] (a ∷ []) more left letters e =
    let same = head_is 10 93 more left (tail_is a 58 (10 ∷ more) (93 ∷ left) e) in absurd (omega arith)
letters_before [] (a ∷ b ∷ z) more left letters e =
    let one = head_is a 58 (b ∷ (z ++ 10 ∷ more)) (93 ∷ left) e in
    let two = head_is b 93 (z ++ 10 ∷ more) left (tail_is a 58 (b ∷ (z ++ 10 ∷ more)) (93 ∷ left) e) in
    (z, ap (λ c. c ∷ b ∷ z) one ∙ ap (λ c. 58 ∷ c ∷ z) two)
letters_before (c ∷ name) [] more left letters e =
    let letter = (and_parts (is_ascii_alphabetic c) (list_all is_ascii_alphabetic name) letters).0 in
    let is10 = head_is 10 c more (name ++ (58 ∷ 93 ∷ left)) e in
    absurd (true≢false (sym letter ∙ ap is_ascii_alphabetic (sym is10)))
letters_before (c ∷ name) (a ∷ z) more left letters e =
    let both = and_parts (is_ascii_alphabetic c) (list_all is_ascii_alphabetic name) letters in
    let inner = letters_before name z more left both.1 (tail_is a c (z ++ 10 ∷ more) (name ++ (58 ∷ 93 ∷ left)) e) in
    (inner.0, ap (λ d. d ∷ z) (head_is a c (z ++ 10 ∷ more) (name ++ (58 ∷ 93 ∷ left)) e) ∙ ap (λ w. c ∷ w) inner.1)

-- a class that begins does so before the newline
class_before : (z more left : Text) → BeginsClass (z ++ 10 ∷ more) left → (w : Text) × BeginsClass z w
class_before [] more left begins =
    let same = head_is 10 58 more (begins.0 ++ (58 ∷ 93 ∷ left)) begins.2 in absurd (omega arith)
class_before (a ∷ z) more left begins =
    let name = begins.0 in
    let one = head_is a 58 (z ++ 10 ∷ more) (name ++ (58 ∷ 93 ∷ left)) begins.2 in
    let inner = letters_before name z more left begins.1 (tail_is a 58 (z ++ 10 ∷ more) (name ++ (58 ∷ 93 ∷ left))
    begins.2) in
    (inner.0, (name, begins.1, ap (λ c. c ∷ z) one ∙ ap (λ w. 58 ∷ w) inner.1))

class_on : (z left m : Text) → BeginsClass z left → BeginsClass (z ++ m) (left ++ m)
class_on z left m begins =
    let name = begins.0 in
    (name, begins.1, ap (λ w. w ++ m) begins.2 ∙ ap (λ w. 58 ∷ w) (append_assoc name (58 ∷ 93 ∷ left) m))

pub pattern_on : (part : _) (z rest more : Text) → PatternEnds part z rest
    → PatternEnds part (z ++ 10 ∷ more) (rest ++ 10 ∷ more)
pattern_on _ _ _ more (ends rest) = ends (rest ++ 10 ∷ more)
pattern_on _ _ _ more (escaped b z rest h) = escaped b (z ++ 10 ∷ more) (rest ++ 10 ∷ more) (pattern_on _ z rest more h)
pattern_on _ _ _ more (plain b z rest n47 n92 n91 n10 h) = plain b (z ++ 10 ∷ more) (rest ++ 10 ∷ more) n47 n92 n91 n10
    (pattern_on _ z rest more h)
pattern_on _ _ _ more (opens z rest n94 h) = opens (z ++ 10 ∷ more) (rest ++ 10 ∷ more)
    (head_not z more 94 n94 (λ e. omega arith)) (pattern_on _ z rest more h)
pattern_on _ _ _ more (opens_not z rest h) = opens_not (z ++ 10 ∷ more) (rest ++ 10 ∷ more) (pattern_on _ z rest more h)
pattern_on _ _ _ more (first z rest h) = first (z ++ 10 ∷ more) (rest ++ 10 ∷ more) (pattern_on _ z rest more h)
pattern_on _ _ _ more (no_first z rest n93 h) = no_first (z ++ 10 ∷ more) (rest ++ 10 ∷ more)
    (head_not z more 93 n93 (λ e. omega arith)) (pattern_on _ z rest more h)
pattern_on _ _ _ more (closes z rest h) = closes (z ++ 10 ∷ more) (rest ++ 10 ∷ more) (pattern_on _ z rest more h)
pattern_on _ _ _ more (member_escaped b z rest h) = member_escaped b (z ++ 10 ∷ more) (rest ++ 10 ∷ more)
    (pattern_on _ z rest more h)
pattern_on _ _ _ more (member b z rest n93 n92 n10 none h) =
    member b (z ++ 10 ∷ more) (rest ++ 10 ∷ more) n93 n92 n10 (λ is91 left begins. let p =
    class_before z more left begins in none is91 p.0 p.1) (pattern_on _ z rest more h)
pattern_on _ _ _ more (class z left rest begins h) =
    class (z ++ 10 ∷ more) (left ++ 10 ∷ more) (rest ++ 10 ∷ more) (class_on z left (10 ∷ more) begins)
    (pattern_on _ left rest more h)

pub gap_on : (gap rest more : Text) → IsGap gap rest → IsGap gap (rest ++ 10 ∷ more)
gap_on _ _ more (blank b rest h) = blank b (rest ++ 10 ∷ more) h
gap_on _ _ more (joined rest) = joined (rest ++ 10 ∷ more)
gap_on _ _ more (comment line rest h stops) = comment line (rest ++ 10 ∷ more) h (λ some. stops_on rest stops)
  where
    stops_on : (rest : Text) → (rest ≢ [] → slice_index rest 0 ≡ 10) → slice_index (rest ++ 10 ∷ more) 0 ≡ 10
    stops_on [] stops = refl
    stops_on (b ∷ rest) stops = stops (λ e. absurd cc)
