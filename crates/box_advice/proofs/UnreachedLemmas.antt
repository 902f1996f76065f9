-- Rules that no request reaches are found one by one.
use Rattle.std.proofs.Common.{◌≡◌, ◌∙◌, ℕ, zero, suc, add-one, ◌+◌, ◌-◌, ◌<◌, ◌≤◌, Bool, true, false, not, ◌&&◌, ◌||◌}
use Rattle.std.proofs.Common.{cond, List, [], ◌∷◌, ◌++◌, length, min, get_or, take, drop, Option, Some, None, inl, inr}
use Rattle.std.proofs.Common.{sym, ap, refl, subst, arith}
use Rattle.std.specs.Prelude.{◌⊎◌, slice_get, nat_le}
use Rattle.std.proofs.lemmas.Bool.{true≢false, and_parts, and_from, not-true}
use Rattle.std.proofs.lemmas.List.{drop_all, get_or-take, length-take}
use Rattle.std.proofs.lemmas.Option.{get_or_from_slice_get, slice_get_read, slice_get_within}
use Rattle.box_policy.specs.declared.policy.Rule.{Rule}
use Rattle.box_policy.specs.Rulebook.{Rulebook}
use Rattle.box_policy.specs.Shelves.{first_of}
use Rattle.box_policy.specs.Short.{are_short}
use Rattle.box_advice.specs.Covers.{covers}
use Rattle.box_advice.specs.Heads.{AreHeads, IsHeadOf, pieces}
use Rattle.box_advice.specs.Unreached.{AreUnreached, first_covering, unreached_at, unreached_by, unreached_in}
use Rattle.box_advice.specs.declared.heads.Head.{Head}
use Rattle.box_advice.specs.declared.unreached.Unreached.{Unreached}
use Rattle.box_advice.proofs.CoversLemmas.{sound}
use Rattle.box_advice.proofs.HeadsLemmas.{get_push}

drop_suc : {A : Type 0} (xs : List A) (i : ℕ) (d : A) → i < length xs → d ≡ get_or xs i d
    → drop i xs ≡ d ∷ drop (suc i) xs
drop_suc [] i d h e = absurd (omega arith)
drop_suc (x ∷ xs) zero d h e = ap (λ y. y ∷ xs) (sym e)
drop_suc (x ∷ xs) (suc i) d h e = drop_suc xs i d (omega arith) e

drop_here : {A : Type 0} (xs : List A) (i : ℕ) (d : A) → i < length xs → d ≡ get_or xs i d
    → drop i xs ≡ d ∷ drop (i + 1) xs
drop_here xs i d h e = rw add-one (drop_suc xs i d h e)

-- ---- some and none

is_there : Option ℕ → Type 0
is_there None = ⊥
is_there (Some m) = Unit {0}

some_none : {n : ℕ} → Some n ≡ None → ⊥
unfolding is_there
some_none {n = n} e = subst is_there e tt

number : Option ℕ → ℕ
number None = 0
number (Some m) = m

some_is : (a b : ℕ) → Some a ≡ Some b → a ≡ b
unfolding number
some_is a b e = ap number e

-- ---- the first rule that passes

module _ (test : Rule → Bool) where
  here : (n i : ℕ) (rules : List Rule) (rule : Rule) → i < length rules → rule ≡ get_or rules i rule
      → first_of test n (drop i rules) ≡ cond (test rule) (Some n) (first_of test (n + 1) (drop (i + 1) rules))
  here n i rules rule below is = ap (first_of test n) (drop_here rules i rule below is)

  pub passed : (n i : ℕ) (rules : List Rule) (rule : Rule) (found : Bool) (whole : Option ℕ) → i < length rules
      → rule ≡ get_or rules i rule
      → found ≡ test rule → found ≡ false → first_of test n (drop i rules) ≡ whole
      → first_of test (n + 1) (drop (i + 1) rules) ≡ whole
  passed n i rules rule found whole below is of other so_far =
      sym (here n i rules rule below is ∙ ap (λ b. cond b (Some n) (first_of test (n + 1) (drop (i + 1) rules)))
      (sym of ∙ other)) ∙ so_far

  pub met : (n i : ℕ) (rules : List Rule) (rule : Rule) (found : Bool) (whole : Option ℕ) → i < length rules
      → rule ≡ get_or rules i rule
      → found ≡ test rule → found ≡ true → first_of test n (drop i rules) ≡ whole → Some n ≡ whole
  met n i rules rule found whole below is of one so_far =
      sym (here n i rules rule below is ∙ ap (λ b. cond b (Some n) (first_of test (n + 1) (drop (i + 1) rules)))
      (sym of ∙ one)) ∙ so_far

  pub ended : (n i : ℕ) (rules : List Rule) (whole : Option ℕ) → length rules ≤ i → first_of test n (drop i rules)
      ≡ whole → None ≡ whole
  ended n i rules whole past so_far = sym (ap (first_of test n) (drop_all i rules past)) ∙ so_far

from_by : (n m : ℕ) (b : Bool) (more : Option ℕ) → cond b (Some n) more ≡ Some m → (more ≡ Some m → n + 1 ≤ m) → n ≤ m
from_by n m true more e after = let same : n ≡ m = some_is n m e in omega (arith, same)
from_by n m false more e after = let later : n + 1 ≤ m = after e in omega (arith, later)

from_first : (test : Rule → Bool) (rules : List Rule) (n m : ℕ) → first_of test n rules ≡ Some m → n ≤ m
from_first test [] n m h = absurd (some_none (sym h))
from_first test (rule ∷ rules) n m h = from_by n m (test rule) (first_of test (n + 1) rules) h
    (from_first test rules (n + 1) m)

-- ---- the rules that are looked at

pub short_take : (rules : List Rule) (n : ℕ) → are_short rules ≡ true → are_short (take n rules) ≡ true
short_take [] zero h = refl
short_take [] (suc n) h = refl
short_take (rule ∷ rules) zero h = refl
short_take (rule ∷ rules) (suc n) h =
    let p = and_parts (nat_le (length rule.pattern) 4096) (are_short rules) h in
    and_from (nat_le (length rule.pattern) 4096) (are_short (take n rules)) p.0 (short_take rules n p.1)

pub unreached_more : (base : List ℕ) (rules : List Rule) (i : ℕ) (rule : Rule) (by : Option ℕ)
    (old new : List Unreached) → i < length rules → rule ≡ get_or rules i rule
    → by ≡ first_covering base (take i rules) rule → new ≡ old ++ unreached_by (i + 1) by
    → old ≡ unreached_in base rules i → new ≡ unreached_in base rules (i + 1)
unreached_more base rules i rule by old new below is found added so_far =
    added
    ∙ (ap (λ told. told ++ unreached_by (i + 1) by) so_far
    ∙ (ap (λ by. unreached_in base rules i ++ unreached_by (i + 1) by) found
    ∙ (ap (λ o. unreached_in base rules i ++ unreached_at base rules i o)
    (sym (slice_get_read rules (length rules) i rule refl below is))
    ∙ ap (unreached_in base rules) (next i))))
  where
    next : (k : ℕ) → suc k ≡ k + 1
    next k = omega arith

-- ---- what is told is so

abbrev IsMet : (Rule → Bool) → List Rule → ℕ → Type 0
IsMet test rules k = (r : Rule) × (slice_get rules k ≡ Some r) × (test r ≡ true)

found_by : (test : Rule → Bool) (rule : Rule) (rules : List Rule) (n m : ℕ) (b : Bool) → test rule ≡ b
    → cond b (Some n) (first_of test (n + 1) rules) ≡ Some m
    → (first_of test (n + 1) rules ≡ Some m → IsMet test rules (m - (n + 1))) → IsMet test (rule ∷ rules) (m - n)
found_by test rule rules n m true is e after =
    let same : n ≡ m = some_is n m e in
    let none : m - n ≡ 0 = omega (arith, same) in
    (rule, ap (slice_get (rule ∷ rules)) none, is)
found_by test rule rules n m false is e after =
    let more : n + 1 ≤ m = from_first test rules (n + 1) m e in
    let next : m - n ≡ suc (m - (n + 1)) = omega (arith, more) in
    let at = after e in
    (at.0, ap (slice_get (rule ∷ rules)) next ∙ at.1, at.2)

found_first : (test : Rule → Bool) (rules : List Rule) (n m : ℕ) → first_of test n rules ≡ Some m
    → IsMet test rules (m - n)
found_first test [] n m h = absurd (some_none (sym h))
found_first test (rule ∷ rules) n m h = found_by test rule rules n m (test rule) refl h
    (found_first test rules (n + 1) m)

get_take : (rules : List Rule) (n k : ℕ) (rule : Rule) → slice_get (take n rules) k ≡ Some rule → (k < n)
    × (slice_get rules k ≡ Some rule)
get_take rules n k rule h =
    let inside : k < length (take n rules) = slice_get_within (take n rules) k rule h in
    let size : length (take n rules) ≡ min n (length rules) = length-take n rules in
    let below : k < n = omega (arith, inside, size) in
    let at : get_or rules k rule ≡ rule = sym (get_or-take n rules k rule below) ∙ get_or_from_slice_get (take n rules)
    k rule rule h in
    (below, slice_get_read rules (length rules) k rule refl (omega (arith, inside, size)) (sym at))

are_append : (book : Rulebook) (xs ys : List Unreached) → AreUnreached book xs → AreUnreached book ys
    → AreUnreached book (xs ++ ys)
are_append book [] ys h k = k
are_append book (x ∷ xs) ys h k = (h.0, are_append book xs ys h.1 k)

told_by : (book : Rulebook) (n : ℕ) (rule : Rule) (by : Option ℕ) → slice_get book.rules n ≡ Some rule
    → first_covering book.base (take n book.rules) rule ≡ by
    → AreUnreached book (unreached_by (n + 1) by)
told_by book n rule None at found = tt
told_by book n rule (Some m) at found =
    let one : 1 ≤ m = from_first (λ r. covers book.base r rule) (take n book.rules) 1 m found in
    let first = found_first (λ r. covers book.base r rule) (take n book.rules) 1 m found in
    let last : (n + 1) - 1 ≡ n = omega arith in
    let there = get_take book.rules n (m - 1) first.0 first.1 in (
      record {
        before = omega (arith, one, there.0);
        earlier = first.0;
        later = rule;
        is_earlier = there.1;
        is_later = ap (slice_get book.rules) last ∙ at;
        covered = sound book.base first.0 rule first.2;
      },
      tt,
    )

told_at : (book : Rulebook) (n : ℕ) (rule : Option Rule) → slice_get book.rules n ≡ rule
    → AreUnreached book (unreached_at book.base book.rules n rule)
told_at book n None at = tt
told_at book n (Some rule) at = told_by book n rule (first_covering book.base (take n book.rules) rule) at refl

-- each rule that is told is one that no request reaches
pub told_sound : (book : Rulebook) (n : ℕ) → AreUnreached book (unreached_in book.base book.rules n)
told_sound book zero = tt
told_sound book (suc n) =
    are_append book (unreached_in book.base book.rules n) (unreached_at book.base book.rules n (slice_get book.rules n))
    (told_sound book n)
    (told_at book n (slice_get book.rules n) refl)

pub told_sound_by : (book : Rulebook) (n : ℕ) (told : List Unreached) → told ≡ unreached_in book.base book.rules n
    → AreUnreached book told
told_sound_by book n told is = subst (AreUnreached book) (sym is) (told_sound book n)

-- ---- heads

-- one more rule has its head
pub heads_more : (base : List ℕ) (rules : List Rule) (heads : List (Option Head)) (rule : Rule) (head : Option Head)
    → length heads < length rules
    → rule ≡ get_or rules (length heads) rule → IsHeadOf rule.kind (pieces base rule.kind rule.pattern) head
    → AreHeads base rules heads
    → AreHeads base rules (heads ++ head ∷ [])
heads_more base rules heads rule head below is of so_far k r h at_rule at_head =
    elim (get_push heads head h k at_head) [
      | inl before ↦ so_far k r h at_rule before
      | inr last ↦
          let there : slice_get rules (length heads) ≡ Some rule = slice_get_read rules (length rules) (length heads)
          rule refl below is in
          let same : rule ≡ r = some_same rule r (sym there ∙ (ap (slice_get rules) (sym last.0) ∙ at_rule)) in
          subst (λ (x : Rule). IsHeadOf x.kind (pieces base x.kind x.pattern) h) same
          (subst (λ (x : Option Head). IsHeadOf rule.kind (pieces base rule.kind rule.pattern) x) last.1 of)
    ]
  where
    some_same : (a b : Rule) → Some a ≡ Some b → a ≡ b
    some_same a b e = cc

-- the head of a rule that is looked at
pub head_at : (base : List ℕ) (rules : List Rule) (heads : List (Option Head)) (k n : ℕ) (rule : Rule)
    (head : Option Head) → AreHeads base rules heads
    → k < length (take n rules) → rule ≡ get_or (take n rules) k rule → k < length heads → head ≡ get_or heads k head
    → IsHeadOf rule.kind (pieces base rule.kind rule.pattern) head
head_at base rules heads k n rule head are inside is below at =
    are k rule head (get_take rules n k rule (slice_get_read (take n rules) (length (take n rules)) k rule refl inside
    is)).1
    (slice_get_read heads (length heads) k head refl below at)
