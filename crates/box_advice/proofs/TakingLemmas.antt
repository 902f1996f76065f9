-- A pattern that fits another pattern's text takes what that one takes.
use Rattle.std.proofs.Common.{◌≡◌, ◌∙◌, ℕ, zero, suc, ◌+◌, ◌≤◌, Bool, true, false, not, ◌&&◌, ◌||◌, List, [], ◌∷◌, map}
use Rattle.std.proofs.Common.{length, cond, sym, ap, refl, subst, codes, inl, inr, arith}
use Rattle.std.specs.Prelude.{◌⊎◌, ◌==◌}
use Rattle.std.specs.List.{list_all}
use Rattle.std.specs.Str.{bytes_eq}
use Rattle.std.proofs.lemmas.Bool.{true≢false, and_parts, and_from, or_cases, not-true, eqb-true}
use Rattle.std.proofs.lemmas.Slice.Eq.{bytes_eq-Decides}
use Rattle.box_policy.specs.Division.{Symbol, fits}
use Rattle.box_policy.specs.Patterns.{component_symbol, component_byte, one, run}
use Rattle.box_policy.proofs.DivisionLemmas.{symbol, fits-none, fits-more}
use Rattle.box_policy.proofs.PlainLemmas.{component_plain}
use Rattle.box_advice.specs.Covers.{has_no_mark, is_flat, is_plain_piece, is_tree}

or_left : (a b : Bool) → a ≡ true → (a || b) ≡ true
or_left true b h = refl
or_left false b h = absurd (true≢false (sym h))

or_right : (a b : Bool) → b ≡ true → (a || b) ≡ true
or_right true b h = refl
or_right false b h = h

-- ---- one symbol

-- a symbol takes whatever another one takes, and is a run where that is one
abbrev Takes : {A : Type 0} → Symbol A → Symbol A → Type 0
Takes {A = A} other one = ((x : A) → other.test x ≡ true → one.test x ≡ true)
    × (one.is_run ≡ false → other.is_run ≡ false)

itself_takes : {A : Type 0} (s : Symbol A) → Takes s s
itself_takes s = (λ x h. h, λ h. h)

all_takes : {A : Type 0} (other : Symbol A) → Takes other (symbol true (λ _. true))
all_takes other = (λ x h. refl, λ h. absurd (true≢false h))

pub before_none : {A : Type 0} (s : Symbol A) (ss : List (Symbol A)) → fits (s ∷ ss) [] ≡ true → (s.is_run ≡ true)
    × (fits ss [] ≡ true)
before_none s ss h = and_parts s.is_run (fits ss []) (sym (fits-none s.is_run s.test ss) ∙ h)

pub before_more : {A : Type 0} (s : Symbol A) (ss : List (Symbol A)) (x : A) (xs : List A)
    → fits (s ∷ ss) (x ∷ xs) ≡ true
    → ((s.is_run ≡ true) × (fits ss (x ∷ xs) ≡ true))
    ⊎ ((s.test x ≡ true) × (fits (cond s.is_run (s ∷ ss) ss) xs ≡ true))
before_more s ss x xs h =
    elim (or_cases (s.is_run && fits ss (x ∷ xs)) (s.test x && fits (cond s.is_run (s ∷ ss) ss) xs)
    (sym (fits-more s.is_run s.test ss x xs) ∙ h)) [
      | inl skipped ↦ inl (and_parts s.is_run (fits ss (x ∷ xs)) skipped)
      | inr taken ↦ inr (and_parts (s.test x) (fits (cond s.is_run (s ∷ ss) ss) xs) taken)
    ]

-- a run may take nothing
skips : {A : Type 0} (s : Symbol A) (ss : List (Symbol A)) (xs : List A) → s.is_run ≡ true → fits ss xs ≡ true
    → fits (s ∷ ss) xs ≡ true
skips s ss [] is h = fits-none s.is_run s.test ss ∙ and_from s.is_run (fits ss []) is h
skips s ss (x ∷ xs) is h =
    fits-more s.is_run s.test ss x xs
    ∙ or_left (s.is_run && fits ss (x ∷ xs)) (s.test x && fits (cond s.is_run (s ∷ ss) ss) xs)
    (and_from s.is_run (fits ss (x ∷ xs)) is h)

takes_one : {A : Type 0} (s : Symbol A) (ss : List (Symbol A)) (x : A) (xs : List A) → s.test x ≡ true
    → fits (cond s.is_run (s ∷ ss) ss) xs ≡ true
    → fits (s ∷ ss) (x ∷ xs) ≡ true
takes_one s ss x xs passes h =
    fits-more s.is_run s.test ss x xs
    ∙ or_right (s.is_run && fits ss (x ∷ xs)) (s.test x && fits (cond s.is_run (s ∷ ss) ss) xs)
    (and_from (s.test x) (fits (cond s.is_run (s ∷ ss) ss) xs) passes h)

-- ---- lists of symbols

module _ {A : Type 0} (sem : A → Symbol A) (Q : A → Bool) where
  -- what the symbol takes as an element, it takes as the symbol that the element stands for
  abbrev TakesOver : Symbol A → Type 0
  TakesOver s = (b : A) → Q b ≡ true → s.test b ≡ true → Takes (sem b) s

  abbrev AllTakeOver : List (Symbol A) → Type 0
  AllTakeOver [] = Unit {0}
  AllTakeOver (s ∷ ss) = TakesOver s × AllTakeOver ss

  abbrev Upto : ℕ → Type 0
  Upto n =
      (ss : List (Symbol A)) (bs xs : List A) → length ss + length bs + length xs ≤ n → AllTakeOver ss
      → list_all Q bs ≡ true → fits ss bs ≡ true → fits (map sem bs) xs ≡ true
      → fits ss xs ≡ true

  -- the symbol took the element b
  taken : (n : ℕ) → Upto n → (s : Symbol A) (ss : List (Symbol A)) (b : A) (bs xs : List A)
      → suc (length ss) + suc (length bs) + length xs ≤ suc n
      → TakesOver s → AllTakeOver ss → Q b ≡ true → list_all Q bs ≡ true → fits (s ∷ ss) (b ∷ bs) ≡ true
      → Takes (sem b) s → (r t : Bool) → s.is_run ≡ r → (sem b).is_run ≡ t → fits (cond r (s ∷ ss) ss) bs ≡ true
      → fits (sem b ∷ map sem bs) xs ≡ true
      → fits (s ∷ ss) xs ≡ true
  taken n ih s ss b bs [] few over overs q qs whole takes false t is of rest fit =
      absurd (true≢false (sym (before_none (sem b) (map sem bs) fit).0 ∙ takes.1 is))
  taken n ih s ss b bs [] few over overs q qs whole takes true t is of rest fit =
      ih (s ∷ ss) bs [] (omega (arith, few)) (over, overs) qs rest (before_none (sem b) (map sem bs) fit).1
  taken n ih s ss b bs (x ∷ xs) few over overs q qs whole takes false t is of rest fit =
      elim (before_more (sem b) (map sem bs) x xs fit) [
        | inl skipped ↦ absurd (true≢false (sym skipped.0 ∙ takes.1 is))
        | inr met ↦
            takes_one s ss x xs (takes.0 x met.0)
            (subst (λ r. fits (cond r (s ∷ ss) ss) xs ≡ true) (sym is)
            (ih ss bs xs (omega (arith, few)) overs qs rest
            (subst (λ r. fits (cond r (sem b ∷ map sem bs) (map sem bs)) xs ≡ true) (takes.1 is) met.1)))
      ]
  taken n ih s ss b bs (x ∷ xs) few over overs q qs whole takes true false is of rest fit =
      elim (before_more (sem b) (map sem bs) x xs fit) [
        | inl skipped ↦ absurd (true≢false (sym skipped.0 ∙ of))
        | inr met ↦
            takes_one s ss x xs (takes.0 x met.0)
            (subst (λ r. fits (cond r (s ∷ ss) ss) xs ≡ true) (sym is)
            (ih (s ∷ ss) bs xs (omega (arith, few)) (over, overs) qs rest
            (subst (λ r. fits (cond r (sem b ∷ map sem bs) (map sem bs)) xs ≡ true) of met.1)))
      ]
  taken n ih s ss b bs (x ∷ xs) few over overs q qs whole takes true true is of rest fit =
      elim (before_more (sem b) (map sem bs) x xs fit) [
        | inl skipped ↦ ih (s ∷ ss) bs (x ∷ xs) (omega (arith, few)) (over, overs) qs rest skipped.1
        | inr met ↦
            takes_one s ss x xs (takes.0 x met.0)
            (subst (λ r. fits (cond r (s ∷ ss) ss) xs ≡ true) (sym is)
            (ih (s ∷ ss) (b ∷ bs) xs (omega (arith, few)) (over, overs) (and_from (Q b) (list_all Q bs) q qs) whole
            (subst (λ r. fits (cond r (sem b ∷ map sem bs) (map sem bs)) xs ≡ true) of met.1)))
      ]

  step : (n : ℕ) → Upto n → Upto (suc n)
  step n ih [] [] xs few overs qs whole fit = fit
  step n ih [] (b ∷ bs) xs few overs qs whole fit = absurd (true≢false (sym whole))
  step n ih (s ∷ ss) [] [] few overs qs whole fit = whole
  step n ih (s ∷ ss) [] (x ∷ xs) few overs qs whole fit = absurd (true≢false (sym fit))
  step n ih (s ∷ ss) (b ∷ bs) xs few overs qs whole fit =
      elim (before_more s ss b bs whole) [
        | inl skipped ↦ skips s ss xs skipped.0 (ih ss (b ∷ bs) xs (omega (arith, few)) overs.1 qs skipped.1 fit)
        | inr met ↦
            taken n ih s ss b bs xs few overs.0 overs.1 (and_parts (Q b) (list_all Q bs) qs).0
            (and_parts (Q b) (list_all Q bs) qs).1 whole
            (overs.0 b (and_parts (Q b) (list_all Q bs) qs).0 met.0) s.is_run (sem b).is_run refl refl met.1 fit
      ]

  upto : (n : ℕ) → Upto n
  upto zero [] [] xs few overs qs whole fit = fit
  upto zero [] (b ∷ bs) xs few overs qs whole fit = absurd (true≢false (sym whole))
  upto zero (s ∷ ss) bs xs few overs qs whole fit = absurd (omega (arith, few))
  upto (suc n) ss bs xs few overs qs whole fit = step n (upto n) ss bs xs few overs qs whole fit

  -- symbols that take a list of elements, and of each what it stands for, take whatever those stand for take
  takes_all : (ss : List (Symbol A)) (bs xs : List A) → AllTakeOver ss → list_all Q bs ≡ true → fits ss bs ≡ true
      → fits (map sem bs) xs ≡ true → fits ss xs ≡ true
  takes_all ss bs xs = upto (length ss + length bs + length xs) ss bs xs (omega arith)

-- ---- components

any_all : (bs : List ℕ) → list_all (λ _. true) bs ≡ true
any_all [] = refl
any_all (b ∷ bs) = any_all bs

byte_by : (c b : ℕ) (star mark : Bool) → (c == 42) ≡ star → (c == 63) ≡ mark → mark ≡ false
    → (component_byte c).test b ≡ true → Takes (component_byte b) (component_byte c)
byte_by c b true mark is of none passes =
    subst (λ t. Takes (component_byte b)
    (cond t (run (λ _. true)) (cond (c == 63) (one (λ _. true)) (one (λ d. d == c))))) (sym is)
    (all_takes (component_byte b))
byte_by c b false true is of none passes = absurd (true≢false none)
byte_by c b false false is of none passes =
    let literal : component_byte c ≡ one (λ d. d == c) =
    ap (λ t. cond t (run (λ _. true)) (cond (c == 63) (one (λ _. true)) (one (λ d. d == c)))) is
    ∙ ap (λ t. cond t (one (λ _. true)) (one (λ d. d == c))) of in
    let same : b ≡ c = eqb-true b c (subst (λ (s : Symbol ℕ). s.test b ≡ true) literal passes) in
    subst (λ z. Takes (component_byte z) (component_byte c)) (sym same) (itself_takes (component_byte c))

bytes_over : (piece : List ℕ) → has_no_mark piece ≡ true
    → AllTakeOver component_byte (λ _. true) (map component_byte piece)
bytes_over [] h = tt
bytes_over (c ∷ cs) h =
    let p = and_parts (not (c == 63)) (has_no_mark cs) h in
    (λ b q passes. byte_by c b (c == 42) (c == 63) refl refl (not-true (c == 63) p.0) passes, bytes_over cs p.1)

-- a component without `?` that fits another one's text fits what that one fits
component_takes : (one other name : List ℕ) → has_no_mark one ≡ true → fits (map component_byte one) other ≡ true
    → fits (map component_byte other) name ≡ true
    → fits (map component_byte one) name ≡ true
component_takes one other name h fit more =
    takes_all component_byte (λ _. true) (map component_byte one) other name (bytes_over one h) (any_all other) fit more

piece_by : (c b : List ℕ) (double : Bool) → bytes_eq c (codes "**") ≡ double → has_no_mark c ≡ true
    → bytes_eq b (codes "**") ≡ false → (component_symbol c).test b ≡ true
    → Takes (component_symbol b) (component_symbol c)
piece_by c b true is h flat passes =
    subst (λ t. Takes (component_symbol b) (symbol t (λ name. t || fits (map component_byte c) name))) (sym is)
    (all_takes (component_symbol b))
piece_by c b false is h flat passes =
    let fit : fits (map component_byte c) b ≡ true = sym (ap (λ t. t || fits (map component_byte c) b) is) ∙ passes in (
      λ name met. or_right (bytes_eq c (codes "**")) (fits (map component_byte c) name)
          (component_takes c b name h fit (sym (ap (λ t. t || fits (map component_byte b) name) flat) ∙ met)),
      λ _. flat,
    )

pieces_over : (pieces : List (List ℕ)) → list_all has_no_mark pieces ≡ true
    → AllTakeOver component_symbol is_flat (map component_symbol pieces)
pieces_over [] h = tt
pieces_over (c ∷ cs) h =
    let p = and_parts (has_no_mark c) (list_all has_no_mark cs) h in (
      λ b q passes. piece_by c b (bytes_eq c (codes "**")) refl p.0 (not-true (bytes_eq b (codes "**")) q) passes,
      pieces_over cs p.1,
    )

-- so do components
pub components_take : (es ls subject : List (List ℕ)) → list_all has_no_mark es ≡ true → list_all is_flat ls ≡ true
    → fits (map component_symbol es) ls ≡ true
    → fits (map component_symbol ls) subject ≡ true → fits (map component_symbol es) subject ≡ true
components_take es ls subject h flat = takes_all component_symbol is_flat (map component_symbol es) ls subject
    (pieces_over es h) flat

-- ---- a tree

-- a run of anything fits anything
pub anything : (A : Type 0) (subject : List A) → fits (symbol {A = A} true (λ _. true) ∷ []) subject ≡ true
anything A [] = fits-none {A = A} true (λ _. true) []
anything A (x ∷ xs) = fits-more {A = A} true (λ _. true) [] x xs ∙ anything A xs

whole_tree : (piece : List ℕ) (subject : List (List ℕ)) → bytes_eq piece (codes "**") ≡ true
    → fits (map component_symbol (piece ∷ [])) subject ≡ true
whole_tree piece subject h =
    subst (λ (p : List ℕ). fits (map component_symbol (p ∷ [])) subject ≡ true)
    (sym ((bytes_eq-Decides piece (codes "**")).0 h)) (anything (List ℕ) subject)

plain_first : (p : List ℕ) (ss : List (Symbol (List ℕ))) (x : List ℕ) (xs : List (List ℕ)) → is_plain_piece p ≡ true
    → fits (component_symbol p ∷ ss) (x ∷ xs) ≡ (bytes_eq p x && fits ss xs)
plain_first p ss x xs plain = ap (λ s. fits (s ∷ ss) (x ∷ xs)) (component_plain p plain) ∙ fits-more false
    (λ name. bytes_eq p name) ss x xs

plain_none : (p : List ℕ) (ss : List (Symbol (List ℕ))) → is_plain_piece p ≡ true → fits (component_symbol p ∷ ss) []
    ≡ false
plain_none p ss plain = ap (λ s. fits (s ∷ ss) []) (component_plain p plain) ∙ fits-none false (λ name. bytes_eq p name)
    ss

-- a tree that fits a pattern's text begins with components that this begins with
pub tree_takes : (es ls subject : List (List ℕ)) → is_tree es ≡ true → fits (map component_symbol es) ls ≡ true
    → fits (map component_symbol ls) subject ≡ true
    → fits (map component_symbol es) subject ≡ true
tree_takes [] ls subject h fit more = absurd (true≢false (sym h))
tree_takes (p ∷ []) ls subject h fit more = whole_tree p subject h
tree_takes (p ∷ n ∷ es) [] subject h fit more =
    absurd (true≢false (sym fit ∙ plain_none p (map component_symbol (n ∷ es))
    (and_parts (is_plain_piece p) (is_tree (n ∷ es)) h).0))
tree_takes (p ∷ n ∷ es) (l ∷ ls) [] h fit more =
    let plain = and_parts (is_plain_piece p) (is_tree (n ∷ es)) h in
    let met = and_parts (bytes_eq p l) (fits (map component_symbol (n ∷ es)) ls)
    (sym (plain_first p (map component_symbol (n ∷ es)) l ls plain.0) ∙ fit) in
    let same : p ≡ l = (bytes_eq-Decides p l).0 met.0 in
    absurd (true≢false (sym (subst (λ (z : List ℕ). fits (component_symbol z ∷ map component_symbol ls) [] ≡ true)
    (sym same) more)
    ∙ plain_none p (map component_symbol ls) plain.0))
tree_takes (p ∷ n ∷ es) (l ∷ ls) (x ∷ xs) h fit more =
    let plain = and_parts (is_plain_piece p) (is_tree (n ∷ es)) h in
    let met = and_parts (bytes_eq p l) (fits (map component_symbol (n ∷ es)) ls)
    (sym (plain_first p (map component_symbol (n ∷ es)) l ls plain.0) ∙ fit) in
    let same : p ≡ l = (bytes_eq-Decides p l).0 met.0 in
    let first = and_parts (bytes_eq p x) (fits (map component_symbol ls) xs)
    (sym (plain_first p (map component_symbol ls) x xs plain.0)
    ∙ subst (λ (z : List ℕ). fits (component_symbol z ∷ map component_symbol ls) (x ∷ xs) ≡ true) (sym same) more) in
    plain_first p (map component_symbol (n ∷ es)) x xs plain.0
    ∙ and_from (bytes_eq p x) (fits (map component_symbol (n ∷ es)) xs) first.0
    (tree_takes (n ∷ es) ls xs plain.1 met.1 first.1)
