-- What is spelled is read: the steps of a rule, and what may follow each level.
use Rattle.std.proofs.Common.{◌≡◌, ℕ, zero, suc, ◌≤◌, ◌<◌, Bool, true, false, ◌||◌, List, [], ◌∷◌, ◌++◌, length, Option}
use Rattle.std.proofs.Common.{Some, None, Ok, refl, sym, ap, ◌∙◌, append_assoc, arith, inl, inr}
use Rattle.std.proofs.lemmas.List.{length-append}
use Rattle.awk_tokens.specs.declared.token.Token.{Token}
use Rattle.awk_tokens.specs.declared.terminals.Terminal.{Terminal}
use Rattle.awk_tokens.specs.declared.terminals.Terminal.TheVariants as w
use Rattle.awk_tree.specs.Looks.{assignment, begins_part, comparison, is_factor_sign, is_term_sign, matching, skip}
use Rattle.awk_tree.specs.Terminals.{is, look, ahead, terminal}
use Rattle.awk_tree.specs.Input.{Parser, any, one, many_from, many}
use Rattle.awk_tree.specs.Statements.{until_from, many_until}
use Rattle.awk_parse.specs.Spells.{Newlines}
use Rattle.awk_parse.proofs.Law.{decided}
use Rattle.awk_parse.proofs.TerminalLemmas.{steady, single, ahead_is, is-true}

-- ---- one token

pub one_reads : (k : Terminal) (t : Token) (ts : List Token) → steady k ≡ true → is k k ≡ true → terminal t ≡ k
    → one k (t ∷ ts) ≡ Ok (t, ts)
unfolding one any
one_reads k t ts s i h = rw (ahead_is k t ts s h, i) refl

-- newlines that mean nothing
pub skip_reads : (ns ts : List Token) → Newlines ns → is (look ts) w.Newline ≡ false → skip (ns ++ ts) ≡ ts
skip_reads [] [] l h = refl
skip_reads [] (t ∷ ts) l h = rw h refl
skip_reads (t ∷ ns) ts l h = rw l.0 (skip_reads ns ts l.1 h)

-- ---- what the next token is, and is not

pub follows : (f : Terminal → Bool) (k : Terminal) (t : Token) (ts : List Token) → steady k ≡ true → terminal t ≡ k
    → f (ahead (t ∷ ts)) ≡ f k
follows f k t ts s h = ap f (ahead_is k t ts s h)

pub seen_as : {A : Type 0} (f : Terminal → A) (a : A) (t : Token) (ts : List Token)
    → ((k : Terminal) → f k ≡ a → steady k ≡ true) → f (terminal t) ≡ a → f (ahead (t ∷ ts)) ≡ a
seen_as f a t ts s h = ap f (ahead_is (terminal t) t ts (s (terminal t) h) refl) ∙ h

pub is_not : (f : Terminal → Bool) (k j : Terminal) → single j ≡ true → f k ≡ true → f j ≡ false → is k j ≡ false
is_not f k j s h l =
    elim (decided (is k j)) [
      | inl y ↦ absurd (let same = is-true k j s y in let both : true ≡ false = sym h ∙ ap f same ∙ l in cc)
      | inr n ↦ n
    ]

-- ---- as often as a test finds it

pub data Turns {Y : Type 0} (test : Terminal → Bool) (p : Parser Y) : List Token → List Y → List Token → Type 0 where
  stop : (r : List Token) → test (ahead r) ≡ false → Turns test p r [] r
  turn : (ts m r : List Token) (y : Y) (ys : List Y) → test (ahead ts) ≡ true → p ts ≡ Ok (y, m) → length m < length ts
      → Turns test p m ys r → Turns test p ts (y ∷ ys) r

many_from_reads : {Y : Type 0} (test : Terminal → Bool) (p : Parser Y) (ts : List Token) (ys : List Y) (r : List Token)
    → Turns test p ts ys r → (n : ℕ) → length ts ≤ n → many_from test p n ts ≡ Ok (ys, r)
unfolding many_from
many_from_reads test p _ _ _ (stop r h) zero le = rw h refl
many_from_reads test p _ _ _ (stop r h) (suc n) le = rw h refl
many_from_reads test p _ _ _ (turn ts m r y ys h k l rest) zero le = absurd (omega arith)
many_from_reads test p _ _ _ (turn ts m r y ys h k l rest) (suc n) le =
    rw (h, k, many_from_reads test p m ys r rest n (omega arith)) refl

pub many_reads : {Y : Type 0} (test : Terminal → Bool) (p : Parser Y) (ts : List Token) (ys : List Y) (r : List Token)
    → Turns test p ts ys r → many test p ts ≡ Ok (ys, r)
many_reads test p ts ys r h = many_from_reads test p ts ys r h (length ts) (omega arith)

pub turn_on : {Y : Type 0} (test : Terminal → Bool) (p : Parser Y) (us vs rest : List Token) (y : Y) (ys : List Y)
    → 1 ≤ length us → test (ahead (us ++ (vs ++ rest))) ≡ true → p (us ++ (vs ++ rest)) ≡ Ok (y, vs ++ rest)
    → Turns test p (vs ++ rest) ys rest
    → Turns test p ((us ++ vs) ++ rest) (y ∷ ys) rest
turn_on test p us vs rest y ys some h k more =
    rw (append_assoc us vs rest) (turn (us ++ (vs ++ rest)) (vs ++ rest) rest y ys h k
    (omega (arith, some, length-append us (vs ++ rest))) more)

-- ---- up to where a list ends

pub data Untils {Y : Type 0} (gap : List Token → List Token) (ends : List Token → Bool) (p : Parser Y) : List Token
    → List Y → List Token → Type 0 where
  end_until : (ts r : List Token) → gap ts ≡ r → ends r ≡ true → Untils gap ends p ts [] r
  turn_until : (ts m k r : List Token) (y : Y) (ys : List Y) → gap ts ≡ m → ends m ≡ false → p m ≡ Ok (y, k)
      → length k < length ts → Untils gap ends p k ys r → Untils gap ends p ts (y ∷ ys) r

until_from_reads : {Y : Type 0} (gap : List Token → List Token) (ends : List Token → Bool) (p : Parser Y)
    (ts : List Token) (ys : List Y) (r : List Token) → Untils gap ends p ts ys r → (n : ℕ) → length ts ≤ n
    → until_from gap ends p n ts ≡ Ok (ys, r)
unfolding until_from
until_from_reads gap ends p _ _ _ (end_until ts r h k) zero le = rw (h, k) refl
until_from_reads gap ends p _ _ _ (end_until ts r h k) (suc n) le = rw (h, k) refl
until_from_reads gap ends p _ _ _ (turn_until ts m k r y ys h i j l rest) zero le = absurd (omega arith)
until_from_reads gap ends p _ _ _ (turn_until ts m k r y ys h i j l rest) (suc n) le =
    rw (h, i, j, until_from_reads gap ends p k ys r rest n (omega arith)) refl

pub until_reads : {Y : Type 0} (gap : List Token → List Token) (ends : List Token → Bool) (p : Parser Y)
    (ts : List Token) (ys : List Y) (r : List Token) → Untils gap ends p ts ys r → many_until gap ends p ts ≡ Ok (ys, r)
until_reads gap ends p ts ys r h = until_from_reads gap ends p ts ys r h (length ts) (omega arith)

-- ---- what goes on from each level

pub neither : (a b : Bool) → (a || b) ≡ false → (a ≡ false) × (b ≡ false)
neither true b h = absurd cc
neither false b h = (refl, h)

abbrev pub is_some : {A : Type 0} → Option A → Bool
is_some None = false
is_some (Some a) = true

pub none_is : {A : Type 0} (o : Option A) → is_some o ≡ false → o ≡ None
none_is None h = refl
none_is (Some a) h = absurd cc

abbrev pub after_unary : Terminal → Bool
after_unary k = is k w.Caret

abbrev pub after_mul : Terminal → Bool
after_mul k = after_unary k || is_factor_sign k

abbrev pub after_add : Terminal → Bool
after_add k = after_mul k || is_term_sign k

abbrev pub after_cat : Terminal → Bool
after_cat k = after_add k || begins_part k

abbrev pub after_pipe : Terminal → Bool
after_pipe k = after_cat k || is w.BarGetline k

abbrev pub after_cmp : Bool → Terminal → Bool
after_cmp p k = after_pipe k || is_some (comparison p k)

abbrev pub after_match : Bool → Terminal → Bool
after_match p k = after_cmp p k || is_some (matching k)

abbrev pub after_isin : Bool → Terminal → Bool
after_isin p k = after_match p k || is w.In k

abbrev pub after_conjunct : Bool → Terminal → Bool
after_conjunct p k = after_isin p k || is_some (assignment k)

abbrev pub after_and : Bool → Terminal → Bool
after_and p k = after_conjunct p k || is w.And k

abbrev pub after_or : Bool → Terminal → Bool
after_or p k = after_and p k || is w.Or k

abbrev pub after_expr : Bool → Terminal → Bool
after_expr p k = after_or p k || is k w.Question
