-- A text is read in one way alone.
use Rattle.std.proofs.Common.{◌≡◌, ℕ, inl, inr, List, [], ◌∷◌, refl, sym, ◌∙◌, ap, subst, arith}
use Rattle.awk_ere.specs.Pattern.{Pattern}
use Rattle.awk_ere.specs.Token.{Token, opening, Front, finished, token, wrong}
use Rattle.awk_ere.specs.Reading.{Spot, front_at, spot_after, Leads, first_spot, HasFault}
use Rattle.awk_ere.specs.Grammar.{ere, Spells}
use Rattle.awk_ere.specs.Spelled.{Spelled, IsPattern, IsRefused}
use Rattle.awk_ere.specs.declared.error.EreFault.{EreFault}
use Rattle.awk_ere.proofs.Building.{one_pattern}

abbrev token_of : Front → Token
token_of (token t left) = t
token_of finished = opening
token_of (wrong f) = opening

abbrev left_of : Front → List ℕ
left_of (token t left) = left
left_of finished = []
left_of (wrong f) = []

module _ (t u : Token) (l m : List ℕ) (p : Spot) (one : front_at p ≡ token t l) (two : front_at p ≡ token u m) where
  same_front : token t l ≡ token u m
  same_front = sym one ∙ two

  same_token : t ≡ u
  same_token = ap token_of same_front

  same_spot : spot_after p t l ≡ spot_after p u m
  same_spot = ap (λ x. spot_after p x l) same_token ∙ ap (λ x. spot_after p u x) (ap left_of same_front)

same_tokens : (ts us : List Token) (p q r : Spot) → Leads ts p q → Leads us p r → front_at q ≡ finished
    → front_at r ≡ finished → ts ≡ us
same_tokens [] [] p q r h g e f = refl
same_tokens [] (u ∷ us) p q r h (m, two, more) e f = absurd (let x = ap front_at h ∙ e in cc)
same_tokens (t ∷ ts) [] p q r (l, one, rest) g e f = absurd (let x = ap front_at g ∙ f in cc)
same_tokens (t ∷ ts) (u ∷ us) p q r (l, one, rest) (m, two, more) e f =
    let same = same_tokens ts us (spot_after p t l) q r rest
    (subst (λ x. Leads us x r) (sym (same_spot t u l m p one two)) more) e f in
    ap (λ x. x ∷ ts) (same_token t u l m p one two) ∙ ap (λ x. u ∷ x) same

no_fault : (ts us : List Token) (p q r : Spot) (fault : EreFault) → Leads ts p q → Leads us p r → front_at q ≡ finished
    → front_at r ≡ wrong fault → ⊥
no_fault [] [] p q r fault h g e f = let x = ap front_at h ∙ e in let y = ap front_at g ∙ f in cc
no_fault [] (u ∷ us) p q r fault h (m, two, more) e f = let x = ap front_at h ∙ e in cc
no_fault (t ∷ ts) [] p q r fault (l, one, rest) g e f = let x = ap front_at g ∙ f in cc
no_fault (t ∷ ts) (u ∷ us) p q r fault (l, one, rest) (m, two, more) e f =
    no_fault ts us (spot_after p t l) q r fault rest (subst (λ x. Leads us x r) (sym (same_spot t u l m p one two))
    more) e f

faultless : (s : List ℕ) (p : Pattern) (size : ℕ) (fault : EreFault) → Spelled s p size → HasFault s fault → ⊥
faultless s p size fault (ts, read, spells) h = no_fault ts h.0 (first_spot s) read.0 h.1 fault read.1 h.2 read.2 h.3

-- a text spells one pattern at most, of one size
pub one_spelling : (s : List ℕ) (p q : Pattern) (n m : ℕ) → Spelled s p n → Spelled s q m → (p ≡ q) × (n ≡ m)
one_spelling s p q n m (ts, read, spells) (us, again, others) =
    let same = same_tokens us ts (first_spot s) again.0 read.0 again.1 read.1 again.2 read.2 in
    one_pattern ts p q n m spells (subst (λ x. Spells ere x q m) same others)

-- a text that spells a pattern within the limits is refused for memory alone
pub memory_alone : (s : List ℕ) (code : ℕ) → IsRefused s code → (p : Pattern) → IsPattern s p → code ≡ 4
memory_alone s code (inl (is, long)) p h = absurd (omega (arith, h.short))
memory_alone s code (inr (inl (is, short, fault))) p h = absurd (faultless s p h.size _ h.spelled fault)
memory_alone s code (inr (inr (inl (is, short, fault)))) p h = absurd (faultless s p h.size _ h.spelled fault)
memory_alone s code (inr (inr (inr (inl (is, short, (q, n, spelled, large)))))) p h =
    absurd (let e : h.size ≡ n = (one_spelling s p q h.size n h.spelled spelled).1 in omega (arith, h.small))
memory_alone s code (inr (inr (inr (inr is)))) p h = is
