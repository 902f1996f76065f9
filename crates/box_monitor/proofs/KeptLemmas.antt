-- The decisions that are kept stay the policy's: what is found, moved to the front and put.
use Rattle.std.proofs.Common.{◌≡◌, ℕ, zero, suc, Bool, true, false, List, [], ◌∷◌, Option, None, Some, IfSome, drop}
use Rattle.std.proofs.Common.{sym, ap, refl, ◌∙◌, inl, inr}
use Rattle.std.specs.Map.{lookup}
use Rattle.std.specs.Prelude.{MatchOption}
use Rattle.std.specs.Str.{bytes_eq}
use Rattle.std.proofs.lemmas.Slice.Eq.{bytes_eq-Decides}
use Rattle.box_policy.specs.declared.policy.Decision.{Decision}
use Rattle.box_policy.specs.declared.policy.Kind.{Kind}
use Rattle.box_policy.specs.declared.policy.Kind.TheVariants.{Read, Write, Append, Run, Env, Assign}
use Rattle.box_policy.specs.Decisions.{decision, kind_number}
use Rattle.box_policy.specs.Counts.{is_used_up_at, noted}
use Rattle.box_policy.specs.Rulebook.{Rulebook}
use Rattle.box_policy.proofs.CountsLemmas.{decides_still}
use Rattle.box_monitor.specs.declared.judge.KeptQuestion.{KeptQuestion}
use Rattle.box_monitor.specs.Judged.{spelled, AreDecided}
use Rattle.lru.specs.LruCache.{LruCache, promoted, put_entries}
use Rattle.lru.proofs.CallerLemmas.{Contains-promoted, Contains-lookup, Contains-put_entries}

-- what the list spells
spelled_kind : List ℕ → Kind
spelled_kind [] = Assign
spelled_kind (zero ∷ rest) = Read
spelled_kind (suc zero ∷ rest) = Write
spelled_kind (suc (suc zero) ∷ rest) = Append
spelled_kind (suc (suc (suc zero)) ∷ rest) = Run
spelled_kind (suc (suc (suc (suc zero))) ∷ rest) = Env
spelled_kind (suc (suc (suc (suc (suc n)))) ∷ rest) = Assign

spelled_given : List ℕ → Bool
spelled_given [] = true
spelled_given (kind ∷ []) = true
spelled_given (kind ∷ zero ∷ text) = false
spelled_given (kind ∷ suc n ∷ text) = true

kind_is : (kind : Kind) (given : Bool) (text : List ℕ) → spelled_kind (spelled kind given text) ≡ kind
unfolding spelled_kind
kind_is Read given text = refl
kind_is Write given text = refl
kind_is Append given text = refl
kind_is Run given text = refl
kind_is Env given text = refl
kind_is Assign given text = refl

given_is : (kind : Kind) (given : Bool) (text : List ℕ) → spelled_given (spelled kind given text) ≡ given
unfolding spelled_given
given_is kind true text = refl
given_is kind false text = refl

-- what is spelled alike is decided alike
same_decision : (book : Rulebook) (kind other : Kind) (given is_given : Bool) (text words : List ℕ)
    → bytes_eq (spelled kind given text) (spelled other is_given words) ≡ true → decision book other words is_given
    ≡ decision book kind text given
same_decision book kind other given is_given text words h =
    let same : spelled other is_given words ≡ spelled kind given text =
    sym ((bytes_eq-Decides (spelled kind given text) (spelled other is_given words)).0 h) in
    let kinds : other ≡ kind = sym (kind_is other is_given words) ∙ (ap spelled_kind same ∙ kind_is kind given text) in
    let givens : is_given ≡ given = sym (given_is other is_given words)
    ∙ (ap spelled_given same ∙ given_is kind given text) in
    let texts : words ≡ text = ap (drop 2) same in
    λ i. decision book (kinds i) (texts i) (givens i)

-- a use changes the order alone
pub after_use : (book : Rulebook) (test : KeptQuestion → Bool) (es : List (KeptQuestion × Decision))
    → AreDecided book es → AreDecided book (promoted test es)
after_use book test es all e is_there = all e (Contains-promoted test es e is_there)

-- what is found under a question is what is decided on it
is_found : (book : Rulebook) (kind : Kind) (given : Bool) (text : List ℕ) (es : List (KeptQuestion × Decision))
    (d : Decision) → AreDecided book es
    → lookup (λ k. bytes_eq (spelled kind given text) (spelled k.kind k.given k.text.items)) es ≡ Some d
    → d ≡ decision book kind text given
is_found book kind given text es d all found =
    let p = Contains-lookup (λ k. bytes_eq (spelled kind given text) (spelled k.kind k.given k.text.items)) es d found
    in
    all (p.0, d) p.1 ∙ same_decision book kind p.0.kind given p.0.given text p.0.text.items p.2

pub if_found : (book : Rulebook) (kind : Kind) (given : Bool) (text : List ℕ) (es : List (KeptQuestion × Decision))
    (o : Option Decision) → AreDecided book es
    → o ≡ lookup (λ k. bytes_eq (spelled kind given text) (spelled k.kind k.given k.text.items)) es
    → IfSome o (λ d. d ≡ decision book kind text given)
if_found book kind given text es None all found = tt
if_found book kind given text es (Some d) all found = is_found book kind given text es d all (sym found)

-- a decision is put under its question
pub after_put : (book : Rulebook) (c : LruCache KeptQuestion Decision) (k : KeptQuestion) (d : Decision)
    → AreDecided book c.entries → d ≡ decision book k.kind k.text.items k.given
    → AreDecided book (put_entries (λ x y. bytes_eq (spelled x.kind x.given x.text.items)
    (spelled y.kind y.given y.text.items)) c k d)
after_put book c k d all is e is_there =
    elim (Contains-put_entries (λ x y. bytes_eq (spelled x.kind x.given x.text.items)
    (spelled y.kind y.given y.text.items)) c k d e is_there) [
      | inl was ↦ all e was
      | inr put ↦ elim put.1 [
        | inl here ↦ put.0 ∙ (is ∙ ap (λ q. decision book q.kind q.text.items q.given) (sym here))
        | inr before ↦ put.0 ∙
            (is ∙ sym (same_decision book k.kind e.0.kind k.given e.0.given k.text.items e.0.text.items before.2))
      ]
    ]

-- what was decided stays where no rule is used up by what was counted
pub after_note : (n : ℕ) (book : Rulebook) (es : List (KeptQuestion × Decision)) → is_used_up_at (noted n book) n
    ≡ false → AreDecided book es → AreDecided (noted n book) es
after_note n book es left all e is_there = all e is_there
    ∙ sym (decides_still n book e.0.kind e.0.text.items e.0.given left)

pub cache_after_note : (n : ℕ) (book : Rulebook) (cache : Option (LruCache KeptQuestion Decision))
    → is_used_up_at (noted n book) n ≡ false
    → MatchOption cache (Unit {0}) (λ c. AreDecided book c.entries)
    → MatchOption cache (Unit {0}) (λ c. AreDecided (noted n book) c.entries)
cache_after_note n book None left h = tt
cache_after_note n book (Some c) left h = after_note n book c.entries left h
