-- The cache of patterns stays one: what is found, moved to the front and put.
use Rattle.std.proofs.Common.{◌≡◌, Bool, true, List, [], Some, sym, ap, subst, ◌∙◌, inl, inr}
use Rattle.std.specs.Map.{lookup}
use Rattle.std.specs.Str.{bytes_eq}
use Rattle.std.proofs.lemmas.Slice.Eq.{bytes_eq-Decides}
use Rattle.awk_fields.specs.Separators.{IsEre}
use Rattle.awk_program.specs.Slots.{Text}
use Rattle.awk_builtins.specs.Cached.{AreEres}
use Rattle.lru.specs.LruCache.{LruCache, promoted, put_entries}
use Rattle.lru.proofs.CallerLemmas.{Contains-promoted, Contains-lookup, Contains-put_entries}
use Rattle.lru.proofs.Splits.{Contains-nil}

pub after_promote : {K V : Type 0} (text : K → Text) (source : V → Text) (test : K → Bool) (es : List (K × V))
    → AreEres text source es → AreEres text source (promoted test es)
after_promote text source test es all e is_there = all e (Contains-promoted test es e is_there)

-- what a test of this text finds is its ERE
pub is_found : {K V : Type 0} (text : K → Text) (source : V → Text) (test : K → Bool) (es : List (K × V)) (s : Text)
    (v : V)
    → AreEres text source es → ((k : K) → test k ≡ true → text k ≡ s) → lookup test es ≡ Some v → (source v ≡ s)
    × IsEre s
is_found text source test es s v all same found =
    let p = Contains-lookup test es v found in
    let held = all (p.0, v) p.1 in
    let e : text p.0 ≡ s = same p.0 p.2 in
    (held.0 ∙ e, subst IsEre e held.1)

-- an ERE is put under its text
pub after_put : {K V : Type 0} (text : K → Text) (source : V → Text) (eq : K → K → Bool) (c : LruCache K V) (k : K)
    (v : V)
    → AreEres text source c.entries → ((j : K) → eq k j ≡ true → text j ≡ text k) → source v ≡ text k → IsEre (text k)
    → AreEres text source (put_entries eq c k v)
after_put text source eq c k v all same is ere e is_there = elim (Contains-put_entries eq c k v e is_there) [
  | inl was ↦ all e was
  | inr put ↦ elim put.1 [
    | inl here ↦ (ap source put.0 ∙ is ∙ ap text (sym here), subst IsEre (ap text (sym here)) ere)
    | inr before ↦ let e_key : text e.0 ≡ text k = same e.0 before.2 in
        (ap source put.0 ∙ is ∙ sym e_key, subst IsEre (sym e_key) ere)
  ]
]

-- bytes that compare as the same are the same text
pub same_text : (s t : Text) → bytes_eq s t ≡ true → t ≡ s
same_text s t e = sym ((bytes_eq-Decides s t).0 e)

-- an empty cache
pub none_yet : {K V : Type 0} (text : K → Text) (source : V → Text) → AreEres text source []
none_yet text source e is_there = absurd (Contains-nil e is_there)
