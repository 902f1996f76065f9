-- A list of texts with values, and more of them behind it.
use Rattle.std.proofs.Common.{◌≡◌, ◌∙◌, ℕ, ◌<◌, List, [], ◌∷◌, ◌++◌, length, drop, suc, get_or, Bool, true, false, cond}
use Rattle.std.proofs.Common.{Some, None, refl, sym, ap, if◌then◌else◌, append_assoc, drop-cons, Result, Ok, Err, OnOk}
use Rattle.std.specs.Map.{lookup}
use Rattle.std.specs.Str.{bytes_eq}
use Rattle.awk_resolve.specs.TextTables.{with_text}

module _ {V : Type 0} (x : List ℕ) where
  pub in_front : (a b : List (List ℕ × V)) (v : V) → lookup (bytes_eq x) a ≡ Some v → lookup (bytes_eq x) (a ++ b)
      ≡ Some v
  in_front [] b v some = cc
  in_front (e ∷ a) b v some = by (bytes_eq x e.0) some (in_front a b v)
    where
      by : (t : Bool) → cond t (Some e.1) (lookup (bytes_eq x) a) ≡ Some v
          → (lookup (bytes_eq x) a ≡ Some v → lookup (bytes_eq x) (a ++ b) ≡ Some v)
          → cond t (Some e.1) (lookup (bytes_eq x) (a ++ b)) ≡ Some v
      by true some rest = some
      by false some rest = rest some

  pub behind : (a b : List (List ℕ × V)) → lookup (bytes_eq x) a ≡ None → lookup (bytes_eq x) (a ++ b)
      ≡ lookup (bytes_eq x) b
  behind [] b none = refl
  behind (e ∷ a) b none = by (bytes_eq x e.0) none (behind a b)
    where
      by : (t : Bool) → cond t (Some e.1) (lookup (bytes_eq x) a) ≡ None
          → (lookup (bytes_eq x) a ≡ None → lookup (bytes_eq x) (a ++ b) ≡ lookup (bytes_eq x) b)
          → cond t (Some e.1) (lookup (bytes_eq x) (a ++ b)) ≡ lookup (bytes_eq x) b
      by true some rest = cc
      by false none rest = rest none

  -- what does not stand in the whole does not stand in front
  pub none_in_front : (a b : List (List ℕ × V)) → lookup (bytes_eq x) (a ++ b) ≡ None → lookup (bytes_eq x) a ≡ None
  none_in_front [] b none = refl
  none_in_front (e ∷ a) b none = by (bytes_eq x e.0) none (none_in_front a b)
    where
      by : (t : Bool) → cond t (Some e.1) (lookup (bytes_eq x) (a ++ b)) ≡ None → (lookup (bytes_eq x) (a ++ b) ≡ None
          → lookup (bytes_eq x) a ≡ None)
          → cond t (Some e.1) (lookup (bytes_eq x) a) ≡ None
      by true some rest = cc
      by false none rest = rest none

  pub put_behind : (v : V) (a b : List (List ℕ × V)) → lookup (bytes_eq x) a ≡ None
      → with_text x v (a ++ b) ≡ a ++ with_text x v b
  put_behind v [] b none = refl
  put_behind v (e ∷ a) b none = by (bytes_eq x e.0) none (put_behind v a b)
    where
      by : (t : Bool) → cond t (Some e.1) (lookup (bytes_eq x) a) ≡ None
          → (lookup (bytes_eq x) a ≡ None → with_text x v (a ++ b) ≡ a ++ with_text x v b)
          → (if t then (e.0, v) ∷ (a ++ b) else e ∷ with_text x v (a ++ b)) ≡ e ∷ (a ++ with_text x v b)
      by true some rest = cc
      by false none rest = ap (λ l. e ∷ l) (rest none)

  -- the first that is left, where the text stands under it
  pub here : (es : List (List ℕ × V)) (i : ℕ) (e : List ℕ × V) → i < length es → e ≡ get_or es i e
      → bytes_eq x e.0 ≡ true → lookup (bytes_eq x) (drop i es) ≡ Some e.1
  here es i e lt is eq =
      let left : drop i es ≡ e ∷ drop (suc i) es = drop-cons es i e lt ∙ ap (λ d. d ∷ drop (suc i) es) (sym is) in
      ap (lookup (bytes_eq x)) left ∙ ap (λ t. cond t (Some e.1) (lookup (bytes_eq x) (drop (suc i) es))) eq

  -- a value that is put last, where the text is not there and nothing stands behind
  pub put_last : (v : V) (a b : List (List ℕ × V)) → lookup (bytes_eq x) (a ++ b) ≡ None → b ≡ []
      → (a ++ (x, v) ∷ []) ++ b ≡ with_text x v (a ++ b)
  put_last v a b none empty =
      let front : with_text x v (a ++ b) ≡ a ++ with_text x v b = put_behind v a b (none_in_front a b none) in
      append_assoc a ((x, v) ∷ []) b ∙ ap (λ l. a ++ (x, v) ∷ l) empty
      ∙ sym (front ∙ ap (λ l. a ++ with_text x v l) empty)

  -- or else behind
  pub put_more : {E : Type 0} (v : V) (a b c : List (List ℕ × V)) (r : Result Unit E) → lookup (bytes_eq x) (a ++ b)
      ≡ None → OnOk r (c ≡ with_text x v b) → OnOk r (a ++ c ≡ with_text x v (a ++ b))
  put_more v a b c (Ok u) none same = ap (λ l. a ++ l) same ∙ sym (put_behind v a b (none_in_front a b none))
  put_more v a b c (Err e) none same = tt
