-- The first byte of a text and what is behind it; the items of a bracket expression.
use Rattle.std.proofs.Common.{◌≡◌, ℕ, zero, suc, ◌-◌, ◌<◌, ◌≤◌, inl, inr, Bool, true, false, not, ◌&&◌, ◌||◌, nat_lt}
use Rattle.std.proofs.Common.{cond, List, [], ◌∷◌, ◌++◌, take, drop, length, get_or, Option, Some, None, refl, sym, ◌∙◌}
use Rattle.std.proofs.Common.{ap, arith}
use Rattle.std.specs.List.{list_any}
use Rattle.std.proofs.lemmas.Bool.{cases_lt}
use Rattle.std.proofs.lemmas.Bool.Decides.{nat_tests}
use Rattle.awk_ere.specs.Bracket.{Range, in_range, class, class_name, is_stray, item_by, point, ranged, range_from}
use Rattle.awk_ere.specs.Bracket.{item, with_front, then_items, closes, items, found, after_hat, bracket_by, bracket}
use Rattle.awk_ere.specs.Lexing.{has, Adds, IsItem, IsSet, IsNegated}
use Rattle.awk_ere.proofs.Sets.{adds_none, adds_more}

-- what follows the first byte
abbrev pub behind : List ℕ → List ℕ
behind s = take (length s - 1) (drop 1 s)

take_all : (s : List ℕ) (n : ℕ) → n ≡ length s → take n s ≡ s
take_all [] zero e = refl
take_all [] (suc n) e = refl
take_all (x ∷ xs) zero e = absurd (omega arith)
take_all (x ∷ xs) (suc n) e = ap (λ ys. x ∷ ys) (take_all xs n (omega arith))

pub first_behind : (s : List ℕ) → 1 ≤ length s → s ≡ get_or s 0 0 ∷ behind s
first_behind [] le = absurd (omega arith)
first_behind (x ∷ xs) le = ap (λ ys. x ∷ ys) (sym (take_all xs (length (x ∷ xs) - 1) (omega arith)))

-- items that are still to be read, of a whole that gives `all`
pub record Remain (first : Bool) (left : List ℕ) (all : Option (List Range × List ℕ)) (old new : List Bool) : Type 0
  where
    pub count : ℕ
    pub ranges : List Range
    pub enough : length left ≤ count
    pub gives : with_front ranges (items count first left) ≡ all
    pub adds : Adds old ranges new

front_none : (x : Option (List Range × List ℕ)) → with_front [] x ≡ x
front_none None = refl
front_none (Some p) = refl

pub remain_all : (s : List ℕ) (set : List Bool) → Remain true s (items (length s) true s) set set
remain_all s set = record {
  count = length s;
  ranges = [];
  enough = omega arith;
  gives =
      front_none (items (length s) true s);
  adds = adds_none set;
}

-- the items at a byte
items_front : (n : ℕ) (first : Bool) (s : List ℕ) → 1 ≤ length s → length s ≤ suc n
    → items (suc n) first s ≡ cond (closes first (get_or s 0 0)) (Some ([], behind s))
    (then_items (item first s) (items n false))
items_front n first s le enough =
    let e = first_behind s le in
    ap (λ x. items (suc n) first x) e ∙ ap (λ x. cond (closes first (get_or s 0 0)) (Some ([], behind s))
    (then_items (item first x) (items n false))) (sym e)

front_append : (xs ys : List Range) (x : Option (List Range × List ℕ)) → with_front xs (with_front ys x)
    ≡ with_front (xs ++ ys) x
front_append xs ys None = refl
front_append xs ys (Some p) = ap (λ zs. Some (zs, p.1)) (sym (assoc xs ys p.0)) where
  assoc : (xs ys zs : List Range) → (xs ++ ys) ++ zs ≡ xs ++ (ys ++ zs)
  assoc [] ys zs = refl
  assoc (x ∷ xs) ys zs = ap (λ r. x ∷ r) (assoc xs ys zs)

-- the closing byte
pub remain_ends : (first : Bool) (left : List ℕ) (all : Option (List Range × List ℕ)) (old new : List Bool)
    → Remain first left all old new → 1 ≤ length left → closes first (get_or left 0 0) ≡ true
    → IsItem all old new (behind left)
remain_ends first left all old new h le is = by_count h.count refl where
  by_count : (n : ℕ) → h.count ≡ n → IsItem all old new (behind left)
  by_count zero e = absurd (omega (arith, h.enough))
  by_count (suc n) e =
      let step = items_front n first left le (omega (arith, h.enough))
      ∙ ap (λ x. cond x (Some ([], behind left)) (then_items (item first left) (items n false))) is in
      let same : Some (h.ranges ++ [], behind left) ≡ all = sym (ap (λ x. with_front h.ranges x) step)
      ∙ sym (ap (λ k. with_front h.ranges (items k first left)) e) ∙ h.gives in
      (h.ranges ++ [], sym same, adds_more old new new h.ranges [] h.adds (adds_none new))

-- one more item
pub remain_more : (first : Bool) (left rest : List ℕ) (all : Option (List Range × List ℕ)) (old mid new : List Bool)
    → Remain first left all old mid → 1 ≤ length left → closes first (get_or left 0 0) ≡ false
    → length rest < length left → IsItem (item first left) mid new rest → Remain false rest all old new
remain_more first left rest all old mid new h le is shorter (more, read, adds) = by_count h.count refl where
  by_count : (n : ℕ) → h.count ≡ n → Remain false rest all old new
  by_count zero e = absurd (omega (arith, h.enough))
  by_count (suc n) e =
      let step = items_front n first left le (omega (arith, h.enough))
      ∙ ap (λ x. cond x (Some ([], behind left)) (then_items (item first left) (items n false))) is
      ∙ ap (λ x. then_items x (items n false)) read in
      record {
        count = n;
        ranges = h.ranges ++ more;
        enough = omega (arith, h.enough);
        gives = sym (front_append h.ranges more (items n false rest)) ∙ sym (ap (λ x. with_front h.ranges x) step)
            ∙ sym (ap (λ k. with_front h.ranges (items k first left)) e) ∙ h.gives;
        adds = adds_more old mid new h.ranges more h.adds adds;
      }

-- no item
pub remain_none : (first : Bool) (left : List ℕ) (all : Option (List Range × List ℕ)) (old new : List Bool)
    → Remain first left all old new → 1 ≤ length left → closes first (get_or left 0 0) ≡ false → item first left ≡ None
    → all ≡ None
remain_none first left all old new h le is none = by_count h.count refl where
  by_count : (n : ℕ) → h.count ≡ n → all ≡ None
  by_count zero e = absurd (omega (arith, h.enough))
  by_count (suc n) e =
      let step = items_front n first left le (omega (arith, h.enough))
      ∙ ap (λ x. cond x (Some ([], behind left)) (then_items (item first left) (items n false))) is
      ∙ ap (λ x. then_items x (items n false)) none in
      sym h.gives ∙ ap (λ k. with_front h.ranges (items k first left)) e ∙ ap (λ x. with_front h.ranges x) step

pub remain_end : (first : Bool) (left : List ℕ) (all : Option (List Range × List ℕ)) (old new : List Bool)
    → Remain first left all old new → length left ≡ 0 → all ≡ None
remain_end first [] all old new h e = sym h.gives ∙ ap (λ x. with_front h.ranges x) (none h.count) where
  none : (n : ℕ) → items n first [] ≡ None
  none zero = refl
  none (suc n) = refl
remain_end first (x ∷ xs) all old new h e = absurd (omega arith)

-- an item by its parts
pub item_class : (first : Bool) (s name rest : List ℕ) (ranges : List Range) (old new : List Bool)
    → Some name ≡ class_name s → class name ≡ Some (ranges, rest) → Adds old ranges new
    → IsItem (item first s) old new rest
item_class first s name rest ranges old new named read adds =
    (ranges, ap (λ x. item_by x (is_stray first s) (point s)) (sym named) ∙ read, adds)

pub item_range : (first : Bool) (s after rest : List ℕ) (low : ℕ) (range : Range) (old new : List Bool)
    → None ≡ class_name s → is_stray first s ≡ false → point s ≡ Some (low, after)
    → range_from low after ≡ Some (range ∷ [], rest) → Adds old (range ∷ []) new → IsItem (item first s) old new rest
item_range first s after rest low range old new named stray pointed read adds = (
  range ∷ [],
  ap (λ x. item_by x (is_stray first s) (point s)) (sym named) ∙ ap (λ b. item_by None b (point s)) stray
      ∙ ap ranged pointed ∙ read,
  adds,
)

or_false : (x : Bool) → (x || false) ≡ x
or_false true = refl
or_false false = refl

below : (b : ℕ) → b < 256 → nat_lt b 256 ≡ true
below b lt = grind (arith, nat_tests)

beyond : (b : ℕ) → 256 ≤ b → nat_lt b 256 ≡ false
beyond b le = grind (arith, nat_tests)

get_or_past : (xs : List Bool) (b : ℕ) (d : Bool) → length xs ≤ b → get_or xs b d ≡ d
get_or_past [] b d le = refl
get_or_past (x ∷ xs) zero d le = absurd (omega arith)
get_or_past (x ∷ xs) (suc b) d le = get_or_past xs b d (omega arith)

-- a whole bracket expression
pub set_plain : (s rest : List ℕ) (old new : List Bool) → None ≡ after_hat s → length new ≡ 256
    → ((b : ℕ) → has old b ≡ false) → IsItem (items (length s) true s) old new rest → IsSet (bracket s) new rest
set_plain s rest old new e len blank (ranges, read, adds) = (
  false,
  ranges,
  ap (λ x. bracket_by x s) (sym e) ∙ ap (found false) read,
  λ b. elim (cases_lt b 256) [
    | inl lt ↦ adds b lt ∙ ap (λ x. list_any (in_range b) ranges || x) (blank b)
        ∙ or_false (list_any (in_range b) ranges) ∙ sym (ap (λ x. x && list_any (in_range b) ranges) (below b lt))
    | inr le ↦ get_or_past new b false (omega arith) ∙ sym (ap (λ x. x && list_any (in_range b) ranges) (beyond b le))
  ],
)

pub set_negated : (s t rest : List ℕ) (old mid new : List Bool) → Some t ≡ after_hat s → length new ≡ 256
    → ((b : ℕ) → has old b ≡ false) → IsItem (items (length t) true t) old mid rest → IsNegated mid new
    → IsSet (bracket s) new rest
set_negated s t rest old mid new e len blank (ranges, read, adds) turned = (
  true,
  ranges,
  ap (λ x. bracket_by x s) (sym e) ∙ ap (found true) read,
  λ b. elim (cases_lt b 256) [
    | inl lt ↦ turned b lt ∙ ap not (adds b lt ∙ ap (λ x. list_any (in_range b) ranges || x) (blank b)
        ∙ or_false (list_any (in_range b) ranges)) ∙ sym (ap (λ x. x && not (list_any (in_range b) ranges))
        (below b lt))
    | inr le ↦ get_or_past new b false (omega arith) ∙ sym (ap (λ x. x && not (list_any (in_range b) ranges))
        (beyond b le))
  ],
)
