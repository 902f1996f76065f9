-- Fields that are set, and how long the whole text is that they make.
use Rattle.std.proofs.Common.{◌≡◌, ℕ, zero, suc, ◌+◌, ◌-◌, ◌*◌, ◌<◌, List, [], ◌∷◌, ◌++◌, length, map, take, drop, set}
use Rattle.std.proofs.Common.{get_or, replicate, min, sym, ap, refl, ◌∙◌, arith, length-append}
use Rattle.std.proofs.lemmas.Grind.{common_steps}
use Rattle.std.proofs.lemmas.List.{map-append, map-set, length-map, length-replicate, length-set, take_all}
use Rattle.std.proofs.lemmas.List.Sums.{sum_by-cons, sum_by-append, sum_by-set, sum_by-take-drop}
use Rattle.std.proofs.lemmas.List.Folds.{sum_by-replicate}
use Rattle.std.specs.List.{flat_map, sum_by}
use Rattle.std.proofs.lemmas.List.Elements.{All-append, All-set, All-replicate, All-take}
use Rattle.std.specs.Prelude.{All}
use Rattle.awk_text.specs.Values.{text_of}
use Rattle.awk_text.specs.declared.value.Value.{Value}
use Rattle.awk_fields.specs.Rows.{Field, blank, joined, padded, rebuilt, shown_in, with_count, with_field}

-- ---- how long the whole text is

abbrev pub text_bytes : Value → ℕ
text_bytes v = length (text_of v)

sum_by-map : {X Y : Type 0} (f : Y → ℕ) (g : X → Y) (xs : List X) → sum_by f (map g xs) ≡ sum_by (λ x. f (g x)) xs
sum_by-map f g [] = refl
sum_by-map f g (x ∷ xs) = sum_by-cons f (g x) (map g xs) ∙ (ap (λ n. f (g x) + n) (sum_by-map f g xs)
    ∙ sym (sum_by-cons (λ y. f (g y)) x xs))

others_length : (ofs : List ℕ) (values : List Value) → length (flat_map (λ v. ofs ++ text_of v) values)
    ≡ sum_by text_bytes values + length values * length ofs
others_length ofs [] = omega arith
others_length ofs (v ∷ values) =
    let one : length ((ofs ++ text_of v) ++ flat_map (λ v. ofs ++ text_of v) values) ≡ (length ofs + text_bytes v) +
    length (flat_map (λ v. ofs ++ text_of v) values) =
    length-append (ofs ++ text_of v) (flat_map (λ v. ofs ++ text_of v) values)
    ∙ ap (λ n. n + length (flat_map (λ v. ofs ++ text_of v) values)) (length-append ofs (text_of v)) in
    let rest = others_length ofs values in
    let sum = sum_by-cons text_bytes v values in
    grind (arith, one, rest, sum)

pub joined_length : (ofs : List ℕ) (values : List Value) → length (joined ofs values) ≡ sum_by text_bytes values +
    (length values - 1) * length ofs
joined_length ofs [] = omega arith
joined_length ofs (v ∷ values) =
    let one : length (joined ofs (v ∷ values)) ≡ text_bytes v + length (flat_map (λ v. ofs ++ text_of v) values) =
    length-append (text_of v) (flat_map (λ v. ofs ++ text_of v) values) in
    let rest = others_length ofs values in
    let sum = sum_by-cons text_bytes v values in
    let less : suc (length values) - 1 ≡ length values = omega arith in
    one ∙ (ap (λ n. text_bytes v + n) rest ∙ grind (arith, sum, less))

-- the same of what has values
joined_bytes : {X : Type 0} (value : X → Value) (ofs : List ℕ) (xs : List X) → length (joined ofs (map value xs))
    ≡ sum_by (λ x. length (text_of (value x))) xs + (length xs - 1) * length ofs
joined_bytes value ofs xs = joined_length ofs (map value xs) ∙ (ap (λ n. n + (length (map value xs) - 1) * length ofs)
    (sum_by-map text_bytes value xs) ∙ ap (λ n. sum_by (λ x. length (text_of (value x))) xs + (n - 1) * length ofs)
    (length-map xs value))

-- and of what is a field
pub rebuilt_bytes : {X : Type 0} (field : X → Field) (ofs : List ℕ) (xs : List X)
    → length (rebuilt ofs (map field xs)) ≡ sum_by (λ x. length (text_of (field x).shown)) xs
    + (length xs - 1) * length ofs
rebuilt_bytes field ofs xs =
    joined_bytes shown_in ofs (map field xs)
    ∙ (ap (λ n. n + (length (map field xs) - 1) * length ofs) (sum_by-map (λ f. length (text_of (shown_in f))) field xs)
    ∙ ap (λ n. sum_by (λ x. length (text_of (field x).shown)) xs + (n - 1) * length ofs) (length-map xs field))

-- ---- one is set

map-replicate : {X Y : Type 0} (f : X → Y) (n : ℕ) (x : X) → map f (replicate n x) ≡ replicate n (f x)
map-replicate f zero x = refl
map-replicate f (suc n) x = ap (λ ys. f x ∷ ys) (map-replicate f n x)

-- what is read behind the end is what pads
read_padded : {X : Type 0} (xs : List X) (n at : ℕ) (d : X) → get_or (xs ++ replicate n d) at d ≡ get_or xs at d
read_padded [] zero at d = refl
read_padded [] (suc n) zero d = refl
read_padded [] (suc n) (suc at) d = read_padded [] n at d
read_padded (x ∷ xs) n zero d = refl
read_padded (x ∷ xs) n (suc at) d = read_padded xs n at d

pub padded_sum : {X : Type 0} (f : X → ℕ) (xs : List X) (n : ℕ) (d : X) → f d ≡ 0 → sum_by f (xs ++ replicate n d)
    ≡ sum_by f xs
padded_sum f xs n d none =
    sum_by-append f xs (replicate n d) ∙ (ap (λ m. sum_by f xs + m) (sum_by-replicate f n d ∙ ap (λ m. n * m) none)
    ∙ omega arith)

pub padded_length : {X : Type 0} (xs : List X) (count : ℕ) (d : X) → length (xs ++ replicate (count - length xs) d)
    ≡ length xs + (count - length xs)
padded_length xs count d = length-append xs (replicate (count - length xs) d) ∙ ap (λ n. length xs + n)
    (length-replicate (count - length xs) d)

pub put_length : {X : Type 0} (xs : List X) (at : ℕ) (x d : X)
    → length (set (xs ++ replicate (at + 1 - length xs) d) at x) ≡ length xs + (at + 1 - length xs)
put_length xs at x d = length-set (xs ++ replicate (at + 1 - length xs) d) at x ∙ padded_length xs (at + 1) d

pub put_sum : {X : Type 0} (f : X → ℕ) (xs : List X) (at : ℕ) (x d : X) → f d ≡ 0
    → sum_by f (set (xs ++ replicate (at + 1 - length xs) d) at x) + f (get_or xs at d) ≡ sum_by f xs + f x
put_sum f xs at x d none =
    let all = xs ++ replicate (at + 1 - length xs) d in
    let inside : at < length all = rw (padded_length xs (at + 1) d) (omega arith) in
    ap (λ y. sum_by f (set all at x) + f y) (sym (read_padded xs (at + 1 - length xs) at d))
    ∙ (sum_by-set f all at x d inside ∙ ap (λ n. n + f x) (padded_sum f xs (at + 1 - length xs) d none))

pub put_all : {X : Type 0} (P : X → Type 0) (xs : List X) (n at : ℕ) (x d : X) → P d → P x → All P xs
    → All P (set (xs ++ replicate n d) at x)
put_all P xs n at x d pads new old = All-set P (xs ++ replicate n d) at x new (All-append P xs (replicate n d) old
    (All-replicate P n d pads))

pub map_padded : {X : Type 0} (field : X → Field) (xs : List X) (count : ℕ) (d : X) → field d ≡ blank
    → map field (xs ++ replicate (count - length xs) d) ≡ padded (map field xs) count
map_padded field xs count d none =
    map-append field xs (replicate (count - length xs) d)
    ∙ (ap (λ r. map field xs ++ r) (map-replicate field (count - length xs) d
    ∙ ap (λ f. replicate (count - length xs) f) none) ∙ ap (λ n. map field xs ++ replicate (count - n) blank)
    (sym (length-map xs field)))

pub map_put : {X : Type 0} (field : X → Field) (xs : List X) (at : ℕ) (x d : X) → field d ≡ blank
    → map field (set (xs ++ replicate (at + 1 - length xs) d) at x) ≡ with_field (map field xs) at (field x)
map_put field xs at x d none =
    map-set field (xs ++ replicate (at + 1 - length xs) d) at x ∙ ap (λ fs. set fs at (field x))
    (map_padded field xs (at + 1) d none)

-- ---- some go, or are added

map-take : {X Y : Type 0} (f : X → Y) (n : ℕ) (xs : List X) → map f (take n xs) ≡ take n (map f xs)
map-take f zero xs = refl
map-take f (suc n) [] = refl
map-take f (suc n) (x ∷ xs) = ap (λ ys. f x ∷ ys) (map-take f n xs)

pub map_count : {X : Type 0} (field : X → Field) (xs : List X) (count : ℕ) (d : X) → field d ≡ blank
    → map field (take count (xs ++ replicate (count - length xs) d)) ≡ with_count (map field xs) count
map_count field xs count d none = map-take field count (xs ++ replicate (count - length xs) d) ∙ ap (take count)
    (map_padded field xs count d none)

take_none : {X : Type 0} (n : ℕ) → take {A = X} n [] ≡ []
take_none zero = refl
take_none (suc n) = refl

take_padded : {X : Type 0} (xs : List X) (count : ℕ) (d : X) → take count (xs ++ replicate (count - length xs) d)
    ≡ take (min count (length xs)) xs ++ replicate (count - length xs) d
take_padded [] zero d = refl
take_padded [] (suc n) d =
    let added = replicate (suc n - 0) d in
    take_all (suc n) added (rw (length-replicate (suc n - 0) d) (omega arith)) ∙ ap (λ ys. ys ++ added)
    (sym (take_none (min (suc n) 0)))
take_padded (x ∷ xs) zero d = grind (arith, common_steps)
take_padded (x ∷ xs) (suc n) d =
    let less : suc n - length (x ∷ xs) ≡ n - length xs = omega arith in
    let least : min (suc n) (length (x ∷ xs)) ≡ suc (min n (length xs)) = omega arith in
    rw (less, least) (ap (λ ys. x ∷ ys) (take_padded xs n d))

pub count_length : {X : Type 0} (xs : List X) (count : ℕ) (d : X)
    → length (take count (xs ++ replicate (count - length xs) d)) ≡ count
count_length xs count d = grind (arith, common_steps, padded_length)

pub count_sum : {X : Type 0} (f : X → ℕ) (xs : List X) (count : ℕ) (d : X) → f d ≡ 0
    → sum_by f (take count (xs ++ replicate (count - length xs) d)) + sum_by f (drop (min count (length xs)) xs)
    ≡ sum_by f xs
count_sum f xs count d none =
    ap (λ ys. sum_by f ys + sum_by f (drop (min count (length xs)) xs)) (take_padded xs count d)
    ∙ (ap (λ n. n + sum_by f (drop (min count (length xs)) xs)) (padded_sum f (take (min count (length xs)) xs)
    (count - length xs) d none) ∙ sum_by-take-drop f xs (min count (length xs)))

pub count_all : {X : Type 0} (P : X → Type 0) (xs : List X) (n count : ℕ) (d : X) → P d → All P xs
    → All P (take count (xs ++ replicate n d))
count_all P xs n count d pads old = All-take P count (xs ++ replicate n d) (All-append P xs (replicate n d) old
    (All-replicate P n d pads))
