-- The first place of a byte, and of two newlines in a row.
use Rattle.std.proofs.Common.{◌≡◌, ℕ, zero, suc, ◌+◌, ◌-◌, ◌≤◌, ◌<◌, Bool, true, false, not, cond, ◌&&◌, ◌==◌, eqb}
use Rattle.std.proofs.Common.{List, [], ◌∷◌, ◌++◌, length, take, drop, get_or, Option, Some, None, option_map, sym, ap}
use Rattle.std.proofs.Common.{ap₂, subst, refl, ◌∙◌, arith, eqb-true, get_or-take, length-append}
use Rattle.std.specs.List.{prefix_len}
use Rattle.std.proofs.lemmas.Bool.{false≢true}
use Rattle.std.proofs.lemmas.List.{take-append-le, drop-append-le, length-take-le, take_rest}
use Rattle.std.proofs.lemmas.List.Folds.{prefix_len-append}
use Rattle.std.proofs.lemmas.List.Sums.{prefix_len-le-length}
use Rattle.memchr.specs.Find.{FindsNeedle, OccursAt}
use Rattle.awk_fields.specs.Heads.{is_newline, pair_place}
use Rattle.awk_fields.specs.Unread.{IsInside, IsPassed, IsSearched, last_of}
use Rattle.awk_fields.specs.declared.front.Front.TheVariants.{Record, Done}
use Rattle.awk_fields.specs.declared.front.Searched.{Searched}
use Rattle.awk_fields.specs.declared.front.Searched.TheVariants.{Byte, Paragraph}

fails : (b : Bool) → (b ≡ true → ⊥) → b ≡ false
fails true h = absurd (h refl)
fails false h = refl

-- what is known of the bytes in front stays where more are added
pub prefix_more : (p : ℕ → Bool) (s t : List ℕ) (n : ℕ) → n ≤ prefix_len p s → n ≤ prefix_len p (s ++ t)
prefix_more p s t n h = subst (λ m. n ≤ m) (sym (prefix_len-append p s t)) (by (eqb (prefix_len p s) (length s))
    (prefix_len-le-length p s))
  where
    by : (b : Bool) → prefix_len p s ≤ length s → n ≤ cond b (length s + prefix_len p t) (prefix_len p s)
    by true le = omega arith
    by false le = h

-- the count goes on behind what was counted
prefix_on : (p : ℕ → Bool) (s : List ℕ) (n : ℕ) → n ≤ prefix_len p s → n + prefix_len p (drop n s) ≡ prefix_len p s
prefix_on p s zero h = omega arith
prefix_on p [] (suc n) h = absurd (omega arith)
prefix_on p (b ∷ s) (suc n) h = by (p b) (λ le. prefix_on p s n le) h
  where
    by : (t : Bool) → (n ≤ prefix_len p s → n + prefix_len p (drop n s) ≡ prefix_len p s)
        → suc n ≤ cond t (1 + prefix_len p s) 0 → suc n + prefix_len p (drop n s) ≡ cond t (1 + prefix_len p s) 0
    by true on le = omega (arith, on (omega arith))
    by false on le = absurd (omega arith)

-- ---- two newlines in a row

abbrev pub is_pair : List ℕ → ℕ → Bool
is_pair s k = get_or s k 0 == 10 && get_or s (suc k) 0 == 10

pub pair_at : (s : List ℕ) (k : ℕ) → k + 2 ≤ length s → is_pair s k ≡ true → ((j : ℕ) → j < k → is_pair s j ≡ false)
    → pair_place s ≡ Some k
pair_at [] k inside here before = absurd (omega arith)
pair_at (b ∷ []) k inside here before = absurd (omega arith)
pair_at (b ∷ c ∷ s) zero inside here before = ap (λ t. cond t (Some 0) (option_map (λ k. k + 1) (pair_place (c ∷ s))))
    here
pair_at (b ∷ c ∷ s) (suc k) inside here before =
    ap (λ t. cond t (Some 0) (option_map (λ j. j + 1) (pair_place (c ∷ s)))) (before 0 (omega arith))
    ∙ (ap (option_map (λ j. j + 1)) (pair_at (c ∷ s) k (omega arith) here (λ j lt. before (suc j) (omega arith)))
    ∙ ap Some (omega arith))

pub pair_none : (s : List ℕ) → ((j : ℕ) → j + 2 ≤ length s → is_pair s j ≡ false) → pair_place s ≡ None
pair_none [] none = refl
pair_none (b ∷ []) none = refl
pair_none (b ∷ c ∷ s) none =
    ap (λ t. cond t (Some 0) (option_map (λ j. j + 1) (pair_place (c ∷ s)))) (none 0 (omega arith))
    ∙ ap (option_map (λ j. j + 1)) (pair_none (c ∷ s) (λ j inside. none (suc j) (omega arith)))

pair_from : (s : List ℕ) (k : ℕ) → OccursAt s (10 ∷ 10 ∷ []) k → is_pair s k ≡ true
pair_from s k at =
    let first : get_or s k 0 ≡ 10 = ap (λ n. get_or s n 0) (omega arith) ∙ at.reads 0 (omega arith) in
    let second : get_or s (suc k) 0 ≡ 10 = ap (λ n. get_or s n 0) (omega arith) ∙ at.reads 1 (omega arith) in
    ap₂ (λ x y. x == 10 && y == 10) first second

and_true : (x y : Bool) → (x && y) ≡ true → (x ≡ true) × (y ≡ true)
and_true true true h = (refl, refl)
and_true true false h = absurd (false≢true h)
and_true false y h = absurd (false≢true h)

occurs_from : (s : List ℕ) (k : ℕ) → k + 2 ≤ length s → is_pair s k ≡ true → OccursAt s (10 ∷ 10 ∷ []) k
occurs_from s k inside h =
    let both = and_true (get_or s k 0 == 10) (get_or s (suc k) 0 == 10) h in
    record {
      fits = inside;
      reads = reads (eqb-true (get_or s k 0) 10 both.0) (eqb-true (get_or s (suc k) 0) 10 both.1);
    }
  where
    reads : get_or s k 0 ≡ 10 → get_or s (suc k) 0 ≡ 10 → (j : ℕ) → j < 2
        → get_or s (k + j) 0 ≡ get_or (10 ∷ 10 ∷ []) j 0
    reads first second zero lt = ap (λ n. get_or s n 0) (omega arith) ∙ first
    reads first second (suc zero) lt = ap (λ n. get_or s n 0) (omega arith) ∙ second
    reads first second (suc (suc j)) lt = absurd (omega arith)

pub found_pair : (s : List ℕ) (r : Option ℕ) → FindsNeedle s (10 ∷ 10 ∷ []) 0 r → r ≡ pair_place s
found_pair s None none =
    sym (pair_none s (λ j inside. fails (is_pair s j) (λ is. none j (omega arith) (omega arith)
    (occurs_from s j inside is))))
found_pair s (Some k) found =
    sym (pair_at s k found.1.fits (pair_from s k found.1)
    (λ j lt. fails (is_pair s j) (λ is. found.0.before j (omega arith) lt
    (occurs_from s j (omega (arith, found.1.fits)) is))))

pub none_pair : (s : List ℕ) → pair_place s ≡ None → (j : ℕ) → j + 2 ≤ length s → is_pair s j ≡ false
none_pair [] e j inside = absurd (omega arith)
none_pair (b ∷ []) e j inside = absurd (omega arith)
none_pair (b ∷ c ∷ s) e j inside = by (b == 10 && c == 10) (pair_place (c ∷ s)) refl
    (λ f i le. none_pair (c ∷ s) f i le) e j inside
  where
    by : (t : Bool) (r : Option ℕ) → (b == 10 && c == 10) ≡ t → (r ≡ None → (j : ℕ) → j + 2 ≤ length (c ∷ s)
        → is_pair (c ∷ s) j ≡ false) → cond t (Some 0) (option_map (λ k. k + 1) r) ≡ None → (j : ℕ)
        → j + 2 ≤ length (b ∷ c ∷ s) → is_pair (b ∷ c ∷ s) j ≡ false
    by true r here on e j inside = absurd (cc)
    by false (Some k) here on e j inside = absurd (cc)
    by false None here on e zero inside = here
    by false None here on e (suc j) inside = on refl j (omega arith)

-- the first two newlines in a row stand behind a place before which none begin
pair_on : (s : List ℕ) (n : ℕ) → n ≤ length s → ((j : ℕ) → j < n → is_pair s j ≡ false)
    → pair_place s ≡ option_map (λ k. n + k) (pair_place (drop n s))
pair_on s zero inside none = by (pair_place s)
  where
    by : (r : Option ℕ) → r ≡ option_map (λ k. 0 + k) r
    by None = refl
    by (Some k) = ap Some (omega arith)
pair_on [] (suc n) inside none = absurd (omega arith)
pair_on (b ∷ []) (suc zero) inside none = refl
pair_on (b ∷ []) (suc (suc n)) inside none = absurd (omega arith)
pair_on (b ∷ c ∷ s) (suc n) inside none =
    ap (λ t. cond t (Some 0) (option_map (λ k. k + 1) (pair_place (c ∷ s)))) (none 0 (omega arith))
    ∙ (ap (option_map (λ k. k + 1)) (pair_on (c ∷ s) n (omega arith) (λ j lt. none (suc j) (omega arith)))
    ∙ by (pair_place (drop n (c ∷ s))))
  where
    by : (r : Option ℕ) → option_map (λ k. k + 1) (option_map (λ k. n + k) r) ≡ option_map (λ k. suc n + k) r
    by None = refl
    by (Some k) = ap Some (omega arith)

known_pairs : (s : List ℕ) (known : ℕ) → known ≤ length s → pair_place (take known s) ≡ None → (j : ℕ) → j < known - 1
    → is_pair s j ≡ false
known_pairs s known inside none j lt =
    sym (ap₂ (λ x y. x == 10 && y == 10) (get_or-take known s j 0 (omega arith))
    (get_or-take known s (suc j) 0 (omega arith)))
    ∙ none_pair (take known s) none j (omega (arith, length-take-le known s inside))

-- the search goes on one byte before what is known, since the second newline may stand behind it
pub pair_behind : (s : List ℕ) (known from : ℕ) (r : Option ℕ) → from ≡ known - 1 → known ≤ length s
    → pair_place (take known s) ≡ None → FindsNeedle (take (length s - from) (drop from s)) (10 ∷ 10 ∷ []) 0 r
    → option_map (λ k. from + k) r ≡ pair_place s
pair_behind s known from r at inside none found =
    ap (option_map (λ k. from + k)) (found_pair (take (length s - from) (drop from s)) r found ∙ ap pair_place
    (take_rest s from))
    ∙ sym (pair_on s from (omega arith) (λ j lt. known_pairs s known inside none j (omega arith)))

-- ---- what a reader knows

-- stays where more is pushed
pub searched_more : (s t : List ℕ) (searched : Searched) → IsSearched s searched → IsSearched (s ++ t) searched
searched_more s t (Byte mark count) h = prefix_more (λ b. not (b == mark)) s t count h
searched_more s t (Paragraph passed count) h =
    let behind : drop passed (s ++ t) ≡ drop passed s ++ t =
    drop-append-le passed s t (omega (arith, h.newlines, prefix_len-le-length is_newline s)) in
    record {
      newlines = prefix_more is_newline s t passed h.newlines;
      inside = omega (arith, h.inside, ap length behind, length-append (drop passed s) t);
      none = ap (λ x. pair_place (take count x)) behind
          ∙ (ap pair_place (take-append-le count (drop passed s) t h.inside) ∙ h.none);
    }

-- all newlines in front, with those that were counted
pub passed_all : (s : List ℕ) (passed count more : ℕ) → IsPassed s passed count
    → more ≡ prefix_len is_newline (take (length s - passed) (drop passed s)) → passed + more ≡ prefix_len is_newline s
passed_all s passed count more known e =
    let counted : more ≡ prefix_len is_newline (drop passed s) = e ∙ ap (prefix_len is_newline) (take_rest s passed) in
    omega (arith, counted, prefix_on is_newline s passed known.newlines)

-- no more is known behind them
pub passed_only : (s : List ℕ) (passed : ℕ) → passed ≡ prefix_len is_newline s → IsPassed s passed 0
passed_only s passed e = record { newlines = omega arith; inside = omega arith; none = refl }

-- the last record is inside what is held, or what is known of it stands
pub last_inside : (s : List ℕ) (start end next : ℕ) (searched : Searched) (ended : Bool) → start ≤ end → end ≤ length s
    → next ≤ length s → IsSearched s searched → IsInside s (last_of start end next searched ended)
last_inside s start end next searched false ordered inside behind known = known
last_inside s start end next searched true ordered inside behind known = by (start == end)
  where
    by : (t : Bool) → IsInside s (cond t Done (Record start end next))
    by true = tt
    by false = (ordered, inside, behind)
