-- Places in the whole and in the text that stands there.
use Rattle.std.proofs.Common.{◌≡◌, ℕ, suc, zero, ◌+◌, ◌<◌, ◌≤◌, min, Bool, true, false, not, cond, eqb, List, [], ◌∷◌}
use Rattle.std.proofs.Common.{◌++◌, length, map, take, drop, get_or, reverse, count_by, All, sym, ap, refl, subst, ◌∙◌}
use Rattle.std.proofs.Common.{inl, inr, arith, add-one}
use Rattle.std.specs.List.{flat_map, prefix_len, suffix_len}
use Rattle.std.proofs.lemmas.Bool.{cases_Bool, eqb-true}
use Rattle.std.proofs.lemmas.List.{append_assoc, append-nil, map-append, reverse-append, take_more}
use Rattle.std.proofs.lemmas.List.Concat.{flat_map-append}
use Rattle.std.proofs.lemmas.List.Elements.{All-append}
use Rattle.std.proofs.lemmas.List.Folds.{prefix_len-append}
use Rattle.std.proofs.lemmas.List.Sums.{sum_by-append}
use Rattle.awk_numbers.specs.declared.number.Numbers.{Numbers}
use Rattle.awk_text.specs.declared.place.Place.{Place}
use Rattle.awk_tokens.specs.Bytes.{Text}
use Rattle.awk_tokens.specs.Places.{capped, place_after}
use Rattle.awk_tokens.specs.Reads.{Refuses}
use Rattle.awk_sources.specs.Joined.{lead, texts_of}
use Rattle.awk_sources.specs.Lines.{lines_of}
use Rattle.awk_sources.specs.Parts.{IsRead, RefusesText}
use Rattle.awk_sources.specs.declared.source.Source.{Source}

abbrev in_line : ℕ → Bool
in_line b = not (eqb b 10)

abbrev pub newlines : Text → ℕ
newlines text = count_by (λ b. eqb b 10) text

pub newlines_append : (x y : Text) → newlines (x ++ y) ≡ newlines x + newlines y
newlines_append x y = sum_by-append (λ b. cond (eqb b 10) 1 0) x y

-- ---- a column counts from the newline before

cut : (x y : Text) → prefix_len in_line y ≡ 0 → prefix_len in_line (x ++ y) ≡ prefix_len in_line x
cut x y stops =
    prefix_len-append in_line x y ∙ elim (cases_Bool (eqb (prefix_len in_line x) (length x))) [
      | inl e ↦ let all = eqb-true (prefix_len in_line x) (length x) e in rw e (omega arith)
      | inr e ↦ rw e refl
    ]

lead_stops : (texts : List Text) → prefix_len in_line (reverse (lead texts)) ≡ 0
lead_stops [] = refl
lead_stops (text ∷ texts) =
    let stops : prefix_len in_line (reverse (text ++ 10 ∷ [])) ≡ 0 =
    ap (prefix_len in_line) (reverse-append text (10 ∷ [])) in
    ap (prefix_len in_line) (reverse-append (text ++ 10 ∷ []) (lead texts)) ∙ cut (reverse (lead texts))
    (reverse (text ++ 10 ∷ [])) stops ∙ lead_stops texts

pub column_behind : (texts : List Text) (front : Text) → suffix_len in_line (lead texts ++ front)
    ≡ suffix_len in_line front
column_behind texts front = ap (prefix_len in_line) (reverse-append (lead texts) front) ∙ cut (reverse front)
    (reverse (lead texts)) (lead_stops texts)

abbrev pub at : ℕ → ℕ → Place
at l c = record { line = l; column = c }

pub at_same : (l l' c c' : ℕ) → l ≡ l' → c ≡ c' → at l c ≡ at l' c'
at_same l l' c c' e f = ap (λ x. at x c) e ∙ ap (at l') f

capped_sum : (m n : ℕ) → capped (capped m + capped (n + 1)) ≡ capped (m + n + 1)
capped_sum m n = omega arith

-- the place in the whole is so many lines further on
pub placed_behind : (texts : List Text) (front : Text) (lines sum : ℕ) (own : Place)
    → lines ≡ capped (newlines (lead texts)) → own ≡ place_after front → sum ≡ capped (lines + own.line)
    → at sum own.column ≡ place_after (lead texts ++ front)
placed_behind texts front lines sum own before is sum_is =
    at_same sum _ own.column _
    (sum_is ∙ ap (λ n. capped (n + own.line)) before ∙ ap (λ p. capped (capped (newlines (lead texts)) + p.line)) is
    ∙ capped_sum (newlines (lead texts)) (newlines front)
    ∙ ap (λ n. capped (n + 1)) (sym (newlines_append (lead texts) front)))
    (ap (λ p. p.column) is ∙ ap (λ n. capped (n + 1)) (sym (column_behind texts front)))

-- ---- one text more

texts_more : (sources : List Source) (i : ℕ) (s : Source) → i < length sources → s ≡ get_or sources i s
    → texts_of (take (i + 1) sources) ≡ texts_of (take i sources) ++ s.text.items ∷ []
texts_more sources i s below is =
    ap texts_of (take_more sources i s below) ∙ map-append (λ x. x.text.items) (take i sources)
    (get_or sources i s ∷ []) ∙ ap (λ x. texts_of (take i sources) ++ x.text.items ∷ []) (sym is)

lead_push : (texts : List Text) (text : Text) → lead (texts ++ text ∷ []) ≡ lead texts ++ (text ++ 10 ∷ [])
lead_push texts text = flat_map-append (λ t. t ++ 10 ∷ []) texts (text ∷ []) ∙ ap (λ w. lead texts ++ w)
    (append-nil (text ++ 10 ∷ []))

pub newlines_push : (text : Text) → newlines (text ++ 10 ∷ []) ≡ lines_of text
newlines_push text = newlines_append text (10 ∷ [])

capped_more : (m n : ℕ) → capped (capped m + n) ≡ capped (m + n)
capped_more m n = omega arith

pub lines_more : (sources : List Source) (i : ℕ) (s : Source) (lines sum : ℕ) → i < length sources
    → s ≡ get_or sources i s → lines ≡ capped (newlines (lead (texts_of (take i sources))))
    → sum ≡ capped (lines + lines_of s.text.items)
    → sum ≡ capped (newlines (lead (texts_of (take (i + 1) sources))))
lines_more sources i s lines sum below is before sum_is =
    let so_far = texts_of (take i sources) in
    sum_is ∙ ap (λ n. capped (n + lines_of s.text.items)) before ∙ capped_more (newlines (lead so_far))
    (lines_of s.text.items)
    ∙ ap (λ n. capped (newlines (lead so_far) + n)) (sym (newlines_push s.text.items))
    ∙ ap capped (sym (newlines_append (lead so_far) (s.text.items ++ 10 ∷ [])))
    ∙ ap (λ w. capped (newlines w)) (sym (lead_push so_far s.text.items)) ∙ ap (λ ts. capped (newlines (lead ts)))
    (sym (texts_more sources i s below is))

all_push : (numbers : Numbers) (texts : List Text) (text : Text) → All (IsRead numbers) texts → IsRead numbers text
    → All (IsRead numbers) (texts ++ text ∷ [])
all_push numbers texts text all one = All-append (IsRead numbers) texts (text ∷ []) all (λ k d below. alone k d below)
  where
    alone : (k : ℕ) (d : Text) → k < 1 → IsRead numbers (get_or (text ∷ []) k d)
    alone zero d below = one
    alone (suc k) d below = absurd (omega arith)

pub all_more : (numbers : Numbers) (sources : List Source) (i : ℕ) (s : Source) → i < length sources → s
    ≡ get_or sources i s
    → All (IsRead numbers) (texts_of (take i sources)) → IsRead numbers s.text.items → All (IsRead numbers)
    (texts_of (take (i + 1) sources))
all_more numbers sources i s below is all one = subst (λ ts. All (IsRead numbers) ts)
    (sym (texts_more sources i s below is))
    (all_push numbers (texts_of (take i sources)) s.text.items all one)

split_suc : (xs : List Source) (i : ℕ) (d : Source) → i < length xs → d ≡ get_or xs i d
    → xs ≡ take i xs ++ d ∷ drop (suc i) xs
split_suc [] i d h e = absurd (omega arith)
split_suc (x ∷ xs) zero d h e = ap (λ y. y ∷ xs) (sym e)
split_suc (x ∷ xs) (suc i) d h e = ap (λ ys. x ∷ ys) (split_suc xs i d (omega arith) e)

pub refused_in : (numbers : Numbers) (sources : List Source) (i : ℕ) (s : Source) (lines sum code : ℕ) (own : Place)
    → i < length sources
    → s ≡ get_or sources i s → lines ≡ capped (newlines (lead (texts_of (take i sources))))
    → All (IsRead numbers) (texts_of (take i sources))
    → sum ≡ capped (lines + own.line) → Refuses numbers s.text.items code own
    → RefusesText numbers (texts_of sources) code (at sum own.column)
refused_in numbers sources i s lines sum code own below is before all sum_is refused =
    let so_far = take i sources in
    record {
      before = texts_of so_far;
      text = s.text.items;
      after = texts_of (drop (suc i) sources);
      parts = ap texts_of (split_suc sources i s below is) ∙ map-append (λ x. x.text.items) so_far
          (s ∷ drop (suc i) sources);
      read = all;
      at = own;
      refused = refused;
      placed = placed_behind (texts_of so_far) refused.front lines sum own before refused.placed sum_is;
    }
