-- Each line of the whole is one line of one text.
use Rattle.std.proofs.Common.{◌≡◌, ℕ, suc, zero, ◌+◌, ◌-◌, ◌<◌, ◌≤◌, ◌^◌, Bool, true, false, not, cond, eqb, List, []}
use Rattle.std.proofs.Common.{◌∷◌, ◌++◌, length, map, take, drop, get_or, codes, count_by, Option, Some, None}
use Rattle.std.proofs.Common.{string_bytes, IfSome, min, sym, ap, refl, subst, ◌∙◌, arith, add-one}
use Rattle.std.specs.List.{suffix_len}
use Rattle.std.specs.Fmt.{decimal}
use Rattle.std.proofs.Math.Seq.{split_at}
use Rattle.std.proofs.lemmas.List.{append_assoc, append-nil, map-append, take_more}
use Rattle.awk_text.specs.Quoted.{quoted}
use Rattle.awk_text.specs.declared.place.Place.{Place}
use Rattle.awk_tokens.specs.Bytes.{Text}
use Rattle.awk_tokens.specs.Places.{capped, place_after}
use Rattle.awk_sources.specs.Joined.{lead, texts_of}
use Rattle.awk_sources.specs.Lines.{Entry, entry_of, lines_of, total, HasNoLine, IsLine, IsTold, TellsOfBytes, entries}
use Rattle.awk_sources.specs.Lines.{row_text, table}
use Rattle.awk_sources.specs.declared.source.Source.{Source}
use Rattle.awk_sources.specs.declared.lines.InSource.{InSource}
use Rattle.awk_sources.specs.declared.lines.Part.{Part}
use Rattle.awk_sources.proofs.PlaceLemmas.{newlines, newlines_append, newlines_push, column_behind, at, at_same}

abbrev pub entry : Part → Entry
entry part = (string_bytes part.name, part.lines)

total_append : (xs ys : List Entry) → total (xs ++ ys) ≡ total xs + total ys
total_append [] ys = omega arith
total_append (x ∷ xs) ys = let rest = total_append xs ys in omega arith

entries_more : (parts : List Part) (i : ℕ) (p : Part) → i < length parts → p ≡ get_or parts i p
    → entries (take (i + 1) parts) ≡ entries (take i parts) ++ entry p ∷ []
entries_more parts i p below is =
    ap entries (take_more parts i p below) ∙ map-append entry (take i parts) (get_or parts i p ∷ [])
    ∙ ap (λ x. entries (take i parts) ++ entry x ∷ []) (sym is)

pub total_more : (parts : List Part) (i : ℕ) (p : Part) → i < length parts → p ≡ get_or parts i p
    → total (entries (take (i + 1) parts)) ≡ total (entries (take i parts)) + p.lines
total_more parts i p below is =
    let sum = ap total (entries_more parts i p below is) ∙ total_append (entries (take i parts)) (entry p ∷ []) in
    let one : total (entry p ∷ []) ≡ p.lines + 0 = refl in
    omega arith

entries_split : (parts : List Part) (i : ℕ) (p : Part) → i < length parts → p ≡ get_or parts i p
    → entries parts ≡ entries (take i parts) ++ entry p ∷ entries (drop (suc i) parts)
entries_split parts i p below is =
    ap entries (split_at parts i p below) ∙ map-append entry (take i parts) (get_or parts i p ∷ drop (suc i) parts)
    ∙ ap (λ x. entries (take i parts) ++ entry x ∷ entries (drop (suc i) parts)) (sym is)

pub is_line : (parts : List Part) (i line own : ℕ) (p : Part) → i < length parts → p ≡ get_or parts i p
    → line ≡ total (entries (take i parts)) + own → 1 ≤ own → own ≤ p.lines → IsLine (entries parts) line (entry p) own
is_line parts i line own p below is line_is first last =
    record {
      before = entries (take i parts);
      after = entries (drop (suc i) parts);
      parts =
          entries_split parts i p below is;
      first = first;
      last = last;
      line_is = line_is;
    }

-- there are no lines behind the last one, nor is there one before the first
pub past_all : (es : List Entry) (line rest : ℕ) → line ≡ total es + rest → 1 ≤ rest → HasNoLine es line
past_all es line rest is some e own there =
    let sum = ap total there.parts ∙ total_append there.before (e ∷ there.after) in
    let behind : total (e ∷ there.after) ≡ e.1 + total there.after = refl in
    let last = there.last in
    let line_is = there.line_is in
    absurd (omega arith)

pub before_all : (es : List Entry) (line : ℕ) → line ≡ 0 → HasNoLine es line
before_all es line is e own there = let first = there.first in let line_is = there.line_is in absurd (omega arith)

-- ---- a line is in one text alone

head_same : (x y : Entry) (xs ys : List Entry) → x ∷ xs ≡ y ∷ ys → x ≡ y
head_same x y xs ys e = cc

tail_same : (x y : Entry) (xs ys : List Entry) → x ∷ xs ≡ y ∷ ys → xs ≡ ys
tail_same x y xs ys e = cc

same_line : (xs ys xs' ys' : List Entry) (a b : Entry) (m n : ℕ) → xs ++ a ∷ xs' ≡ ys ++ b ∷ ys' → 1 ≤ m → m ≤ a.1
    → 1 ≤ n → n ≤ b.1 → total xs + m ≡ total ys + n → (a ≡ b) × (m ≡ n)
same_line [] [] xs' ys' a b m n e m1 ma n1 nb sums = (head_same a b xs' ys' e, omega arith)
same_line [] (y ∷ ys) xs' ys' a b m n e m1 ma n1 nb sums =
    let one = ap (λ x. x.1) (head_same a y xs' (ys ++ b ∷ ys') e) in
    let sum : total (y ∷ ys) ≡ y.1 + total ys = refl in
    absurd (omega arith)
same_line (x ∷ xs) [] xs' ys' a b m n e m1 ma n1 nb sums =
    let one = ap (λ z. z.1) (head_same x b (xs ++ a ∷ xs') ys' e) in
    let sum : total (x ∷ xs) ≡ x.1 + total xs = refl in
    absurd (omega arith)
same_line (x ∷ xs) (y ∷ ys) xs' ys' a b m n e m1 ma n1 nb sums =
    let one = ap (λ z. z.1) (head_same x y (xs ++ a ∷ xs') (ys ++ b ∷ ys') e) in
    let sum_x : total (x ∷ xs) ≡ x.1 + total xs = refl in
    let sum_y : total (y ∷ ys) ≡ y.1 + total ys = refl in
    same_line xs ys xs' ys' a b m n (tail_same x y (xs ++ a ∷ xs') (ys ++ b ∷ ys') e) m1 ma n1 nb (omega arith)

one_line : (es : List Entry) (line : ℕ) (a b : Entry) (m n : ℕ) → IsLine es line a m → IsLine es line b n → (a ≡ b)
    × (m ≡ n)
one_line es line a b m n one two =
    same_line one.before two.before one.after two.after a b m n (sym one.parts ∙ two.parts) one.first one.last two.first
    two.last (sym one.line_is ∙ two.line_is)

-- ---- where a byte stands in the whole

lead_lines : (before : List Source) → total (map entry_of before) ≡ newlines (lead (texts_of before))
lead_lines [] = refl
lead_lines (s ∷ before) =
    ap (λ n. lines_of s.text.items + n) (lead_lines before) ∙ ap (λ n. n + newlines (lead (texts_of before)))
    (sym (newlines_push s.text.items))
    ∙ sym (newlines_append (s.text.items ++ 10 ∷ []) (lead (texts_of before)))

-- the place of a byte, and what is known of it
record AtByte (es : List Entry) (place : Place) (source : Source) (front : Text) : Type 0 where
  line : IsLine es place.line (entry_of source) (newlines front + 1)
  low : newlines front + 1 ≤ 4294967295

at_byte : (es : List Entry) (place : Place) (before after : List Source) (source : Source) (front rest : Text)
    → es ≡ map entry_of (before ++ source ∷ after) → source.text.items ≡ front ++ rest
    → lines_of (lead (texts_of before) ++ front) ≤ 4294967295
    → place ≡ place_after (lead (texts_of before) ++ front) → AtByte es place source front
at_byte es place before after source front rest es_is text low placed =
    let sum = newlines_append (lead (texts_of before)) front in
    let lines = lead_lines before in
    let own = ap newlines text ∙ newlines_append front rest in
    let line_is : place.line ≡ capped (newlines (lead (texts_of before) ++ front) + 1) = ap (λ p. p.line) placed in
    record {
      line =
          record {
            before = map entry_of before;
            after = map entry_of after;
            parts = es_is ∙ map-append entry_of before (source ∷ after);
            first = omega arith;
            last = omega arith;
            line_is = omega arith;
          };
      low = omega arith;
    }

pub tells : (es : List Entry) (place : Place) (found : InSource) → IsTold es place found
    → TellsOfBytes es place (Some found)
tells es place found told =
    λ before source after front rest es_is text low placed.
    let byte = at_byte es place before after source front rest es_is text low placed in
    let one = one_line es place.line told.entry (entry_of source) found.place.line (newlines front + 1) told.line
    byte.line in
    let low_line = byte.low in
    let own_line = one.1 in
    let line : found.place.line ≡ capped (newlines front + 1) = omega arith in
    let column : found.place.column ≡ capped (suffix_len (λ b. not (eqb b 10)) front + 1) =
    told.column ∙ ap (λ p. p.column) placed ∙ ap (λ n. capped (n + 1)) (column_behind (texts_of before) front) in
    (found, refl, told.name ∙ ap (λ e. e.0) one.0, at_same found.place.line _ found.place.column _ line column)

pub tells_none : (es : List Entry) (place : Place) → HasNoLine es place.line → TellsOfBytes es place None
tells_none es place no_line =
    λ before source after front rest es_is text low placed.
    let byte = at_byte es place before after source front rest es_is text low placed in
    absurd (no_line (entry_of source) (newlines front + 1) byte.line)

-- ---- the table

table_suc : (parts : List Part) (i first : ℕ) (p : Part) → i < length parts → p ≡ get_or parts i p
    → table first (entries (drop i parts)) ≡ row_text first (first + p.lines - 1) (string_bytes p.name)
    ++ table (first + p.lines) (entries (drop (suc i) parts))
table_suc [] i first p below is = absurd (omega arith)
table_suc (q ∷ parts) zero first p below is = ap (λ x. row_text first (first + x.lines - 1) (string_bytes x.name)
    ++ table (first + x.lines) (entries parts)) (sym is)
table_suc (q ∷ parts) (suc i) first p below is = table_suc parts i first p (omega arith) is

pub table_more : (parts : List Part) (i first : ℕ) (p : Part) → i < length parts → p ≡ get_or parts i p
    → table first (entries (drop i parts)) ≡ row_text first (first + p.lines - 1) (string_bytes p.name)
    ++ table (first + p.lines) (entries (drop (i + 1) parts))
table_more parts i first p below is = rw add-one (table_suc parts i first p below is)

pub rows_step : (parts : List Part) (i first next last : ℕ) (p : Part) (text line new : Text) → i < length parts
    → p ≡ get_or parts i p → 1 + total (entries parts) < 18446744073709551616
    → (text ++ table first (entries (drop i parts)) ≡ table 1 (entries parts))
    × (first ≡ 1 + total (entries (take i parts))) → next ≡ min (first + p.lines) 18446744073709551615
    → last ≡ next - 1 → line ≡ row_text first last (string_bytes p.name)
    → new ≡ text ++ line → (new ++ table next (entries (drop (i + 1) parts)) ≡ table 1 (entries parts))
    × (next ≡ 1 + total (entries (take (i + 1) parts)))
rows_step parts i first next last p text line new below is small so_far next_is last_is line_is new_is =
    let sum = ap total (entries_split parts i p below is) ∙ total_append (entries (take i parts))
    (entry p ∷ entries (drop (suc i) parts)) in
    let one : total (entry p ∷ entries (drop (suc i) parts)) ≡ p.lines + total (entries (drop (suc i) parts)) = refl in
    let first_is = so_far.1 in
    let exact : next ≡ first + p.lines = omega arith in
    let own : last ≡ first + p.lines - 1 = omega arith in
    let more = total_more parts i p below is in
    let behind : Text = table (first + p.lines) (entries (drop (i + 1) parts)) in (
      ap (λ w. w ++ table next (entries (drop (i + 1) parts))) new_is
          ∙ ap (λ n. (text ++ line) ++ table n (entries (drop (i + 1) parts))) exact ∙ append_assoc text line behind
          ∙ ap (λ w. text ++ (w ++ behind)) line_is
          ∙ ap (λ n. text ++ (row_text first n (string_bytes p.name) ++ behind)) own ∙ ap (λ w. text ++ w)
          (sym (table_more parts i first p below is)) ∙ so_far.0,
      omega arith,
    )

pub tells_of : (es : List Entry) (place : Place) (result : Option InSource)
    → IfSome result (λ found. IsTold es place found) → (result ≡ None → HasNoLine es place.line)
    → TellsOfBytes es place result
tells_of es place None told none = tells_none es place (none refl)
tells_of es place (Some found) told none = tells es place found told

pub entry_pushed : (sources : List Source) (i : ℕ) (s : Source) (old new : List Part) (part : Part) → i < length sources
    → s ≡ get_or sources i s → entries old ≡ map entry_of (take i sources)
    → string_bytes part.name ≡ quoted (string_bytes s.name)
    → part.lines ≡ lines_of s.text.items → new ≡ old ++ part ∷ [] → entries new ≡ map entry_of (take (i + 1) sources)
entry_pushed sources i s old new part below is so_far name_is lines_is new_is =
    ap entries new_is ∙ map-append entry old (part ∷ []) ∙ ap (λ es. es ++ entry part ∷ []) so_far
    ∙ ap (λ w. map entry_of (take i sources) ++ (w, part.lines) ∷ []) name_is ∙ ap (λ n. map entry_of (take i sources)
    ++ (quoted (string_bytes s.name), n) ∷ []) lines_is
    ∙ ap (λ x. map entry_of (take i sources) ++ entry_of x ∷ []) is
    ∙ sym (map-append entry_of (take i sources) (get_or sources i s ∷ []))
    ∙ sym (ap (map entry_of) (take_more sources i s below))
