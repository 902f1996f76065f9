-- Walks from the first place to the last one.
use Rattle.std.proofs.Common.{◌≡◌, ◌≢◌, ◌∙◌, ◌<◌, ◌≤◌, ◌+◌, ◌*◌, ◌/◌, ◌%◌, ◌^◌, ℕ, zero, suc, Bool, true, false, ◌&&◌}
use Rattle.std.proofs.Common.{◌||◌, List, [], ◌∷◌, ◌++◌, length, map, cond, sym, ap, refl, arith, take, get_or, set}
use Rattle.std.proofs.Common.{inl, inr, bit_or, replicate, subst, append-nil, get_or-take}
use Rattle.std.proofs.lemmas.Bool.{cases_lt}
use Rattle.std.proofs.lemmas.List.{take-map, get_or_past, length-map, length-take, take-replicate, length-replicate}
use Rattle.box_policy.specs.declared.tokens.Sort.{Sort}
use Rattle.box_policy.specs.declared.tokens.Sort.TheVariants.{Component}
use Rattle.box_policy.specs.declared.table.Block.{Block}
use Rattle.box_policy.specs.declared.tokens.Token.{Token}
use Rattle.box_policy.specs.declared.tokens.Token.TheVariants.{Open, Byte, Close}
use Rattle.box_policy.specs.Division.{Symbol, fits}
use Rattle.box_policy.specs.Blocks.{is_set, has, leads, loops, stepped}
use Rattle.box_policy.specs.Cells.{Cell, row, never, row_fits, reach, ones, loop_at, test_at, is_at, IsNested}
use Rattle.box_policy.specs.Paths.{names}
use Rattle.box_policy.specs.Patterns.{symbols, component_symbol}
use Rattle.box_policy.specs.Symbols.{class_of, is_read}
use Rattle.box_policy.specs.Tables.{IsTable, Holds}
use Rattle.box_policy.specs.Tokens.{on_bytes, lifted, flat, stream}
use Rattle.box_policy.proofs.BlocksLemmas.{is_set-zero, is_set-pow}
use Rattle.box_policy.proofs.CellsLemmas.{row-fits, length-row, reach-start, reach-end, is_at-other}
use Rattle.box_policy.proofs.ElementsLemmas.{nested-symbols, nested-flat}
use Rattle.box_policy.proofs.FlatLemmas.{fits-lifted, fits-flat}
use Rattle.box_policy.proofs.TablesLemmas.{walk_more}

-- one component more
pub walk_opened : (blocks : List Block) (symbols : List (Symbol Token)) (name : List ℕ) (rest : List Token)
    (old opened walked new : List ℕ)
    → IsTable Component blocks symbols → ones symbols < 64 * length old → length opened ≡ length old
    → length walked ≡ length opened
    → ((k : ℕ) → k < 64 * length old → has opened k ≡ stepped old (map (leads Open false) blocks)
    (map (loops false) blocks) k)
    → reach (has walked) (row never symbols) (Close ∷ rest) ≡ reach (has opened) (row never symbols)
    (map Byte name ++ (Close ∷ rest))
    → ((k : ℕ) → k < 64 * length walked → has new k ≡ stepped walked (map (leads Close false) blocks)
    (map (loops false) blocks) k)
    → reach (has new) (row never symbols) rest ≡ reach (has old) (row never symbols)
    (Open ∷ (map Byte name ++ (Close ∷ rest)))
walk_opened blocks symbols name rest old opened walked new table room lo lw opens inner closes =
    walk_more Component blocks symbols Close rest walked new table refl (omega arith) closes
    ∙ (inner ∙ walk_more Component blocks symbols Open (map Byte name ++ (Close ∷ rest)) old opened table refl room
    opens)

pub walk_name_more : (symbols : List (Symbol Token)) (name : List ℕ) (names subject : List (List ℕ)) (old new : List ℕ)
    (whole : Bool) → subject ≡ name ∷ names
    → reach (has new) (row never symbols) (stream names) ≡ reach (has old) (row never symbols)
    (Open ∷ (map Byte name ++ (Close ∷ stream names)))
    → reach (has old) (row never symbols) (stream subject) ≡ whole → reach (has new) (row never symbols) (stream names)
    ≡ whole
walk_name_more symbols name names subject old new whole front step before =
    step ∙ (ap (λ left. reach (has old) (row never symbols) (stream left)) (sym front) ∙ before)

abbrev zeros : ℕ → List ℕ
zeros n = replicate n 0

zero_at : (n i : ℕ) → ◌≡◌ {A = ℕ} (get_or (zeros n) i 0) 0
zero_at zero i = refl
zero_at (suc n) zero = refl
zero_at (suc n) (suc i) = zero_at n i

-- the first place and no other
first_reached : (n : ℕ) → 0 < n → (has (set (replicate n 0) 0 1) 0 ≡ true)
    × ((k : ℕ) → has (set (replicate n 0) 0 1) (suc k) ≡ false)
first_reached zero h = absurd (omega arith)
first_reached (suc n) h = (refl, λ k. of_word (suc k) (suc k / 64) (λ e. absurd (omega arith)) refl)
  where
    of_word : (k i : ℕ) → k ≢ 0 → k / 64 ≡ i → is_set (get_or (1 ∷ replicate n 0) i 0) (k % 64) ≡ false
    of_word k zero other e = is_set-pow 0 (k % 64) ∙ is_at-other (k % 64) 0 (λ f. other (omega arith))
    of_word k (suc i) other e = ap (λ w. is_set w (k % 64)) (zero_at n i) ∙ is_set-zero (k % 64)

pub zeros_taken : (used n : ℕ) → used ≤ n → take used (zeros n) ≡ zeros (length (take used (zeros n)))
zeros_taken used n h =
    let front : take used (zeros n) ≡ zeros used = take-replicate used n 0 h in
    front ∙ ap zeros (sym (ap length front ∙ length-replicate used 0))

pub leads_last : (symbols : List (Symbol Token)) (last : ℕ) (old start new : List ℕ) (subject : List Token)
    (result : Bool)
    → result ≡ has new last → ones symbols ≡ last → start ≡ set old 0 1 → old ≡ replicate (length old) 0
    → 0 < length old
    → reach (has new) (row never symbols) [] ≡ reach (has start) (row never symbols) subject
    → result ≡ row_fits (row never symbols) subject
leads_last symbols last old start new subject result is_last count is_start blank some walk =
    let first = first_reached (length old) some in
    let started : start ≡ set (replicate (length old) 0) 0 1 = is_start ∙ ap (λ words. set words 0 1) blank in
    is_last
    ∙ (sym (reach-end (row never symbols) last (has new) (length-row never symbols ∙ ap suc count))
    ∙ (walk
    ∙ (ap (λ words. reach (has words) (row never symbols) subject) started
    ∙ reach-start (row never symbols) (has (set (replicate (length old) 0) 0 1)) subject first.0 first.1)))

pub leads_text : (symbols : List (Symbol Token)) (last : ℕ) (old start new : List ℕ) (text : List ℕ) (result : Bool)
    → result ≡ has new last → ones symbols ≡ last → start ≡ set old 0 1 → old ≡ replicate (length old) 0
    → 0 < length old
    → reach (has new) (row never symbols) [] ≡ reach (has start) (row never symbols) (map Byte text ++ [])
    → result ≡ row_fits (row never symbols) (map Byte text)
leads_text symbols last old start new text result is_last count is_start blank some walk =
    leads_last symbols last old start new (map Byte text) result is_last count is_start blank some
    (walk ∙ ap (λ tokens. reach (has start) (row never symbols) tokens) (append-nil (map Byte text)))

-- ---- the table of a whole pattern

past_loop : (cs : List (Cell Token)) (k : ℕ) (token : Token) → length cs ≤ k → loop_at cs k token ≡ false
past_loop [] k token h = refl
past_loop (c ∷ cs) zero token h = absurd (omega arith)
past_loop (c ∷ cs) (suc k) token h = past_loop cs k token (omega arith)

past_test : (cs : List (Cell Token)) (k : ℕ) (token : Token) → length cs ≤ k → test_at cs k token ≡ false
past_test [] k token h = refl
past_test (c ∷ cs) zero token h = absurd (omega arith)
past_test (c ∷ cs) (suc k) token h = past_test cs k token (omega arith)

has_taken : (f : Block → ℕ) (blocks : List Block) (n k : ℕ) (expected : Bool) → has (map f blocks) k ≡ expected
    → (n ≤ k / 64 → expected ≡ false) → has (map f (take n blocks)) k ≡ expected
has_taken f blocks n k expected whole past =
    ap (λ words. has words k) (sym (take-map f n blocks))
    ∙ elim (cases_lt (k / 64) n) [
      | inl inside ↦ ap (λ w. is_set w (k % 64)) (get_or-take n (map f blocks) (k / 64) 0 inside) ∙ whole
      | inr from ↦
          ap (λ w. is_set w (k % 64)) (get_or_past (take n (map f blocks)) (k / 64) 0
          (omega (arith, length-take n (map f blocks), from)))
          ∙ (is_set-zero (k % 64) ∙ sym (past from))
    ]

-- the blocks behind the last place are not wanted
table_taken : (sort : Sort) (blocks : List Block) (symbols : List (Symbol Token)) (n : ℕ) → ones symbols < 64 * n
    → IsTable sort blocks symbols → IsTable sort (take n blocks) symbols
table_taken sort blocks symbols n room table = record {
  leading = λ k token read.
      has_taken (leads token (on_bytes (class_of sort) token)) blocks n k _ (table.leading k token read)
      (λ from. past_test (row never symbols) k token (omega (arith, length-row never symbols, room, from)));
  looping = λ k token read.
      has_taken (loops (on_bytes (class_of sort) token)) blocks n k _ (table.looping k token read)
      (λ from. past_loop (row never symbols) k token (omega (arith, length-row never symbols, room, from)));
}

abbrev pub empty : Block
empty = record { bytes = replicate 256 0; opens = 0; closes = 0; any = 0; narrow = 0; wide = 0 }

pub length_blank : (n : ℕ) → length (replicate n empty) ≡ n
length_blank n = length-replicate n empty

has_blank : (f : Block → ℕ) (n k : ℕ) → f empty ≡ 0 → has (map f (replicate n empty)) k ≡ false
has_blank f n k h = ap (λ w. is_set w (k % 64)) (word_blank n (k / 64)) ∙ is_set-zero (k % 64)
  where
    word_blank : (n i : ℕ) → get_or (map f (replicate n empty)) i 0 ≡ 0
    word_blank zero i = refl
    word_blank (suc n) zero = h
    word_blank (suc n) (suc i) = word_blank n i

leads_none : (token : Token) (in_class : Bool) → leads token in_class empty ≡ 0
leads_none Open in_class = refl
leads_none Close in_class = refl
leads_none (Byte b) true = ap (λ w. bit_or w 0) (zero_at 256 b)
leads_none (Byte b) false = ap (λ w. bit_or w 0) (zero_at 256 b)

loops_none : (in_class : Bool) → loops in_class empty ≡ 0
loops_none true = refl
loops_none false = refl

blank_at : (k : ℕ) (token : Token) → (test_at (row never []) k token ≡ false) × (loop_at (row never []) k token ≡ false)
blank_at zero token = (refl, refl)
blank_at (suc k) token = (refl, refl)

pub table_blank : (sort : Sort) (n : ℕ) (whole : List (Symbol Token)) → Holds sort (replicate n empty) 0 whole whole
table_blank sort n whole = record {
  front = [];
  split = refl;
  count = refl;
  table = record {
    leading = λ k token read. has_blank (leads token (on_bytes (class_of sort) token)) n k
        (leads_none token (on_bytes (class_of sort) token)) ∙ sym (blank_at k token).0;
    looping = λ k token read. has_blank (loops (on_bytes (class_of sort) token)) n k
        (loops_none (on_bytes (class_of sort) token)) ∙ sym (blank_at k token).1;
  };
}

-- the whole pattern is in the table
whole_table : (sort : Sort) (blocks : List Block) (last : ℕ) (whole : List (Symbol Token))
    → Holds sort blocks last [] whole → IsTable sort blocks whole × (ones whole ≡ last)
whole_table sort blocks last whole h =
    let front : h.front ≡ whole = sym (append-nil h.front) ∙ h.split in (
      subst (λ ss. IsTable sort blocks ss) front h.table,
      ap ones (sym front) ∙ h.count,
    )

-- a text's pattern was put into a blank table, and its walk tells whether it fits
pub text_found : (sort : Sort) (pattern text : List ℕ) (n used last : ℕ) (blocks : List Block) (result : Bool)
    → ((rest whole : List (Symbol Token)) → Holds sort (replicate n empty) 0 (map lifted (symbols sort pattern) ++ rest)
    whole → Holds sort blocks last rest whole)
    → last < 64 * used
    → ((ss : List (Symbol Token)) → IsTable sort (take used blocks) ss → ones ss ≡ last
    → result ≡ row_fits (row never ss) (map Byte text))
    → result ≡ fits (symbols sort pattern) text
text_found sort pattern text n used last blocks result put room walk =
    let ss = map lifted (symbols sort pattern) in
    let start : Holds sort (replicate n empty) 0 (ss ++ []) ss =
    subst (λ left. Holds sort (replicate n empty) 0 left ss) (sym (append-nil ss)) (table_blank sort n ss) in
    let table = whole_table sort blocks last ss (put [] ss start) in
    walk ss (table_taken sort blocks ss used (omega (arith, room, table.1)) table.0) table.1
    ∙ (row-fits ss (nested-symbols sort pattern) (map Byte text) ∙ fits-lifted (symbols sort pattern) text)

-- the same of a path's
pub names_found : (pieces subject : List (List ℕ)) (n used last : ℕ) (blocks : List Block) (result : Bool)
    → ((rest whole : List (Symbol Token)) → Holds Component (replicate n empty) 0 (flat pieces ++ rest) whole
    → Holds Component blocks last rest whole)
    → last < 64 * used
    → ((ss : List (Symbol Token)) → IsTable Component (take used blocks) ss → ones ss ≡ last
    → result ≡ row_fits (row never ss) (stream subject))
    → result ≡ fits (map component_symbol pieces) subject
names_found pieces subject n used last blocks result put room walk =
    let ss = flat pieces in
    let start : Holds Component (replicate n empty) 0 (ss ++ []) ss =
    subst (λ left. Holds Component (replicate n empty) 0 left ss) (sym (append-nil ss)) (table_blank Component n ss)
    in
    let table = whole_table Component blocks last ss (put [] ss start) in
    walk ss (table_taken Component blocks ss used (omega (arith, room, table.1)) table.0) table.1
    ∙ (row-fits ss (nested-flat pieces) (stream subject) ∙ fits-flat pieces subject)
