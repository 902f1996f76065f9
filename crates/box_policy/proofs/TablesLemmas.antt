-- Tables of patterns, and the places that are reached.
use Rattle.std.proofs.Common.{◌≡◌, ◌≢◌, ◌∙◌, ◌<◌, ◌≤◌, ◌+◌, ◌-◌, ◌*◌, ◌/◌, ◌%◌, ◌^◌, ℕ, zero, suc, Bool, true, false}
use Rattle.std.proofs.Common.{◌&&◌, ◌||◌, not, List, [], ◌∷◌, ◌++◌, length, map, cond, sym, ap, refl, arith, take, drop}
use Rattle.std.proofs.Common.{get_or, set, inl, inr, bit_and, bit_or, replicate, get_or-set_same, get_or-set_other}
use Rattle.std.proofs.Common.{subst, append_assoc, append-nil, length-set, ◌⊎◌}
use Rattle.std.specs.Prelude.{◌==◌}
use Rattle.std.specs.Int.{bit_at}
use Rattle.std.specs.List.{list_all}
use Rattle.std.proofs.lemmas.Bool.{true≢false, false≢true, cases_eq, cases_lt, eq-eqb, ne_eqb, eqb-true, and_parts}
use Rattle.std.proofs.lemmas.List.{map-set, get_or-map, get_or_past, length-map, drop_more}
use Rattle.std.proofs.lemmas.Nat.Bits.{bit_at_lowest, bit_at-suc, bit_at_above, bit_at_cat_low}
use Rattle.box_policy.specs.declared.tokens.Sort.{Sort}
use Rattle.box_policy.specs.declared.tokens.Sort.TheVariants.{Component, Command, Name}
use Rattle.box_policy.specs.declared.table.Block.{Block}
use Rattle.box_policy.specs.declared.tokens.Token.{Token}
use Rattle.box_policy.specs.declared.tokens.Token.TheVariants.{Open, Byte, Close}
use Rattle.box_policy.specs.declared.tokens.Element.{Element}
use Rattle.box_policy.specs.declared.tokens.Element.TheVariants.{One, Any, Run, All}
use Rattle.box_policy.specs.Division.{Symbol, fits}
use Rattle.box_policy.specs.Blocks.{is_set, has, leads, loops, Adds, came_to, stepped}
use Rattle.box_policy.specs.Cells.{row, never, reach, came, ones, loop_at, test_at, is_at, IsNested}
use Rattle.box_policy.specs.Symbols.{class_of, is_read, symbol_of}
use Rattle.box_policy.specs.Tables.{IsTable, Holds}
use Rattle.box_policy.specs.Tokens.{on_bytes, is_token}
use Rattle.box_policy.proofs.BlocksLemmas.{is_set-or, is_set-and, is_set-zero, has-set_same, has-set_other, has-put}
use Rattle.box_policy.proofs.CellsLemmas.{row-fits, length-row, ones-push, loop_at-push, test_at-push, reach-step}
use Rattle.box_policy.proofs.CellsLemmas.{reach-none, reach-start, reach-end}

-- ---- one element more in a block

same_or : (b : Bool) → b ≡ (b || false)
same_or true = refl
same_or false = refl

added : (a m e : Bool) → ((a || m) || e) ≡ ((a || e) || m)
added a m e = grind arith

added_last : (a n m : Bool) → (a || (n || m)) ≡ ((a || n) || m)
added_last a n m = grind arith

-- one block with another word at a byte
abbrev with_byte : Block → ℕ → ℕ → Block
with_byte old b v = record {
  bytes = set old.bytes b v;
  opens = old.opens;
  closes = old.closes;
  any = old.any;
  narrow =
      old.narrow;
  wide = old.wide;
}

lead_byte : (b mark : ℕ) (old : Block) → b < length old.bytes → (token : Token) (in_class : Bool) (j : ℕ)
    → is_set (leads token in_class (with_byte old b (bit_or (get_or old.bytes b 0) mark))) j
    ≡ (is_set (leads token in_class old) j || (is_token (Byte b) token && is_set mark j))
lead_byte b mark old l Open in_class j = same_or (is_set old.opens j)
lead_byte b mark old l Close in_class j = same_or (is_set old.closes j)
lead_byte b mark old l (Byte c) in_class j = of_byte (cond in_class old.any 0) (cases_eq c b)
  where
    here : (extra : ℕ) → is_set (bit_or (get_or (set old.bytes b (bit_or (get_or old.bytes b 0) mark)) b 0) extra) j
        ≡ (is_set (bit_or (get_or old.bytes b 0) extra) j || ((b == b) && is_set mark j))
    here extra =
        ap (λ w. is_set (bit_or w extra) j) (get_or-set_same old.bytes b (bit_or (get_or old.bytes b 0) mark) 0 l)
        ∙ (is_set-or (bit_or (get_or old.bytes b 0) mark) extra j
        ∙ (ap (λ x. x || is_set extra j) (is_set-or (get_or old.bytes b 0) mark j)
        ∙ (added (is_set (get_or old.bytes b 0) j) (is_set mark j) (is_set extra j)
        ∙ (ap (λ x. x || is_set mark j) (sym (is_set-or (get_or old.bytes b 0) extra j))
        ∙ ap (λ t. is_set (bit_or (get_or old.bytes b 0) extra) j || (t && is_set mark j)) (sym (eq-eqb b b refl))))))

    of_byte : (extra : ℕ) → (c ≡ b) ⊎ (c ≢ b)
        → is_set (bit_or (get_or (set old.bytes b (bit_or (get_or old.bytes b 0) mark)) c 0) extra) j
        ≡ (is_set (bit_or (get_or old.bytes c 0) extra) j || ((c == b) && is_set mark j))
    of_byte extra (inl same) =
        subst (λ d. is_set (bit_or (get_or (set old.bytes b (bit_or (get_or old.bytes b 0) mark)) d 0) extra) j
        ≡ (is_set (bit_or (get_or old.bytes d 0) extra) j || ((d == b) && is_set mark j)))
        (sym same) (here extra)
    of_byte extra (inr other) =
        ap (λ w. is_set (bit_or w extra) j) (get_or-set_other old.bytes b c (bit_or (get_or old.bytes b 0) mark) 0
        other)
        ∙ (same_or (is_set (bit_or (get_or old.bytes c 0) extra) j)
        ∙ ap (λ t. is_set (bit_or (get_or old.bytes c 0) extra) j || (t && is_set mark j)) (sym (ne_eqb c b other)))

pub adds_byte : (element : Element) (mark b : ℕ) (old : Block) → element ≡ One (Byte b) → b < length old.bytes
    → Adds element mark old (with_byte old b (bit_or (get_or old.bytes b 0) mark))
adds_byte element mark b old e l =
    subst (λ f. Adds f mark old (with_byte old b (bit_or (get_or old.bytes b 0) mark))) (sym e) (record {
      leading = λ sort token j read. lead_byte b mark old l token (on_bytes (class_of sort) token) j;
      looping = λ sort token j read. same_or (is_set (loops (on_bytes (class_of sort) token) old) j);
    })

abbrev with_others : Block → ℕ → ℕ → ℕ → ℕ → ℕ → Block
with_others old opens closes any narrow wide = record {
  bytes = old.bytes;
  opens = opens;
  closes = closes;
  any = any;
  narrow = narrow;
  wide = wide;
}

pub adds_open : (element : Element) (mark : ℕ) (old : Block) → element ≡ One Open
    → Adds element mark old (with_others old (bit_or old.opens mark) old.closes old.any old.narrow old.wide)
adds_open element mark old e =
    subst (λ f. Adds f mark old (with_others old (bit_or old.opens mark) old.closes old.any old.narrow old.wide))
    (sym e) (record {
      leading = λ sort token j read. lead token (on_bytes (class_of sort) token) j;
      looping = λ sort token j read. same_or (is_set (loops (on_bytes (class_of sort) token) old) j);
    })
  where
    lead : (token : Token) (in_class : Bool) (j : ℕ)
        → is_set (leads token in_class (with_others old (bit_or old.opens mark) old.closes old.any old.narrow old.wide))
        j ≡ (is_set (leads token in_class old) j || (is_token Open token && is_set mark j))
    lead Open in_class j = is_set-or old.opens mark j
    lead (Byte c) in_class j = same_or _
    lead Close in_class j = same_or _

pub adds_close : (element : Element) (mark : ℕ) (old : Block) → element ≡ One Close
    → Adds element mark old (with_others old old.opens (bit_or old.closes mark) old.any old.narrow old.wide)
adds_close element mark old e =
    subst (λ f. Adds f mark old (with_others old old.opens (bit_or old.closes mark) old.any old.narrow old.wide))
    (sym e) (record {
      leading = λ sort token j read. lead token (on_bytes (class_of sort) token) j;
      looping = λ sort token j read. same_or (is_set (loops (on_bytes (class_of sort) token) old) j);
    })
  where
    lead : (token : Token) (in_class : Bool) (j : ℕ)
        → is_set (leads token in_class (with_others old old.opens (bit_or old.closes mark) old.any old.narrow old.wide))
        j ≡ (is_set (leads token in_class old) j || (is_token Close token && is_set mark j))
    lead Open in_class j = same_or _
    lead (Byte c) in_class j = same_or _
    lead Close in_class j = is_set-or old.closes mark j

-- a word beside one that counts in the class alone
class_word : (in_class : Bool) (word more mark j : ℕ) → is_set (bit_or word (cond in_class (bit_or more mark) 0)) j
    ≡ (is_set (bit_or word (cond in_class more 0)) j || (in_class && is_set mark j))
class_word true word more mark j =
    is_set-or word (bit_or more mark) j
    ∙ (ap (λ x. is_set word j || x) (is_set-or more mark j)
    ∙ (added_last (is_set word j) (is_set more j) (is_set mark j) ∙ ap (λ x. x || is_set mark j)
    (sym (is_set-or word more j))))
class_word false word more mark j = same_or _

pub adds_any : (element : Element) (mark : ℕ) (old : Block) → element ≡ Any
    → Adds element mark old (with_others old old.opens old.closes (bit_or old.any mark) old.narrow old.wide)
adds_any element mark old e =
    subst (λ f. Adds f mark old (with_others old old.opens old.closes (bit_or old.any mark) old.narrow old.wide))
    (sym e) (record {
      leading = λ sort token j read. lead (class_of sort) token j;
      looping = λ sort token j read. same_or (is_set (loops (on_bytes (class_of sort) token) old) j);
    })
  where
    lead : (test : ℕ → Bool) (token : Token) (j : ℕ)
        → is_set (leads token (on_bytes test token) (with_others old old.opens old.closes (bit_or old.any mark)
        old.narrow old.wide)) j
        ≡ (is_set (leads token (on_bytes test token) old) j || (on_bytes test token && is_set mark j))
    lead test Open j = same_or _
    lead test (Byte c) j = class_word (test c) (get_or old.bytes c 0) old.any mark j
    lead test Close j = same_or _

pub adds_run : (element : Element) (mark : ℕ) (old : Block) → element ≡ Run
    → Adds element mark old (with_others old old.opens old.closes old.any (bit_or old.narrow mark) old.wide)
adds_run element mark old e =
    subst (λ f. Adds f mark old (with_others old old.opens old.closes old.any (bit_or old.narrow mark) old.wide))
    (sym e) (record {
      leading = λ sort token j read. lead token (on_bytes (class_of sort) token) j;
      looping = λ sort token j read. class_word (on_bytes (class_of sort) token) old.wide old.narrow mark j;
    })
  where
    lead : (token : Token) (in_class : Bool) (j : ℕ)
        → is_set (leads token in_class (with_others old old.opens old.closes old.any (bit_or old.narrow mark) old.wide))
        j ≡ (is_set (leads token in_class old) j || false)
    lead Open in_class j = same_or _
    lead (Byte c) in_class j = same_or _
    lead Close in_class j = same_or _

pub adds_all : (element : Element) (mark : ℕ) (old : Block) → element ≡ All
    → Adds element mark old (with_others old old.opens old.closes old.any old.narrow (bit_or old.wide mark))
adds_all element mark old e =
    subst (λ f. Adds f mark old (with_others old old.opens old.closes old.any old.narrow (bit_or old.wide mark)))
    (sym e) (record {
      leading = λ sort token j read. lead token (on_bytes (class_of sort) token) j;
      looping = λ sort token j read. loop (on_bytes (class_of sort) token) (is_read sort token) j read;
    })
  where
    lead : (token : Token) (in_class : Bool) (j : ℕ)
        → is_set (leads token in_class (with_others old old.opens old.closes old.any old.narrow (bit_or old.wide mark)))
        j ≡ (is_set (leads token in_class old) j || false)
    lead Open in_class j = same_or _
    lead (Byte c) in_class j = same_or _
    lead Close in_class j = same_or _

    loop : (in_class read : Bool) (j : ℕ) → read ≡ true
        → is_set (bit_or (bit_or old.wide mark) (cond in_class old.narrow 0)) j
        ≡ (is_set (bit_or old.wide (cond in_class old.narrow 0)) j || (read && is_set mark j))
    loop in_class read j h =
        is_set-or (bit_or old.wide mark) (cond in_class old.narrow 0) j
        ∙ (ap (λ x. x || is_set (cond in_class old.narrow 0) j) (is_set-or old.wide mark j)
        ∙ (added (is_set old.wide j) (is_set mark j) (is_set (cond in_class old.narrow 0) j)
        ∙ (ap (λ x. x || is_set mark j) (sym (is_set-or old.wide (cond in_class old.narrow 0) j))
        ∙ ap (λ r. is_set (bit_or old.wide (cond in_class old.narrow 0)) j || (r && is_set mark j)) (sym h))))

-- ---- one element more in a table

shuffled : (here is_kind test : Bool) → (here && (is_kind && test)) ≡ (is_kind && (here && test))
shuffled here is_kind test = grind arith

-- the words of one kind, where one block has one element more
put_words : (f : Block → ℕ) (blocks : List Block) (d new : Block) (at mark : ℕ) (is_kind test : Bool)
    → at / 64 < length blocks → mark ≡ 2 ^ (at % 64)
    → ((j : ℕ) → is_set (f new) j ≡ (is_set (f (get_or blocks (at / 64) d)) j || ((is_kind && test) && is_set mark j)))
    → (k : ℕ) → has (map f (set blocks (at / 64) new)) k ≡ (has (map f blocks) k || (is_kind && (is_at k at && test)))
put_words f blocks d new at mark is_kind test l is_mark each k =
    ap (λ words. has words k) (map-set f blocks (at / 64) new)
    ∙ (has-put (map f blocks) at (f new) (is_kind && test) (omega (arith, length-map blocks f))
    (λ j. each j ∙ (ap (λ w. is_set w j || ((is_kind && test) && is_set mark j))
    (sym (get_or-map f blocks (at / 64) d 0 l)) ∙ ap (λ m. is_set (get_or (map f blocks) (at / 64) 0) j
    || ((is_kind && test) && is_set m j)) is_mark)) k
    ∙ ap (λ t. has (map f blocks) k || t) (shuffled (is_at k at) is_kind test))

pub table_push : (sort : Sort) (blocks : List Block) (element : Element) (d new : Block) (at mark : ℕ)
    (front : List (Symbol Token))
    → at / 64 < length blocks → mark ≡ 2 ^ (at % 64) → ones front ≡ at
    → Adds element mark (get_or blocks (at / 64) d) new → IsTable sort blocks front
    → IsTable sort (set blocks (at / 64) new) (front ++ (symbol_of sort element ∷ []))
table_push sort blocks element d new at mark front l is_mark count adds table = record {
  leading = λ k token read.
      put_words (leads token (on_bytes (class_of sort) token)) blocks d new at mark
      (not (symbol_of sort element).is_run) ((symbol_of sort element).test token) l is_mark
      (λ j. adds.leading sort token j read) k
      ∙ (ap (λ b. b || (not (symbol_of sort element).is_run && (is_at k at && (symbol_of sort element).test token)))
      (table.leading k token read)
      ∙ (ap (λ n. test_at (row never front) k token || (not (symbol_of sort element).is_run
      && (is_at k n && (symbol_of sort element).test token))) (sym count)
      ∙ sym (test_at-push (symbol_of sort element) front k token)));
  looping = λ k token read.
      put_words (loops (on_bytes (class_of sort) token)) blocks d new at mark (symbol_of sort element).is_run
      ((symbol_of sort element).test token) l is_mark (λ j. adds.looping sort token j read) k
      ∙ (ap (λ b. b || ((symbol_of sort element).is_run && (is_at k at && (symbol_of sort element).test token)))
      (table.looping k token read)
      ∙ (ap (λ n. loop_at (row never front) k token || ((symbol_of sort element).is_run
      && (is_at k n && (symbol_of sort element).test token))) (sym count)
      ∙ sym (loop_at-push (symbol_of sort element) front k token)));
}

pub holds_put : (sort : Sort) (blocks : List Block) (element : Element) (d new : Block) (at mark behind : ℕ)
    (is_run : Bool) (rest whole : List (Symbol Token))
    → at < 64 * length blocks → mark ≡ 2 ^ (at % 64) → Adds element mark (get_or blocks (at / 64) d) new
    → (symbol_of sort element).is_run ≡ is_run → behind ≡ cond is_run at (at + 1)
    → Holds sort blocks at (symbol_of sort element ∷ rest) whole
    → Holds sort (set blocks (at / 64) new) behind rest whole
holds_put sort blocks element d new at mark behind is_run rest whole l is_mark adds kind is_behind h = record {
  front = h.front ++ (symbol_of sort element ∷ []);
  split = append_assoc h.front (symbol_of sort element ∷ []) rest ∙ h.split;
  count =
      ones-push h.front (symbol_of sort element).is_run (symbol_of sort element).test
      ∙ (ap (λ b. cond b (ones h.front) (ones h.front + 1)) kind ∙ (ap (λ n. cond is_run n (n + 1)) h.count
      ∙ sym is_behind));
  table = table_push sort blocks element d new at mark h.front (omega arith) is_mark h.count adds h.table;
}

-- ---- a step over one word

low_kept : (n i : ℕ) → i < 64 → bit_at (n % 2 ^ 64) i ≡ bit_at n i
low_kept n i l =
    let parts : n ≡ (n / 2 ^ 64) * 2 ^ 64 + n % 2 ^ 64 = omega arith in
    sym (ap (λ m. bit_at m i) parts ∙ bit_at_cat_low (n / 2 ^ 64) 64 (n % 2 ^ 64) i l)

moved_first : (n : ℕ) → is_set (n * 2 % 2 ^ 64) 0 ≡ false
moved_first n =
    let even : bit_at (n * 2 % 2 ^ 64) 0 ≡ 0 = omega (arith, bit_at_lowest (n * 2 % 2 ^ 64)) in ap (λ b. b == 1) even

moved_more : (n j : ℕ) → j < 63 → is_set (n * 2 % 2 ^ 64) (j + 1) ≡ is_set n j
moved_more n j l =
    let next : j + 1 ≡ suc j = omega arith in
    let half : n * 2 / 2 ≡ n = omega arith in
    ap (λ b. b == 1) (low_kept (n * 2) (j + 1) (omega arith)
    ∙ (ap (λ i. bit_at (n * 2) i) next ∙ (bit_at-suc (n * 2) j ∙ ap (λ m. bit_at m j) half)))

without_middle : (a c m : Bool) → m ≡ false → ((a || m) || c) ≡ (a || c)
without_middle a c m h = ap (λ b. (a || b) || c) h ∙ of_last a c
  where
    of_last : (a c : Bool) → ((a || false) || c) ≡ (a || c)
    of_last true c = refl
    of_last false c = refl

without_last : (a c : Bool) → c ≡ false → (a || c) ≡ a
without_last a c h = ap (λ b. a || b) h ∙ sym (same_or a)

three_parts : (a b led carry j : ℕ) → is_set (bit_or (bit_or (bit_and a b) led) carry) j
    ≡ (((is_set a j && is_set b j) || is_set led j) || is_set carry j)
three_parts a b led carry j =
    is_set-or (bit_or (bit_and a b) led) carry j
    ∙ (ap (λ x. x || is_set carry j) (is_set-or (bit_and a b) led j) ∙ ap (λ x. (x || is_set led j) || is_set carry j)
    (is_set-and a b j))

pub word_first : (a b led carry : ℕ) → is_set (bit_or (bit_or (bit_and a b) (led * 2 % 18446744073709551616)) carry) 0
    ≡ ((is_set a 0 && is_set b 0) || is_set carry 0)
word_first a b led carry =
    three_parts a b (led * 2 % 18446744073709551616) carry 0
    ∙ without_middle (is_set a 0 && is_set b 0) (is_set carry 0) (is_set (led * 2 % 18446744073709551616) 0)
    (moved_first led)

pub word_more : (a b led carry : ℕ) → carry < 2 → (j : ℕ) → j < 63
    → is_set (bit_or (bit_or (bit_and a b) (led * 2 % 18446744073709551616)) carry) (j + 1)
    ≡ ((is_set a (j + 1) && is_set b (j + 1)) || is_set led j)
word_more a b led carry small j l =
    let above : bit_at carry (j + 1) ≡ 0 = bit_at_above carry 1 (j + 1) small (omega arith) in
    three_parts a b (led * 2 % 18446744073709551616) carry (j + 1)
    ∙ (without_last ((is_set a (j + 1) && is_set b (j + 1)) || is_set (led * 2 % 18446744073709551616) (j + 1))
    (is_set carry (j + 1)) (ap (λ n. n == 1) above)
    ∙ ap (λ x. (is_set a (j + 1) && is_set b (j + 1)) || x) (moved_more led j l))

-- ---- a step over all words

has_at : (words : List ℕ) (k i m : ℕ) → k / 64 ≡ i → k % 64 ≡ m → has words k ≡ is_set (get_or words i 0) m
has_at words k i m e f = ap (λ n. is_set (get_or words n 0) (k % 64)) e ∙ ap (λ n. is_set (get_or words i 0) n) f

module _ (old leading looping : List ℕ) (i here led carry : ℕ) (is_here : here ≡ get_or old i 0)
    (is_led : (j : ℕ) → is_set led j ≡ (is_set here j && is_set (get_or leading i 0) j)) where
  led_at : (k m : ℕ) → k / 64 ≡ i → k % 64 ≡ m → (has old k && has leading k) ≡ is_set led m
  led_at k m e f =
      ap (λ b. b && has leading k) (has_at old k i m e f)
      ∙ (ap (λ b. is_set (get_or old i 0) m && b) (has_at leading k i m e f)
      ∙ (ap (λ w. is_set w m && is_set (get_or leading i 0) m) (sym is_here) ∙ sym (is_led m)))

  pub step_over : (after : ℕ) → is_set after 0 ≡ is_set led 63 → is_set after 0 ≡ came_to old leading (64 * (i + 1))
  step_over after h =
      let next : 64 * (i + 1) ≡ suc (64 * i + 63) = omega arith in
      h ∙ (sym (led_at (64 * i + 63) 63 (omega arith) (omega arith)) ∙ ap (came_to old leading) (sym next))

  pub step_done : (words : List ℕ) (new : ℕ) → i < length words
      → is_set new 0 ≡ ((is_set here 0 && is_set (get_or looping i 0) 0) || is_set carry 0)
      → ((j : ℕ) → j < 63 → is_set new (j + 1) ≡ ((is_set here (j + 1) && is_set (get_or looping i 0) (j + 1))
      || is_set led j))
      → is_set carry 0 ≡ came_to old leading (64 * i)
      → ((k : ℕ) → k < 64 * i → has words k ≡ stepped old leading looping k)
      → (k : ℕ) → k < 64 * (i + 1) → has (set words i new) k ≡ stepped old leading looping k
  step_done words new within first others over done k l =
      elim (cases_lt k (64 * i)) [
        | inl before ↦ has-set_other words i new k (λ e. absurd (omega arith)) ∙ done k before
        | inr from ↦ has-set_same words i new k within (omega arith) ∙ by_place (k % 64) (omega arith) refl
      ]
    where
      stays : (m : ℕ) → k / 64 ≡ i → k % 64 ≡ m → (is_set here m && is_set (get_or looping i 0) m)
          ≡ (has old k && has looping k)
      stays m e f =
          ap (λ w. is_set w m && is_set (get_or looping i 0) m) is_here
          ∙ (ap (λ b. b && is_set (get_or looping i 0) m) (sym (has_at old k i m e f)) ∙ ap (λ b. has old k && b)
          (sym (has_at looping k i m e f)))

      by_place : (m : ℕ) → k / 64 ≡ i → k % 64 ≡ m → is_set new m ≡ stepped old leading looping k
      by_place zero e f =
          let place : 64 * i ≡ k = omega arith in
          first ∙ (ap (λ b. b || is_set carry 0) (stays 0 e f) ∙ ap (λ b. (has old k && has looping k) || b)
          (over ∙ ap (came_to old leading) place))
      by_place (suc m) e f =
          let place : suc (64 * i + m) ≡ k = omega arith in
          let next : suc m ≡ m + 1 = omega arith in
          ap (is_set new) next
          ∙ (others m (omega arith)
          ∙ (ap (λ n. (is_set here n && is_set (get_or looping i 0) n) || is_set led m) (sym next)
          ∙ (ap (λ b. b || is_set led m) (stays (suc m) e f)
          ∙ ap (λ b. (has old k && has looping k) || b) (sym (led_at (64 * i + m) m (omega arith) (omega arith))
          ∙ ap (came_to old leading) place))))

-- one word more in a loop over them
pub step_more : (token : Token) (in_class : Bool) (blocks : List Block) (d : Block) (old words : List ℕ)
    (i here carry lead_word loop_word led new after : ℕ)
    → i < length blocks → i < length words → here ≡ get_or words i 0
    → lead_word ≡ leads token in_class (get_or blocks i d) → loop_word ≡ loops in_class (get_or blocks i d)
    → ((j : ℕ) → is_set led j ≡ (is_set here j && is_set lead_word j))
    → is_set new 0 ≡ ((is_set here 0 && is_set loop_word 0) || is_set carry 0)
    → ((j : ℕ) → j < 63 → is_set new (j + 1) ≡ ((is_set here (j + 1) && is_set loop_word (j + 1)) || is_set led j))
    → is_set after 0 ≡ is_set led 63
    → is_set carry 0 ≡ came_to old (map (leads token in_class) blocks) (64 * i)
    → ((k : ℕ) → k < 64 * i → has words k ≡ stepped old (map (leads token in_class) blocks)
    (map (loops in_class) blocks) k)
    → ((m : ℕ) → i ≤ m → get_or words m 0 ≡ get_or old m 0)
    → (is_set after 0 ≡ came_to old (map (leads token in_class) blocks) (64 * (i + 1)))
    × ((k : ℕ) → k < 64 * (i + 1) → has (set words i new) k ≡ stepped old (map (leads token in_class) blocks)
    (map (loops in_class) blocks) k)
    × ((m : ℕ) → i + 1 ≤ m → get_or (set words i new) m 0 ≡ get_or old m 0)
step_more token in_class blocks d old words i here carry lead_word loop_word led new after lb lw is_here is_lead is_loop
    is_led first others last over done kept =
    let lead_at : lead_word ≡ get_or (map (leads token in_class) blocks) i 0 =
    is_lead ∙ sym (get_or-map (leads token in_class) blocks i d 0 lb) in
    let loop_at : loop_word ≡ get_or (map (loops in_class) blocks) i 0 =
    is_loop ∙ sym (get_or-map (loops in_class) blocks i d 0 lb) in
    let here_at : here ≡ get_or old i 0 = is_here ∙ kept i (omega arith) in
    let led_at : (j : ℕ) → is_set led j ≡ (is_set here j && is_set (get_or (map (leads token in_class) blocks) i 0) j) =
    λ j. is_led j ∙ ap (λ w. is_set here j && is_set w j) lead_at in (
      step_over old (map (leads token in_class) blocks) (map (loops in_class) blocks) i here led carry here_at led_at
          after last,
      step_done old (map (leads token in_class) blocks) (map (loops in_class) blocks) i here led carry here_at led_at
          words new lw
          (first ∙ ap (λ w. (is_set here 0 && is_set w 0) || is_set carry 0) loop_at)
          (λ j l. others j l ∙ ap (λ w. (is_set here (j + 1) && is_set w (j + 1)) || is_set led j) loop_at)
          over done,
      λ m l. get_or-set_other words i m new 0 (λ e. absurd (omega arith)) ∙ kept m (omega arith),
    )

-- ---- a walk

table_steps : (sort : Sort) (blocks : List Block) (symbols : List (Symbol Token)) (token : Token) (old : List ℕ)
    → IsTable sort blocks symbols → is_read sort token ≡ true
    → (k : ℕ) → stepped old (map (leads token (on_bytes (class_of sort) token)) blocks)
    (map (loops (on_bytes (class_of sort) token)) blocks) k
    ≡ ((has old k && loop_at (row never symbols) k token) || came (has old) false (row never symbols) k token)
table_steps sort blocks symbols token old table read zero = ap (λ b. (has old 0 && b) || false)
    (table.looping 0 token read)
table_steps sort blocks symbols token old table read (suc k) =
    ap (λ b. (has old (suc k) && b) || (has old k && has (map (leads token (on_bytes (class_of sort) token)) blocks) k))
    (table.looping (suc k) token read)
    ∙ ap (λ b. (has old (suc k) && loop_at (row never symbols) (suc k) token) || (has old k && b))
    (table.leading k token read)

-- one token more
pub walk_more : (sort : Sort) (blocks : List Block) (symbols : List (Symbol Token)) (token : Token) (rest : List Token)
    (old new : List ℕ)
    → IsTable sort blocks symbols → is_read sort token ≡ true → ones symbols < 64 * length old
    → ((k : ℕ) → k < 64 * length old
    → has new k ≡ stepped old (map (leads token (on_bytes (class_of sort) token)) blocks)
    (map (loops (on_bytes (class_of sort) token)) blocks) k)
    → reach (has new) (row never symbols) rest ≡ reach (has old) (row never symbols) (token ∷ rest)
walk_more sort blocks symbols token rest old new table read room places =
    reach-step (row never symbols) (has old) (has new) token rest
    (λ k l. places k (omega (arith, l, length-row never symbols)) ∙ table_steps sort blocks symbols token old table read
    k)

all_zero : (words : List ℕ) → list_all (λ word. word == 0) words ≡ true → (i : ℕ) → get_or words i 0 ≡ 0
all_zero [] h i = refl
all_zero (w ∷ ws) h zero = eqb-true w 0 (and_parts (w == 0) (list_all (λ word. word == 0) ws) h).0
all_zero (w ∷ ws) h (suc i) = all_zero ws (and_parts (w == 0) (list_all (λ word. word == 0) ws) h).1 i

has-zero : (words : List ℕ) → list_all (λ word. word == 0) words ≡ true → (k : ℕ) → has words k ≡ false
has-zero words h k = ap (λ w. is_set w (k % 64)) (all_zero words h (k / 64)) ∙ is_set-zero (k % 64)

pub is_read-byte : (sort : Sort) (b : ℕ) → is_read sort (Byte b) ≡ true
is_read-byte sort b = of_sort sort
  where
    of_sort : (sort : Sort) → is_read sort (Byte b) ≡ true
    of_sort Component = refl
    of_sort Command = refl
    of_sort Name = refl

-- one byte more of a text
pub walk_byte : (sort : Sort) (blocks : List Block) (symbols : List (Symbol Token)) (text : List ℕ) (i b : ℕ)
    (rest : List Token) (old new : List ℕ) (in_class : Bool) (whole : Bool)
    → i < length text → b ≡ get_or text i 0 → in_class ≡ class_of sort b
    → IsTable sort blocks symbols → ones symbols < 64 * length old
    → ((k : ℕ) → k < 64 * length old → has new k ≡ stepped old (map (leads (Byte b) in_class) blocks)
    (map (loops in_class) blocks) k)
    → reach (has old) (row never symbols) (map Byte (drop i text) ++ rest) ≡ whole
    → reach (has new) (row never symbols) (map Byte (drop (i + 1) text) ++ rest) ≡ whole
walk_byte sort blocks symbols text i b rest old new in_class whole l is_byte is_class table room places before =
    walk_more sort blocks symbols (Byte b) (map Byte (drop (i + 1) text) ++ rest) old new table (is_read-byte sort b)
    room
    (λ k k_in. places k k_in ∙ ap (λ cls. stepped old (map (leads (Byte b) cls) blocks) (map (loops cls) blocks) k)
    is_class)
    ∙ (ap (λ bs. reach (has old) (row never symbols) (map Byte bs ++ rest)) (ap (λ x. x ∷ drop (i + 1) text) is_byte
    ∙ sym (drop_more text i 0 l)) ∙ before)

-- where no place is reached, what is left does not matter
pub walk_dead : (symbols : List (Symbol Token)) (words : List ℕ) (left rest : List Token)
    → list_all (λ word. word == 0) words ≡ true
    → reach (has words) (row never symbols) rest ≡ reach (has words) (row never symbols) left
walk_dead symbols words left rest h =
    reach-none (row never symbols) (has words) rest (has-zero words h)
    ∙ sym (reach-none (row never symbols) (has words) left (has-zero words h))
