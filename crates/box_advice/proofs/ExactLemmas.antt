-- A rule without wildcards fits one text alone.
use Rattle.std.proofs.Common.{◌≡◌, ◌∙◌, ℕ, Bool, true, false, not, ◌&&◌, ◌||◌, List, [], ◌∷◌, ◌++◌, map, cond, sym, ap}
use Rattle.std.proofs.Common.{refl}
use Rattle.std.specs.Prelude.{Some, None, is_some, nat_eq, ◌==◌}
use Rattle.std.specs.List.{list_all, list_any}
use Rattle.std.specs.Str.{bytes_eq, is_utf8}
use Rattle.std.proofs.lemmas.Bool.{true≢false, and_parts, and_from, not-true}
use Rattle.std.proofs.lemmas.List.{map-append}
use Rattle.std.proofs.lemmas.Slice.Eq.{bytes_eq-Decides}
use Rattle.box_policy.specs.declared.policy.Kind.{Kind}
use Rattle.box_policy.specs.declared.policy.Kind.TheVariants.{Read, Write, Append, Run, Env, Assign}
use Rattle.box_policy.specs.Decisions.{kind_number}
use Rattle.box_policy.specs.Division.{Symbol, fits}
use Rattle.box_policy.specs.Exact.{is_exact, is_literal, Same}
use Rattle.box_policy.specs.Fits.{pattern_fits, normal_fits}
use Rattle.box_policy.specs.Paths.{is_absolute, is_text, names, names_under, can_resolve, normal}
use Rattle.box_policy.specs.Patterns.{base_symbol, component_symbol, path_symbols, name_byte, command_byte}
use Rattle.box_policy.specs.Patterns.{command_symbols, is_name_byte, is_word_byte, one, run}
use Rattle.box_policy.specs.Wellformed.{is_pattern, is_component, is_command_pattern}
use Rattle.box_policy.proofs.DivisionLemmas.{symbol, fits-none, fits-more}
use Rattle.box_policy.proofs.PlainLemmas.{component_plain}

-- no wildcard of a component stands in it; no `*` does
abbrev is_plain_component : List ℕ → Bool
is_plain_component piece = list_all (λ b. not (b == 42 || b == 63)) piece

abbrev has_no_star : List ℕ → Bool
has_no_star text = list_all (λ b. not (b == 42)) text

-- ---- paths

-- components that stand for themselves fit themselves alone
pub alone : (pieces subject : List (List ℕ)) → fits (map base_symbol pieces) subject ≡ true → subject ≡ pieces
alone [] [] h = refl
alone [] (x ∷ xs) h = absurd (true≢false (sym h))
alone (p ∷ ps) [] h = absurd (true≢false (sym h ∙ fits-none false (λ name. bytes_eq p name) (map base_symbol ps)))
alone (p ∷ ps) (x ∷ xs) h =
    let parts = and_parts (bytes_eq p x) (fits (map base_symbol ps) xs)
    (sym (fits-more false (λ name. bytes_eq p name) (map base_symbol ps) x xs) ∙ h) in
    ap (λ y. y ∷ xs) (sym ((bytes_eq-Decides p x).0 parts.0)) ∙ ap (λ ys. p ∷ ys) (alone ps xs parts.1)

pub all_plain : (pieces : List (List ℕ)) → list_all is_plain_component pieces ≡ true → map component_symbol pieces
    ≡ map base_symbol pieces
all_plain [] h = refl
all_plain (piece ∷ pieces) h =
    let parts = and_parts (is_plain_component piece) (list_all is_plain_component pieces) h in
    ap (λ s. s ∷ map component_symbol pieces) (component_plain piece parts.0) ∙ ap (λ ss. base_symbol piece ∷ ss)
    (all_plain pieces parts.1)

path_by : (absolute : Bool) (base pieces : List (List ℕ)) → list_all is_plain_component pieces ≡ true
    → cond absolute (map component_symbol pieces) (map base_symbol base ++ map component_symbol pieces)
    ≡ map base_symbol (cond absolute pieces (base ++ pieces))
path_by true base pieces h = all_plain pieces h
path_by false base pieces h = ap (λ ss. map base_symbol base ++ ss) (all_plain pieces h)
    ∙ sym (map-append base_symbol base pieces)

path_is : (base text : List ℕ) → list_all is_plain_component (names text) ≡ true
    → path_symbols base text ≡ map base_symbol (names_under base text)
path_is base text h = path_by (is_absolute text) (names base) (names text) h

same_by : (one other : Bool) (path : List (Symbol (List ℕ))) (ns ms : List (List ℕ)) → path ≡ map base_symbol ns
    → is_some (cond one (Some ns) None) ≡ true → normal_fits path (cond other (Some ms) None) ≡ true
    → cond one (Some ns) None ≡ cond other (Some ms) None
same_by false other path ns ms is there fit = absurd (true≢false (sym there))
same_by true false path ns ms is there fit = absurd (true≢false (sym fit))
same_by true true path ns ms is there fit = ap Some (sym (alone ns ms (ap (λ ss. fits ss ms) (sym is) ∙ fit)))

same_path : (base text subject : List ℕ) → (is_some (normal base text) && list_all is_component (names text)) ≡ true
    → list_all is_plain_component (names text) ≡ true → normal_fits (path_symbols base text) (normal base subject)
    ≡ true
    → normal base text ≡ normal base subject
same_path base text subject formed plain fit =
    same_by (can_resolve base text) (can_resolve base subject) (path_symbols base text) (names_under base text)
    (names_under base subject)
    (path_is base text plain) (and_parts _ _ formed).0 fit

-- ---- commands and names

-- a byte that stands for itself
itself : ℕ → Symbol ℕ
itself b = symbol false (λ c. c == b)

fits-itself : (pattern subject : List ℕ) → fits (map itself pattern) subject ≡ bytes_eq subject pattern
unfolding itself
fits-itself [] [] = refl
fits-itself [] (x ∷ xs) = refl
fits-itself (b ∷ bs) [] = refl
fits-itself (b ∷ bs) (x ∷ xs) = fits-more false (λ c. c == b) (map itself bs) x xs ∙ ap (λ t. (x == b) && t)
    (fits-itself bs xs)

name_itself : (b : ℕ) → (b == 42) ≡ false → name_byte b ≡ itself b
unfolding itself
name_itself b h = ap (λ t. cond t (run is_name_byte) (one (λ c. c == b))) h

command_itself : (b : ℕ) → (b == 42) ≡ false → command_byte b ≡ itself b
unfolding itself
command_itself b h = ap (λ t. cond t (run is_word_byte) (one (λ c. c == b))) h

first_plain : (b : ℕ) (bs : List ℕ) → has_no_star (b ∷ bs) ≡ true → ((b == 42) ≡ false) × (has_no_star bs ≡ true)
first_plain b bs h =
    let parts = and_parts (not (b == 42)) (has_no_star bs) h in
    (not-true (b == 42) parts.0, parts.1)

name_symbols_itself : (pattern : List ℕ) → has_no_star pattern ≡ true → map name_byte pattern ≡ map itself pattern
name_symbols_itself [] h = refl
name_symbols_itself (b ∷ bs) h =
    let parts = first_plain b bs h in
    ap (λ s. s ∷ map name_byte bs) (name_itself b parts.0) ∙ ap (λ ss. itself b ∷ ss) (name_symbols_itself bs parts.1)

command_symbols_itself : (pattern : List ℕ) → has_no_star pattern ≡ true → command_symbols pattern ≡ map itself pattern
command_symbols_itself [] h = refl
command_symbols_itself (b ∷ []) h = ap (λ s. s ∷ []) (command_itself b (first_plain b [] h).0)
command_symbols_itself (b ∷ c ∷ bs) h =
    let parts = first_plain b (c ∷ bs) h in
    ap (λ t. cond (t && c == 42) (run (λ _. true) ∷ command_symbols bs) (command_byte b ∷ command_symbols (c ∷ bs)))
    parts.0
    ∙ (ap (λ s. s ∷ command_symbols (c ∷ bs)) (command_itself b parts.0) ∙ ap (λ ss. itself b ∷ ss)
    (command_symbols_itself (c ∷ bs) parts.1))

same_by_itself : (symbols : List (Symbol ℕ)) (text subject : List ℕ) → symbols ≡ map itself text
    → fits symbols subject ≡ true → text ≡ subject
same_by_itself symbols text subject is fit =
    sym ((bytes_eq-Decides subject text).0 (sym (ap (λ ss. fits ss subject) is ∙ fits-itself text subject) ∙ fit))

pub same_command : (text subject : List ℕ) → has_no_star text ≡ true
    → (is_text subject && fits (command_symbols text) subject) ≡ true → text ≡ subject
same_command text subject plain fit =
    same_by_itself (command_symbols text) text subject (command_symbols_itself text plain)
    (and_parts (is_text subject) (fits (command_symbols text) subject) fit).1

pub same_name : (text subject : List ℕ) → has_no_star text ≡ true → fits (map name_byte text) subject ≡ true
    → text ≡ subject
same_name text subject plain fit = same_by_itself (map name_byte text) text subject (name_symbols_itself text plain) fit

-- ---- any kind

pub parts_of : (base : List ℕ) (kind : Kind) (text : List ℕ) → is_exact base kind text ≡ true
    → (is_pattern base kind text ≡ true) × (is_literal kind text ≡ true)
parts_of base kind text exact =
    let inner = (and_parts (is_utf8 text) (is_pattern base kind text && is_literal kind text) (and_parts _ _ exact).1).1
    in
    and_parts (is_pattern base kind text) (is_literal kind text) inner

-- what an exact pattern fits is the same
pub exact_alone : (base : List ℕ) (kind : Kind) (text subject : List ℕ) → is_exact base kind text ≡ true
    → pattern_fits base kind text subject ≡ true → Same base kind text subject
exact_alone base Read text subject exact fit =
    let p = parts_of base Read text exact in same_path base text subject p.0 p.1 fit
exact_alone base Write text subject exact fit =
    let p = parts_of base Write text exact in same_path base text subject p.0 p.1 fit
exact_alone base Append text subject exact fit =
    let p = parts_of base Append text exact in same_path base text subject p.0 p.1 fit
exact_alone base Run text subject exact fit = same_command text subject (parts_of base Run text exact).1 fit
exact_alone base Env text subject exact fit = same_name text subject (parts_of base Env text exact).1 fit
exact_alone base Assign text subject exact fit = same_name text subject (parts_of base Assign text exact).1 fit

-- ---- an exact pattern fits its own text

text_equal : (text : List ℕ) → bytes_eq text text ≡ true
text_equal text = (bytes_eq-Decides text text).1 refl

fits_own : (pieces : List (List ℕ)) → fits (map base_symbol pieces) pieces ≡ true
fits_own [] = refl
fits_own (p ∷ ps) =
    fits-more false (λ name. bytes_eq p name) (map base_symbol ps) p ps ∙ and_from (bytes_eq p p)
    (fits (map base_symbol ps) ps) (text_equal p) (fits_own ps)

own_form : (there : Bool) (path : List (Symbol (List ℕ))) (ns : List (List ℕ)) → path ≡ map base_symbol ns
    → is_some (cond there (Some ns) None) ≡ true
    → normal_fits path (cond there (Some ns) None) ≡ true
own_form false path ns is h = absurd (true≢false (sym h))
own_form true path ns is h = ap (λ ss. fits ss ns) is ∙ fits_own ns

own_path : (base text : List ℕ) → (is_some (normal base text) && list_all is_component (names text)) ≡ true
    → list_all is_plain_component (names text) ≡ true
    → normal_fits (path_symbols base text) (normal base text) ≡ true
own_path base text formed plain =
    own_form (can_resolve base text) (path_symbols base text) (names_under base text) (path_is base text plain)
    (and_parts _ _ formed).0

own_bytes : (symbols : List (Symbol ℕ)) (text : List ℕ) → symbols ≡ map itself text → fits symbols text ≡ true
own_bytes symbols text is = ap (λ ss. fits ss text) is ∙ (fits-itself text text ∙ text_equal text)

own_command : (text : List ℕ) → is_utf8 text ≡ true → is_command_pattern text ≡ true → has_no_star text ≡ true
    → (is_text text && fits (command_symbols text) text) ≡ true
own_command text valid formed plain =
    and_from (is_text text) (fits (command_symbols text) text)
    (and_from (is_utf8 text) (not (list_any (λ b. b == 0) text)) valid (and_parts (not (bytes_eq text []))
    (not (list_any (λ b. b == 0) text)) formed).1)
    (own_bytes (command_symbols text) text (command_symbols_itself text plain))

own_name : (text : List ℕ) → has_no_star text ≡ true → fits (map name_byte text) text ≡ true
own_name text plain = own_bytes (map name_byte text) text (name_symbols_itself text plain)

valid_of : (base : List ℕ) (kind : Kind) (text : List ℕ) → is_exact base kind text ≡ true → is_utf8 text ≡ true
valid_of base kind text exact = (and_parts (is_utf8 text) (is_pattern base kind text && is_literal kind text)
    (and_parts _ _ exact).1).0

pub exact_fits : (base : List ℕ) (kind : Kind) (text : List ℕ) → is_exact base kind text ≡ true
    → pattern_fits base kind text text ≡ true
exact_fits base Read text exact = let p = parts_of base Read text exact in own_path base text p.0 p.1
exact_fits base Write text exact = let p = parts_of base Write text exact in own_path base text p.0 p.1
exact_fits base Append text exact = let p = parts_of base Append text exact in own_path base text p.0 p.1
exact_fits base Run text exact =
    let p = parts_of base Run text exact in own_command text (valid_of base Run text exact) p.0 p.1
exact_fits base Env text exact = own_name text (parts_of base Env text exact).1
exact_fits base Assign text exact = own_name text (parts_of base Assign text exact).1

-- no pattern tells subjects apart that are the same
pub same_fits : (base : List ℕ) (kind : Kind) (pattern one other : List ℕ) → Same base kind one other
    → pattern_fits base kind pattern one ≡ pattern_fits base kind pattern other
same_fits base Read pattern one other same = ap (normal_fits (path_symbols base pattern)) same
same_fits base Write pattern one other same = ap (normal_fits (path_symbols base pattern)) same
same_fits base Append pattern one other same = ap (normal_fits (path_symbols base pattern)) same
same_fits base Run pattern one other same = ap (pattern_fits base Run pattern) same
same_fits base Env pattern one other same = ap (pattern_fits base Env pattern) same
same_fits base Assign pattern one other same = ap (pattern_fits base Assign pattern) same

-- ---- kinds

pub one_number : (kind : Kind) → nat_eq (kind_number kind) (kind_number kind) ≡ true
one_number Read = refl
one_number Write = refl
one_number Append = refl
one_number Run = refl
one_number Env = refl
one_number Assign = refl

-- kinds of one number are one
pub same_kind : (one other : Kind) → nat_eq (kind_number one) (kind_number other) ≡ true → one ≡ other
same_kind Read Read h = refl
same_kind Read Write h = absurd (true≢false (sym h))
same_kind Read Append h = absurd (true≢false (sym h))
same_kind Read Run h = absurd (true≢false (sym h))
same_kind Read Env h = absurd (true≢false (sym h))
same_kind Read Assign h = absurd (true≢false (sym h))
same_kind Write Read h = absurd (true≢false (sym h))
same_kind Write Write h = refl
same_kind Write Append h = absurd (true≢false (sym h))
same_kind Write Run h = absurd (true≢false (sym h))
same_kind Write Env h = absurd (true≢false (sym h))
same_kind Write Assign h = absurd (true≢false (sym h))
same_kind Append Read h = absurd (true≢false (sym h))
same_kind Append Write h = absurd (true≢false (sym h))
same_kind Append Append h = refl
same_kind Append Run h = absurd (true≢false (sym h))
same_kind Append Env h = absurd (true≢false (sym h))
same_kind Append Assign h = absurd (true≢false (sym h))
same_kind Run Read h = absurd (true≢false (sym h))
same_kind Run Write h = absurd (true≢false (sym h))
same_kind Run Append h = absurd (true≢false (sym h))
same_kind Run Run h = refl
same_kind Run Env h = absurd (true≢false (sym h))
same_kind Run Assign h = absurd (true≢false (sym h))
same_kind Env Read h = absurd (true≢false (sym h))
same_kind Env Write h = absurd (true≢false (sym h))
same_kind Env Append h = absurd (true≢false (sym h))
same_kind Env Run h = absurd (true≢false (sym h))
same_kind Env Env h = refl
same_kind Env Assign h = absurd (true≢false (sym h))
same_kind Assign Read h = absurd (true≢false (sym h))
same_kind Assign Write h = absurd (true≢false (sym h))
same_kind Assign Append h = absurd (true≢false (sym h))
same_kind Assign Run h = absurd (true≢false (sym h))
same_kind Assign Env h = absurd (true≢false (sym h))
same_kind Assign Assign h = refl
