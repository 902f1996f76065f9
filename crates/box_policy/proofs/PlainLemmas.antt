-- A pattern whose bytes stand for themselves fits itself alone.
use Rattle.std.proofs.Common.{◌≡◌, ◌∙◌, ℕ, Bool, true, false, ◌&&◌, ◌||◌, not, List, [], ◌∷◌, map, cond, sym, ap, refl}
use Rattle.std.proofs.Common.{bytes_eq, codes, arith, inl, inr, append-nil, ◌++◌}
use Rattle.std.specs.Prelude.{◌==◌}
use Rattle.std.specs.List.{list_all}
use Rattle.std.proofs.lemmas.Bool.{true≢false, and_parts, or_parts, not-true, cases_eq, eq-eqb, ne_eqb}
use Rattle.box_policy.specs.declared.tokens.Sort.{Sort}
use Rattle.box_policy.specs.declared.tokens.Sort.TheVariants.{Component, Command, Name}
use Rattle.box_policy.specs.Division.{Symbol, fits}
use Rattle.box_policy.specs.Patterns.{symbols, component_symbol, base_symbol, component_byte, name_byte, command_byte}
use Rattle.box_policy.specs.Patterns.{command_symbols, is_name_byte, is_word_byte, one, run}
use Rattle.box_policy.specs.Plain.{is_wild, is_plain_pattern}
use Rattle.box_policy.proofs.DivisionLemmas.{symbol, fits-none, fits-more}

-- a byte that stands for itself
itself : ℕ → Symbol ℕ
itself b = symbol false (λ c. c == b)

fits-itself : (pattern subject : List ℕ) → fits (map itself pattern) subject ≡ bytes_eq subject pattern
unfolding itself
fits-itself [] [] = refl
fits-itself [] (x ∷ xs) = refl
fits-itself (b ∷ bs) [] = refl
fits-itself (b ∷ bs) (x ∷ xs) = fits-more false (λ c. c == b) (map itself bs) x xs ∙ ap (λ t. (x == b) && t)
    (fits-itself bs xs)

component_itself : (b : ℕ) → is_wild Component b ≡ false → component_byte b ≡ itself b
unfolding itself
component_itself b h =
    let star : (b == 42) ≡ false = (or_parts (b == 42) (b == 63) h).0 in
    let mark : (b == 63) ≡ false = (or_parts (b == 42) (b == 63) h).1 in
    ap (λ t. cond t (run (λ _. true)) (cond (b == 63) (one (λ _. true)) (one (λ c. c == b)))) star
    ∙ ap (λ t. cond t (one (λ _. true)) (one (λ c. c == b))) mark

name_itself : (b : ℕ) → (b == 42) ≡ false → name_byte b ≡ itself b
unfolding itself
name_itself b h = ap (λ t. cond t (run is_name_byte) (one (λ c. c == b))) h

command_itself : (b : ℕ) → (b == 42) ≡ false → command_byte b ≡ itself b
unfolding itself
command_itself b h = ap (λ t. cond t (run is_word_byte) (one (λ c. c == b))) h

first_plain : (sort : Sort) (b : ℕ) (bs : List ℕ) → is_plain_pattern sort (b ∷ bs) ≡ true → (is_wild sort b ≡ false)
    × (is_plain_pattern sort bs ≡ true)
first_plain sort b bs h = (not-true (is_wild sort b) (and_parts _ _ h).0, (and_parts _ _ h).1)

symbols_itself : (sort : Sort) (pattern : List ℕ) → is_plain_pattern sort pattern ≡ true
    → symbols sort pattern ≡ map itself pattern
symbols_itself Component [] h = refl
symbols_itself Component (b ∷ bs) h =
    let parts = first_plain Component b bs h in
    ap (λ s. s ∷ map component_byte bs) (component_itself b parts.0) ∙ ap (λ ss. itself b ∷ ss)
    (symbols_itself Component bs parts.1)
symbols_itself Name [] h = refl
symbols_itself Name (b ∷ bs) h =
    let parts = first_plain Name b bs h in
    ap (λ s. s ∷ map name_byte bs) (name_itself b parts.0) ∙ ap (λ ss. itself b ∷ ss) (symbols_itself Name bs parts.1)
symbols_itself Command [] h = refl
symbols_itself Command (b ∷ []) h = ap (λ s. s ∷ []) (command_itself b (first_plain Command b [] h).0)
symbols_itself Command (b ∷ c ∷ bs) h =
    let parts = first_plain Command b (c ∷ bs) h in
    ap (λ t. cond (t && c == 42) (run (λ _. true) ∷ command_symbols bs) (command_byte b ∷ command_symbols (c ∷ bs)))
    parts.0
    ∙ (ap (λ s. s ∷ command_symbols (c ∷ bs)) (command_itself b parts.0) ∙ ap (λ ss. itself b ∷ ss)
    (symbols_itself Command (c ∷ bs) parts.1))

pub fits-plain : (sort : Sort) (pattern subject : List ℕ) → is_plain_pattern sort pattern ≡ true
    → fits (symbols sort pattern) subject ≡ bytes_eq subject pattern
fits-plain sort pattern subject h = ap (λ ss. fits ss subject) (symbols_itself sort pattern h)
    ∙ fits-itself pattern subject

pub plain_text : (sort : Sort) (pattern subject : List ℕ) (plain : Bool) → plain ≡ is_plain_pattern sort pattern
    → plain ≡ true → bytes_eq subject pattern ≡ fits (symbols sort pattern) subject
plain_text sort pattern subject plain is holds = sym (fits-plain sort pattern subject (sym is ∙ holds))

-- ---- components

eq-swap : (x y : ℕ) → (x == y) ≡ (y == x)
eq-swap x y =
    elim (cases_eq x y) [
      | inl same ↦ eq-eqb x y same ∙ sym (eq-eqb y x (sym same))
      | inr other ↦ ne_eqb x y other ∙ sym (ne_eqb y x (λ e. other (sym e)))
    ]

not_double : (piece : List ℕ) → is_plain_pattern Component piece ≡ true → bytes_eq piece (codes "**") ≡ false
not_double [] h = refl
not_double (b ∷ bs) h = ap (λ t. t && bytes_eq bs (codes "*"))
    (or_parts (b == 42) (b == 63) (first_plain Component b bs h).0).0

pub bytes_eq-swap : (xs ys : List ℕ) → bytes_eq xs ys ≡ bytes_eq ys xs
bytes_eq-swap [] [] = refl
bytes_eq-swap [] (y ∷ ys) = refl
bytes_eq-swap (x ∷ xs) [] = refl
bytes_eq-swap (x ∷ xs) (y ∷ ys) = ap (λ t. t && bytes_eq xs ys) (eq-swap x y) ∙ ap (λ t. (y == x) && t)
    (bytes_eq-swap xs ys)

pub component_plain : (piece : List ℕ) → is_plain_pattern Component piece ≡ true
    → component_symbol piece ≡ base_symbol piece
component_plain piece h =
    ap (λ t. symbol t (λ name. t || fits (symbols Component piece) name)) (not_double piece h)
    ∙ ap (λ test. symbol false test) (λ i. λ name. (fits-plain Component piece name h ∙ bytes_eq-swap name piece) i)

components_plain : (pieces : List (List ℕ)) → list_all (is_plain_pattern Component) pieces ≡ true
    → map component_symbol pieces ≡ map base_symbol pieces
components_plain [] h = refl
components_plain (piece ∷ pieces) h =
    let parts = and_parts (is_plain_pattern Component piece) (list_all (is_plain_pattern Component) pieces) h in
    ap (λ s. s ∷ map component_symbol pieces) (component_plain piece parts.0) ∙ ap (λ ss. base_symbol piece ∷ ss)
    (components_plain pieces parts.1)

pub plain_names : (pieces subject : List (List ℕ)) (plain result : Bool)
    → plain ≡ list_all (is_plain_pattern Component) pieces → plain ≡ true
    → result ≡ fits (map base_symbol pieces ++ []) subject
    → result ≡ fits (map component_symbol pieces) subject
plain_names pieces subject plain result is holds same =
    same ∙ (ap (λ ss. fits ss subject) (append-nil (map base_symbol pieces)) ∙ ap (λ ss. fits ss subject)
    (sym (components_plain pieces (sym is ∙ holds))))
