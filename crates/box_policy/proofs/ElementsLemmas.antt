-- The elements of patterns, and runs inside the runs before them.
use Rattle.std.proofs.Common.{◌≡◌, ◌∙◌, ◌<◌, ◌≤◌, ◌+◌, ◌-◌, ℕ, zero, suc, Bool, true, false, ◌&&◌, ◌||◌, not, List, []}
use Rattle.std.proofs.Common.{◌∷◌, ◌++◌, length, map, cond, sym, ap, refl, arith, take, drop, get_or, codes, bytes_eq}
use Rattle.std.proofs.Common.{subst}
use Rattle.std.specs.Prelude.{◌==◌}
use Rattle.std.proofs.lemmas.Bool.{true≢false, false≢true, cond_both}
use Rattle.box_policy.specs.declared.tokens.Sort.{Sort}
use Rattle.box_policy.specs.declared.tokens.Sort.TheVariants.{Component, Command, Name}
use Rattle.box_policy.specs.declared.tokens.Token.{Token}
use Rattle.box_policy.specs.declared.tokens.Token.TheVariants.{Open, Byte, Close}
use Rattle.box_policy.specs.Division.{Symbol, fits}
use Rattle.box_policy.specs.Patterns.{symbols, component_symbol, component_byte, name_byte, command_byte}
use Rattle.box_policy.specs.Patterns.{command_symbols, is_name_byte, is_word_byte, one, run}
use Rattle.box_policy.specs.Tokens.{on_bytes, is_open, is_close, lifted, piece_symbols, flat, stream, starts_all}
use Rattle.box_policy.specs.Cells.{IsInside, IsNested}
use Rattle.box_policy.proofs.DivisionLemmas.{symbol}

first_symbol : (sort : Sort) (b : ℕ) (bs : List ℕ) → starts_all sort (b ∷ bs) ≡ false
    → symbols sort (b ∷ bs) ≡ symbols sort (b ∷ []) ++ symbols sort bs
first_symbol Component b bs h = refl
first_symbol Name b bs h = refl
first_symbol Command b [] h = refl
first_symbol Command b (c ∷ bs) h =
    ap (λ t. cond t (run (λ _. true) ∷ command_symbols bs) (command_byte b ∷ command_symbols (c ∷ bs))) h

joined_first : (xs ys : List (Symbol ℕ)) (s : Symbol Token) → map lifted xs ≡ s ∷ []
    → map lifted (xs ++ ys) ≡ s ∷ map lifted ys
joined_first xs ys s h = parts xs ys ∙ ap (λ front. front ++ map lifted ys) h
  where
    parts : (xs ys : List (Symbol ℕ)) → map lifted (xs ++ ys) ≡ map lifted xs ++ map lifted ys
    parts [] ys = refl
    parts (x ∷ xs) ys = ap (λ rest. lifted x ∷ rest) (parts xs ys)

whole : (bs : List ℕ) (n : ℕ) → length bs ≡ n → take n bs ≡ bs
whole [] zero h = refl
whole [] (suc n) h = refl
whole (b ∷ bs) zero h = absurd (omega arith)
whole (b ∷ bs) (suc n) h = ap (λ rest. b ∷ rest) (whole bs n (omega arith))

-- a byte that stands alone comes first
pub first_more : (sort : Sort) (b : ℕ) (pattern : List ℕ) (s : Symbol Token) → map lifted (symbols sort (b ∷ []))
    ≡ s ∷ [] → starts_all sort pattern ≡ false → 0 < length pattern → b ≡ get_or pattern 0 0
    → map lifted (symbols sort pattern) ≡ s ∷ map lifted (symbols sort (take (length pattern - 1) (drop 1 pattern)))
first_more sort b [] s h alone some same = absurd (omega arith)
first_more sort b (c ∷ bs) s h alone some same =
    let all : take (length (c ∷ bs) - 1) bs ≡ bs = whole bs (length (c ∷ bs) - 1) (omega arith) in
    ap (map lifted) (first_symbol sort c bs alone)
    ∙ (joined_first (symbols sort (c ∷ [])) (symbols sort bs) s (ap (λ x. map lifted (symbols sort (x ∷ []))) (sym same)
    ∙ h)
    ∙ ap (λ rest. s ∷ map lifted (symbols sort rest)) (sym all))

-- ---- runs inside one another

not_run : {P : Type 0} (b : Bool) → b ≡ false → b ≡ true → P
not_run b is_not is = absurd (true≢false (sym is ∙ is_not))

-- each run has this test
RunsAre : (Token → Bool) → List (Symbol Token) → Type 0
RunsAre t [] = Unit {0}
RunsAre t (s ∷ ss) = (s.is_run ≡ true → s.test ≡ t) × RunsAre t ss

nested_same : (t : Token → Bool) (ss : List (Symbol Token)) → RunsAre t ss → IsNested ss
unfolding RunsAre
nested_same t [] h = tt
nested_same t (s ∷ ss) h = (λ is_run. inside t s.test (h.0 is_run) ss h.1, nested_same t ss h.1)
  where
    inside : (t p : Token → Bool) → p ≡ t → (ss : List (Symbol Token)) → RunsAre t ss → IsInside p ss
    inside t p same [] h = tt
    inside t p same (s ∷ ss) h = λ is_run x passes. ap (λ test. test x) same ∙ (ap (λ test. test x) (sym (h.0 is_run))
        ∙ passes)

runs_component : (pattern : List ℕ) → RunsAre (on_bytes (λ _. true)) (map lifted (symbols Component pattern))
unfolding RunsAre
runs_component [] = tt
runs_component (b ∷ bs) = (of_byte (b == 42) (b == 63), runs_component bs)
  where
    of_byte : (star mark : Bool)
        → (lifted (cond star (run (λ _. true)) (cond mark (one (λ _. true)) (one (λ c. c == b))))).is_run ≡ true
        → (lifted (cond star (run (λ _. true)) (cond mark (one (λ _. true)) (one (λ c. c == b))))).test
        ≡ on_bytes (λ _. true)
    of_byte true mark h = refl
    of_byte false true h = absurd (true≢false (sym h))
    of_byte false false h = absurd (true≢false (sym h))

runs_name : (pattern : List ℕ) → RunsAre (on_bytes is_name_byte) (map lifted (symbols Name pattern))
unfolding RunsAre
runs_name [] = tt
runs_name (b ∷ bs) = (of_byte (b == 42), runs_name bs)
  where
    of_byte : (star : Bool) → (lifted (cond star (run is_name_byte) (one (λ c. c == b)))).is_run ≡ true
        → (lifted (cond star (run is_name_byte) (one (λ c. c == b)))).test ≡ on_bytes is_name_byte
    of_byte true h = refl
    of_byte false h = absurd (true≢false (sym h))

inside_all : (ss : List (Symbol ℕ)) → IsInside (on_bytes (λ _. true)) (map lifted ss)
inside_all [] = tt
inside_all (s ∷ ss) = λ is_run x passes. of_token s.test x passes
  where
    of_token : (test : ℕ → Bool) (x : Token) → on_bytes test x ≡ true → on_bytes (λ _. true) x ≡ true
    of_token test Open h = h
    of_token test (Byte b) h = refl
    of_token test Close h = h

not_star : (c : ℕ) → (c == 42) ≡ false → (lifted (command_byte c)).is_run ≡ false
not_star c h = ap (λ t. (cond t (run is_word_byte) (one (λ d. d == c))).is_run) h

command_first : (c : ℕ) (bs : List ℕ) (p : Token → Bool) → (c == 42) ≡ false
    → IsInside p (map lifted (command_symbols (c ∷ bs)))
command_first c [] p h = λ is_run x passes. not_run _ (not_star c h) is_run
command_first c (d ∷ ds) p h =
    subst (λ ss. IsInside p (map lifted ss))
    (sym (ap (λ t. cond (t && d == 42) (run (λ _. true) ∷ command_symbols ds)
    (command_byte c ∷ command_symbols (d ∷ ds))) h))
    (λ is_run x passes. not_run _ (not_star c h) is_run)

nested_command : (pattern : List ℕ) → IsNested (map lifted (command_symbols pattern))
nested_command [] = tt
nested_command (b ∷ []) = (λ is_run. tt, tt)
nested_command (b ∷ c ∷ bs) = of_bytes (b == 42) (c == 42) refl refl (nested_command bs) (nested_command (c ∷ bs))
  where
    of_bytes : (x y : Bool) → (b == 42) ≡ x → (c == 42) ≡ y → IsNested (map lifted (command_symbols bs))
        → IsNested (map lifted (command_symbols (c ∷ bs)))
        → IsNested (map lifted (cond (x && y) (run (λ _. true) ∷ command_symbols bs)
        (command_byte b ∷ command_symbols (c ∷ bs))))
    of_bytes true true e f h k = (λ is_run. inside_all (command_symbols bs), h)
    of_bytes true false e f h k = (λ is_run. command_first c bs _ f, k)
    of_bytes false y e f h k = (λ is_run. not_run _ (not_star b e) is_run, k)

pub nested-symbols : (sort : Sort) (pattern : List ℕ) → IsNested (map lifted (symbols sort pattern))
nested-symbols Component pattern = nested_same (on_bytes (λ _. true)) _ (runs_component pattern)
nested-symbols Command pattern = nested_command pattern
nested-symbols Name pattern = nested_same (on_bytes is_name_byte) _ (runs_name pattern)

-- an element between two patterns parts their runs
nested_joined : (xs ys : List (Symbol Token)) (t : Token → Bool) → IsNested xs → IsNested (symbol false t ∷ ys)
    → IsNested (xs ++ (symbol false t ∷ ys))
nested_joined [] ys t h k = k
nested_joined (x ∷ xs) ys t h k = (λ is_run. inside xs ys t x.test (h.0 is_run), nested_joined xs ys t h.1 k)
  where
    inside : (xs ys : List (Symbol Token)) (t p : Token → Bool) → IsInside p xs
        → IsInside p (xs ++ (symbol false t ∷ ys))
    inside [] ys t p h = λ is_run x passes. absurd (true≢false (sym is_run))
    inside (x ∷ xs) ys t p h = h

pub nested-flat : (pieces : List (List ℕ)) → IsNested (flat pieces)
nested-flat [] = tt
nested-flat (piece ∷ pieces) = of_piece (bytes_eq piece (codes "**")) piece pieces (nested-flat pieces)
  where
    inside_any : (ss : List (Symbol Token)) → IsInside (λ _. true) ss
    inside_any [] = tt
    inside_any (s ∷ ss) = λ is_run x passes. refl

    appended : (xs ys : List (Symbol Token)) → (xs ++ (symbol false is_close ∷ [])) ++ ys ≡ xs
        ++ (symbol false is_close ∷ ys)
    appended [] ys = refl
    appended (x ∷ xs) ys = ap (λ rest. x ∷ rest) (appended xs ys)

    closed : (ss : List (Symbol ℕ)) (more : List (Symbol Token)) → IsNested (map lifted ss) → IsNested more
        → IsNested ((map lifted ss ++ (symbol false is_close ∷ [])) ++ more)
    closed ss more h k =
        subst IsNested (sym (appended (map lifted ss) more)) (nested_joined (map lifted ss) more is_close h
        (λ is_run. absurd (true≢false (sym is_run)), k))

    of_piece : (is_all : Bool) (piece : List ℕ) (pieces : List (List ℕ)) → IsNested (flat pieces)
        → IsNested (cond is_all (symbol true (λ _. true) ∷ [])
        (symbol false is_open ∷ (map lifted (symbols Component piece) ++ (symbol false is_close ∷ [])))
        ++ flat pieces)
    of_piece true piece pieces h = (λ is_run. inside_any (flat pieces), h)
    of_piece false piece pieces h = (
      λ is_run. absurd (true≢false (sym is_run)),
      closed (symbols Component piece)
          (flat pieces) (nested-symbols Component piece) h,
    )
