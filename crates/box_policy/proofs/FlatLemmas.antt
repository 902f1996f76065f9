-- Patterns of components and of bytes, as patterns of tokens.
use Rattle.std.proofs.Common.{◌≡◌, ◌∙◌, ℕ, Bool, true, false, ◌&&◌, ◌||◌, not, List, [], ◌∷◌, ◌++◌, map, cond, sym, ap}
use Rattle.std.proofs.Common.{refl, append_assoc, codes, bytes_eq, arith, inl, inr}
use Rattle.std.proofs.lemmas.Bool.{true≢false, or_cases, or_left, or_right, and_parts, and_from, cond_both}
use Rattle.box_policy.specs.declared.tokens.Sort.TheVariants.{Component, Command, Name}
use Rattle.box_policy.specs.declared.tokens.Token.{Token}
use Rattle.box_policy.specs.declared.tokens.Token.TheVariants.{Open, Byte, Close}
use Rattle.box_policy.specs.Division.{Symbol, fits}
use Rattle.box_policy.specs.Patterns.{symbols, component_symbol}
use Rattle.box_policy.specs.Tokens.{on_bytes, is_open, is_close, lifted, piece_symbols, flat, stream}
use Rattle.box_policy.proofs.DivisionLemmas.{symbol, fits-none, fits-more, or_false}

-- ---- texts

pub fits-lifted : (ss : List (Symbol ℕ)) (subject : List ℕ) → fits (map lifted ss) (map Byte subject) ≡ fits ss subject
fits-lifted [] [] = refl
fits-lifted [] (x ∷ xs) = refl
fits-lifted (s ∷ ss) subject = by_subject s.is_run s.test ss subject (fits-lifted ss)
  where
    by_subject : (is_run : Bool) (test : ℕ → Bool) (ss : List (Symbol ℕ)) (subject : List ℕ)
        → ((rest : List ℕ) → fits (map lifted ss) (map Byte rest) ≡ fits ss rest)
        → fits (symbol is_run (on_bytes test) ∷ map lifted ss) (map Byte subject) ≡ fits (symbol is_run test ∷ ss)
        subject
    by_subject is_run test ss [] h = fits-none is_run (on_bytes test) (map lifted ss)
        ∙ (ap (λ b. is_run && b) (h []) ∙ sym (fits-none is_run test ss))
    by_subject true test ss (x ∷ xs) h =
        fits-more true (on_bytes test) (map lifted ss) (Byte x) (map Byte xs)
        ∙ (ap (λ b. b || (test x && fits (symbol true (on_bytes test) ∷ map lifted ss) (map Byte xs))) (h (x ∷ xs))
        ∙ (ap (λ b. fits ss (x ∷ xs) || (test x && b)) (by_subject true test ss xs h)
        ∙ sym (fits-more true test ss x xs)))
    by_subject false test ss (x ∷ xs) h =
        fits-more false (on_bytes test) (map lifted ss) (Byte x) (map Byte xs)
        ∙ (ap (λ b. test x && b) (h xs) ∙ sym (fits-more false test ss x xs))

-- ---- components

closing : List (Symbol Token) → List (Symbol Token)
closing more = symbol false is_close ∷ more

parts_or : (a p b f : Bool) → ((a && f) || (p && (b && f))) ≡ ((a || (p && b)) && f)
parts_or a p b f = grind arith

parts_and : (p b f : Bool) → (p && (b && f)) ≡ ((p && b) && f)
parts_and p b f = grind arith

-- the bytes of one component, up to where it closes
inner_fits : (ss : List (Symbol ℕ)) (name : List ℕ) (more : List (Symbol Token)) (rest : List Token)
    → fits (map lifted ss ++ closing more) (map Byte name ++ (Close ∷ rest)) ≡ (fits ss name && fits more rest)
unfolding closing
inner_fits [] [] more rest = fits-more false is_close more Close rest
inner_fits [] (x ∷ xs) more rest = fits-more false is_close more (Byte x) (map Byte xs ++ (Close ∷ rest))
inner_fits (s ∷ ss) name more rest = by_name s.is_run s.test ss name more rest (λ left. inner_fits ss left more rest)
  where
    by_name : (is_run : Bool) (test : ℕ → Bool) (ss : List (Symbol ℕ)) (name : List ℕ) (more : List (Symbol Token))
        (rest : List Token)
        → ((left : List ℕ) → fits (map lifted ss ++ closing more) (map Byte left ++ (Close ∷ rest))
        ≡ (fits ss left && fits more rest))
        → fits (symbol is_run (on_bytes test) ∷ (map lifted ss ++ closing more)) (map Byte name ++ (Close ∷ rest))
        ≡ (fits (symbol is_run test ∷ ss) name && fits more rest)
    by_name true test ss [] more rest h =
        fits-more true (on_bytes test) (map lifted ss ++ closing more) Close rest
        ∙ (or_false (fits (map lifted ss ++ closing more) (Close ∷ rest))
        ∙ (h [] ∙ ap (λ b. b && fits more rest) (sym (fits-none true test ss))))
    by_name false test ss [] more rest h =
        fits-more false (on_bytes test) (map lifted ss ++ closing more) Close rest ∙ ap (λ b. b && fits more rest)
        (sym (fits-none false test ss))
    by_name true test ss (x ∷ xs) more rest h =
        fits-more true (on_bytes test) (map lifted ss ++ closing more) (Byte x) (map Byte xs ++ (Close ∷ rest))
        ∙ (ap (λ b. b || (test x && fits (symbol true (on_bytes test) ∷ (map lifted ss ++ closing more))
        (map Byte xs ++ (Close ∷ rest)))) (h (x ∷ xs))
        ∙ (ap (λ b. (fits ss (x ∷ xs) && fits more rest) || (test x && b)) (by_name true test ss xs more rest h)
        ∙ (parts_or (fits ss (x ∷ xs)) (test x) (fits (symbol true test ∷ ss) xs) (fits more rest)
        ∙ ap (λ b. b && fits more rest) (sym (fits-more true test ss x xs)))))
    by_name false test ss (x ∷ xs) more rest h =
        fits-more false (on_bytes test) (map lifted ss ++ closing more) (Byte x) (map Byte xs ++ (Close ∷ rest))
        ∙ (ap (λ b. test x && b) (h xs)
        ∙ (parts_and (test x) (fits ss xs) (fits more rest) ∙ ap (λ b. b && fits more rest)
        (sym (fits-more false test ss x xs))))

-- the symbols of one component that is not `**`
named : List ℕ → List (Symbol Token)
named piece = symbol false is_open ∷ (map lifted (symbols Component piece) ++ (symbol false is_close ∷ []))

all_tokens : Symbol Token
all_tokens = symbol true (λ _. true)

piece_is : (piece : List ℕ) (is_all : Bool) → bytes_eq piece (codes "**") ≡ is_all
    → piece_symbols piece ≡ cond is_all (all_tokens ∷ []) (named piece)
unfolding named all_tokens
piece_is piece is_all h =
    ap (λ b. cond b (symbol true (λ _. true) ∷ []) (symbol false is_open ∷ (map lifted (symbols Component piece)
    ++ (symbol false is_close ∷ [])))) h

component_is : (piece : List ℕ) (is_all : Bool) → bytes_eq piece (codes "**") ≡ is_all
    → component_symbol piece ≡ symbol is_all (λ name. is_all || fits (symbols Component piece) name)
component_is piece is_all h = ap (λ b. symbol b (λ name. b || fits (symbols Component piece) name)) h

named_more : (piece name : List ℕ) (more : List (Symbol Token)) (rest : List Token)
    → fits (named piece ++ more) (Open ∷ (map Byte name ++ (Close ∷ rest))) ≡ (fits (symbols Component piece) name
    && fits more rest)
unfolding named closing
named_more piece name more rest =
    fits-more false is_open ((map lifted (symbols Component piece) ++ (symbol false is_close ∷ [])) ++ more) Open
    (map Byte name ++ (Close ∷ rest))
    ∙ (ap (λ ss. fits ss (map Byte name ++ (Close ∷ rest))) (append_assoc (map lifted (symbols Component piece))
    (symbol false is_close ∷ []) more)
    ∙ inner_open (symbols Component piece) name more rest)
  where
    inner_open : (ss : List (Symbol ℕ)) (name : List ℕ) (more : List (Symbol Token)) (rest : List Token)
        → fits (map lifted ss ++ (symbol false is_close ∷ more)) (map Byte name ++ (Close ∷ rest))
        ≡ (fits ss name && fits more rest)
    inner_open ss name more rest = inner_fits ss name more rest

pub piece_parts : (piece : List ℕ) (rest : List (Symbol Token)) → bytes_eq piece (codes "**") ≡ false
    → piece_symbols piece ++ rest ≡ symbol false is_open ∷ (map lifted (symbols Component piece)
    ++ (symbol false is_close ∷ rest))
unfolding named
piece_parts piece rest h =
    ap (λ ss. ss ++ rest) (piece_is piece false h) ∙ ap (λ ss. symbol false is_open ∷ ss)
    (append_assoc (map lifted (symbols Component piece)) (symbol false is_close ∷ []) rest)

-- what fits from inside a component on fits behind a run of tokens from its end on
skips : (pieces : List (List ℕ)) (part : List ℕ) (rest : List Token)
    → fits (flat pieces) (map Byte part ++ (Close ∷ rest)) ≡ true → fits (all_tokens ∷ flat pieces) rest ≡ true
unfolding named all_tokens
skips [] [] rest h = absurd (true≢false (sym h))
skips [] (x ∷ xs) rest h = absurd (true≢false (sym h))
skips (piece ∷ pieces) part rest h = by_piece (bytes_eq piece (codes "**")) piece pieces part rest refl (skips pieces) h
  where
    all_skipped : (pieces : List (List ℕ)) (part : List ℕ) (rest : List Token)
        → ((left : List ℕ) → fits (flat pieces) (map Byte left ++ (Close ∷ rest)) ≡ true
        → fits (all_tokens ∷ flat pieces) rest ≡ true)
        → fits (all_tokens ∷ flat pieces) (map Byte part ++ (Close ∷ rest)) ≡ true
        → fits (all_tokens ∷ flat pieces) rest ≡ true
    all_skipped pieces [] rest h fit =
        elim (or_cases _ _ (sym (fits-more true (λ _. true) (flat pieces) Close rest) ∙ fit))
        [ inl here ↦ h [] here | inr later ↦ later ]
    all_skipped pieces (x ∷ xs) rest h fit =
        elim (or_cases _ _ (sym (fits-more true (λ _. true) (flat pieces) (Byte x) (map Byte xs ++ (Close ∷ rest)))
        ∙ fit)) [
          | inl here ↦ h (x ∷ xs) here
          | inr later ↦ all_skipped pieces xs rest h later
        ]

    run_again : (ss : List (Symbol Token)) (rest : List Token) → fits ss rest ≡ true → fits (all_tokens ∷ ss) rest
        ≡ true
    run_again ss [] h = fits-none true (λ _. true) ss ∙ h
    run_again ss (x ∷ xs) h = fits-more true (λ _. true) ss x xs ∙ or_left (fits ss (x ∷ xs)) _ h

    none_inside : (piece : List ℕ) (more : List (Symbol Token)) (part : List ℕ) (rest : List Token)
        → fits (named piece ++ more) (map Byte part ++ (Close ∷ rest)) ≡ false
    none_inside piece more [] rest =
        fits-more false is_open ((map lifted (symbols Component piece) ++ (symbol false is_close ∷ [])) ++ more) Close
        rest
    none_inside piece more (x ∷ xs) rest =
        fits-more false is_open ((map lifted (symbols Component piece) ++ (symbol false is_close ∷ [])) ++ more)
        (Byte x) (map Byte xs ++ (Close ∷ rest))

    by_piece : (is_all : Bool) (piece : List ℕ) (pieces : List (List ℕ)) (part : List ℕ) (rest : List Token)
        → bytes_eq piece (codes "**") ≡ is_all
        → ((left : List ℕ) (more : List Token) → fits (flat pieces) (map Byte left ++ (Close ∷ more)) ≡ true
        → fits (all_tokens ∷ flat pieces) more ≡ true)
        → fits (flat (piece ∷ pieces)) (map Byte part ++ (Close ∷ rest)) ≡ true
        → fits (all_tokens ∷ flat (piece ∷ pieces)) rest ≡ true
    by_piece true piece pieces part rest is h fit =
        let is_flat : flat (piece ∷ pieces) ≡ all_tokens ∷ flat pieces =
        ap (λ ss. ss ++ flat pieces) (piece_is piece true is) in
        ap (λ ss. fits (all_tokens ∷ ss) rest) is_flat
        ∙ run_again (all_tokens ∷ flat pieces) rest (all_skipped pieces part rest (λ left. h left rest)
        (ap (λ ss. fits ss (map Byte part ++ (Close ∷ rest))) (sym is_flat) ∙ fit))
    by_piece false piece pieces part rest is h fit =
        let is_flat : flat (piece ∷ pieces) ≡ named piece ++ flat pieces =
        ap (λ ss. ss ++ flat pieces) (piece_is piece false is) in
        absurd (true≢false (sym (sym (none_inside piece (flat pieces) part rest)
        ∙ (ap (λ ss. fits ss (map Byte part ++ (Close ∷ rest))) (sym is_flat) ∙ fit))))

either : (a b c : Bool) → (b ≡ true → c ≡ true) → (c ≡ true → (a || b) ≡ true) → (a ≡ true → c ≡ true) → (a || b) ≡ c
either true b true h k l = refl
either true b false h k l = sym (l refl)
either false true c h k l = sym (h refl)
either false false true h k l = k refl
either false false false h k l = refl

-- a run of tokens over one component more
all_more : (pieces : List (List ℕ)) (name : List ℕ) (rest : List Token)
    → fits (all_tokens ∷ flat pieces) (map Byte name ++ (Close ∷ rest)) ≡ fits (all_tokens ∷ flat pieces) rest
unfolding all_tokens
all_more pieces [] rest =
    fits-more true (λ _. true) (flat pieces) Close rest
    ∙ either (fits (flat pieces) (Close ∷ rest)) (fits (all_tokens ∷ flat pieces) rest)
    (fits (all_tokens ∷ flat pieces) rest) (λ h. h) (λ h. or_right _ _ h) (skips pieces [] rest)
all_more pieces (x ∷ xs) rest =
    fits-more true (λ _. true) (flat pieces) (Byte x) (map Byte xs ++ (Close ∷ rest))
    ∙ (ap (λ b. fits (flat pieces) (map Byte (x ∷ xs) ++ (Close ∷ rest)) || b) (all_more pieces xs rest)
    ∙ either (fits (flat pieces) (map Byte (x ∷ xs) ++ (Close ∷ rest))) (fits (all_tokens ∷ flat pieces) rest)
    (fits (all_tokens ∷ flat pieces) rest) (λ h. h) (λ h. or_right _ _ h) (skips pieces (x ∷ xs) rest))

-- components fit components where their tokens do
pub fits-flat : (pieces names : List (List ℕ)) → fits (flat pieces) (stream names) ≡ fits (map component_symbol pieces)
    names
unfolding named all_tokens
fits-flat [] [] = refl
fits-flat [] (name ∷ names) = refl
fits-flat (piece ∷ pieces) names = by_piece (bytes_eq piece (codes "**")) piece pieces names refl (fits-flat pieces)
  where
    by_names : (piece : List ℕ) (pieces names : List (List ℕ))
        → ((left : List (List ℕ)) → fits (flat pieces) (stream left) ≡ fits (map component_symbol pieces) left)
        → fits (all_tokens ∷ flat pieces) (stream names) ≡ fits (symbol true (λ _. true) ∷ map component_symbol pieces)
        names
    by_names piece pieces [] h = fits-none true (λ _. true) (flat pieces)
        ∙ (h [] ∙ sym (fits-none true (λ _. true) (map component_symbol pieces)))
    by_names piece pieces (name ∷ names) h =
        fits-more true (λ _. true) (flat pieces) Open (map Byte name ++ (Close ∷ stream names))
        ∙ (ap (λ b. fits (flat pieces) (stream (name ∷ names)) || b) (all_more pieces name (stream names))
        ∙ (ap (λ b. b || fits (all_tokens ∷ flat pieces) (stream names)) (h (name ∷ names))
        ∙ (ap (λ b. fits (map component_symbol pieces) (name ∷ names) || b) (by_names piece pieces names h)
        ∙ sym (fits-more true (λ _. true) (map component_symbol pieces) name names))))

    by_name : (piece : List ℕ) (pieces names : List (List ℕ))
        → ((left : List (List ℕ)) → fits (flat pieces) (stream left) ≡ fits (map component_symbol pieces) left)
        → fits (named piece ++ flat pieces) (stream names)
        ≡ fits (symbol false (λ name. fits (symbols Component piece) name) ∷ map component_symbol pieces) names
    by_name piece pieces [] h = refl
    by_name piece pieces (name ∷ names) h =
        named_more piece name (flat pieces) (stream names)
        ∙ (ap (λ b. fits (symbols Component piece) name && b) (h names)
        ∙ sym (fits-more false (λ name. fits (symbols Component piece) name) (map component_symbol pieces) name names))

    by_piece : (is_all : Bool) (piece : List ℕ) (pieces names : List (List ℕ)) → bytes_eq piece (codes "**") ≡ is_all
        → ((left : List (List ℕ)) → fits (flat pieces) (stream left) ≡ fits (map component_symbol pieces) left)
        → fits (flat (piece ∷ pieces)) (stream names) ≡ fits (map component_symbol (piece ∷ pieces)) names
    by_piece true piece pieces names is h =
        ap (λ ss. fits (ss ++ flat pieces) (stream names)) (piece_is piece true is)
        ∙ (by_names piece pieces names h ∙ ap (λ s. fits (s ∷ map component_symbol pieces) names)
        (sym (component_is piece true is)))
    by_piece false piece pieces names is h =
        ap (λ ss. fits (ss ++ flat pieces) (stream names)) (piece_is piece false is)
        ∙ (by_name piece pieces names h ∙ ap (λ s. fits (s ∷ map component_symbol pieces) names)
        (sym (component_is piece false is)))
