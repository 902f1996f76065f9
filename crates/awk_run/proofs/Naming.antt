-- Which names of a script are its variables, and which its functions.
use Rattle.std.proofs.Common.{◌≡◌, ◌∙◌, ℕ, zero, suc, ◌<◌, Bool, true, false, true≢false, ◌||◌, List, [], ◌∷◌, ◌++◌}
use Rattle.std.proofs.Common.{Option, Some, None, Contains, slice_get, length, get_or, map, if◌then◌else◌, ap, sym}
use Rattle.std.proofs.Common.{refl, subst, arith}
use Rattle.std.specs.List.{list_any}
use Rattle.std.specs.Str.{bytes_eq}
use Rattle.std.proofs.lemmas.List.Folds.{list_any_at, list_any-append}
use Rattle.std.proofs.lemmas.Slice.Eq.{bytes_eq-Decides}
use Rattle.awk_numbers.specs.declared.number.Numbers.{Numbers}
use Rattle.awk_tokens.specs.Words.{is_among}
use Rattle.awk_tree.specs.Tree as t
use Rattle.awk_tree.specs.Tree.{Text, Entry}
use Rattle.awk_tree.specs.declared.names.Name.{Name}
use Rattle.awk_resolve.specs.Kinds as k
use Rattle.awk_resolve.specs.Kinds.{Kind, Named, global, parameter, Forced, Defines, texts, meant, scalars, arrays}
use Rattle.awk_resolve.specs.Mentions.{part}
use Rattle.awk_resolve.specs.declared.mention.Mention.{Mention}
use Rattle.awk_resolve.specs.declared.mention.Mention.TheVariants.{Array, Call}
use Rattle.awk_resolve.specs.declared.mention.Role.{Role}
use Rattle.awk_resolve.specs.declared.mention.Role.TheVariants as role
use Rattle.awk_resolve.specs.declared.mention.Section.{Section}
use Rattle.awk_resolve.specs.Said.{defined, defined_by}
use Rattle.awk_lowering.specs.Programs.{each, functions_of}
use Rattle.awk_resolve.specs.Rolls.{added}
use Rattle.awk_resolve.specs.Tables.{Tables, given, used, all_used, own_of, outside, mentioned, behind, variables}

-- the text stands among these
abbrev pub Has : Text → List Text → Type 0
Has x xs = list_any (bytes_eq x) xs ≡ true

-- and is one of these names
abbrev Said : Text → List Name → Type 0
Said x ns = list_any (λ n. bytes_eq x n.text) ns ≡ true

or_left : (a b : Bool) → a ≡ true → (a || b) ≡ true
or_left true b e = refl
or_left false b e = absurd (true≢false (sym e))

or_right : (a b : Bool) → b ≡ true → (a || b) ≡ true
or_right true b e = refl
or_right false b e = e

has_left : (x : Text) (xs ys : List Text) → Has x xs → Has x (xs ++ ys)
has_left x xs ys h = list_any-append (bytes_eq x) xs ys ∙ or_left (list_any (bytes_eq x) xs) (list_any (bytes_eq x) ys)
    h

has_right : (x : Text) (xs ys : List Text) → Has x ys → Has x (xs ++ ys)
has_right x xs ys h = list_any-append (bytes_eq x) xs ys ∙ or_right (list_any (bytes_eq x) xs)
    (list_any (bytes_eq x) ys) h

said_left : (x : Text) (xs ys : List Name) → Said x xs → Said x (xs ++ ys)
said_left x xs ys h = list_any-append (λ n. bytes_eq x n.text) xs ys ∙ or_left (list_any (λ n. bytes_eq x n.text) xs)
    (list_any (λ n. bytes_eq x n.text) ys) h

said_right : (x : Text) (xs ys : List Name) → Said x ys → Said x (xs ++ ys)
said_right x xs ys h = list_any-append (λ n. bytes_eq x n.text) xs ys ∙ or_right (list_any (λ n. bytes_eq x n.text) xs)
    (list_any (λ n. bytes_eq x n.text) ys) h

itself : (x : Text) → bytes_eq x x ≡ true
itself x = (bytes_eq-Decides x x).1 refl

has_at : (x : Text) (xs : List Text) → Contains xs x → Has x xs
has_at x xs (k, h, e) = list_any_at (bytes_eq x) xs k x h (ap (bytes_eq x) e ∙ itself x)

-- ---- a roll of texts

has_added : (x y : Text) (xs : List Text) → Has x xs → Has x (added y xs)
has_added x y xs h = by (list_any (bytes_eq y) xs)
  where
    by : (b : Bool) → Has x (if b then xs else xs ++ y ∷ [])
    by true = h
    by false = has_left x xs (y ∷ []) h

added_has : (x : Text) (xs : List Text) → Has x (added x xs)
added_has x xs = by (list_any (bytes_eq x) xs) refl
  where
    by : (b : Bool) → list_any (bytes_eq x) xs ≡ b → Has x (if b then xs else xs ++ x ∷ [])
    by true e = e
    by false e = has_right x xs (x ∷ []) (ap (λ b. b || false) (itself x))

behind_kept : (x : Text) (old xs : List Text) → Has x old → Has x (behind old xs)
behind_kept x old [] h = h
behind_kept x old (y ∷ ys) h = behind_kept x (added y old) ys (has_added x y old h)

behind_has : (x : Text) (old xs : List Text) → Has x xs → Has x (behind old xs)
behind_has x old [] h = absurd (true≢false (sym h))
behind_has x old (y ∷ ys) h = by (bytes_eq x y) refl h (behind_has x (added y old) ys)
  where
    by : (b : Bool) → bytes_eq x y ≡ b → (b || list_any (bytes_eq x) ys) ≡ true
        → (Has x ys → Has x (behind (added y old) ys)) → Has x (behind (added y old) ys)
    by true e h rest = behind_kept x (added y old) ys (subst (λ (z : Text). Has x (added z old))
        ((bytes_eq-Decides x y).0 e) (added_has x old))
    by false e h rest = rest h

-- ---- names that are said

outside_has : (x : Text) (ps : List Text) (ns : List Name) → list_any (bytes_eq x) ps ≡ false → Said x ns
    → Has x (outside ps ns)
outside_has x ps [] free h = absurd (true≢false (sym h))
outside_has x ps (n ∷ ns) free h = by (bytes_eq x n.text) refl h (outside_has x ps ns free)
  where
    further : (b : Bool) → Has x (outside ps ns) → Has x (if b then outside ps ns else n.text ∷ outside ps ns)
    further true h = h
    further false h = or_right (bytes_eq x n.text) (list_any (bytes_eq x) (outside ps ns)) h

    here : (b : Bool) → list_any (bytes_eq n.text) ps ≡ b → x ≡ n.text
        → Has x (if b then outside ps ns else n.text ∷ outside ps ns)
    here true e same = absurd (true≢false (sym e ∙ (ap (λ z. list_any (bytes_eq z) ps) (sym same) ∙ free)))
    here false e same = or_left (bytes_eq x n.text) (list_any (bytes_eq x) (outside ps ns))
        ((bytes_eq-Decides x n.text).1 same)

    by : (b : Bool) → bytes_eq x n.text ≡ b → (b || list_any (λ m. bytes_eq x m.text) ns) ≡ true
        → (Said x ns → Has x (outside ps ns)) → Has x (outside ps (n ∷ ns))
    by true e h rest = here (list_any (bytes_eq n.text) ps) refl ((bytes_eq-Decides x n.text).0 e)
    by false e h rest = further (list_any (bytes_eq n.text) ps) (rest h)

all_used_has : (x : Text) (ms : List Mention) (m : Mention) (k : ℕ) → k < length ms → get_or ms k m ≡ m
    → Said x (used m) → Said x (all_used ms)
all_used_has x [] m k h e s = absurd (omega (arith, h))
all_used_has x (y ∷ ms) m zero h e s = said_left x (used y) (all_used ms) (subst (λ (z : Mention). Said x (used z))
    (sym e) s)
all_used_has x (y ∷ ms) m (suc k) h e s = said_right x (used y) (all_used ms)
    (all_used_has x ms m k (omega (arith, h)) e s)

abbrev says : Section → List Text
says p = outside (own_of p.role) (all_used p.mentions)

mentioned_has : (x : Text) (parts : List Section) (p : Section) (k : ℕ) → k < length parts → get_or parts k p ≡ p
    → Has x (says p) → Has x (mentioned parts)
mentioned_has x [] p k h e s = absurd (omega (arith, h))
mentioned_has x (q ∷ qs) p zero h e s = has_left x (says q) (mentioned qs) (subst (λ (z : Section). Has x (says z))
    (sym e) s)
mentioned_has x (q ∷ qs) p (suc k) h e s = has_right x (says q) (mentioned qs)
    (mentioned_has x qs p k (omega (arith, h)) e s)

given_has : (args : List (Option Name)) (i : ℕ) (n : Name) → slice_get args i ≡ Some (Some n) → Said n.text (given args)
given_has [] i n e = cc
given_has (a ∷ args) zero n e =
    let same : a ≡ Some n = cc in
    subst (λ (z : Option Name). Said n.text (given (z ∷ args))) (sym same)
    (or_left (bytes_eq n.text n.text) (list_any (λ m. bytes_eq n.text m.text) (given args)) (itself n.text))
given_has (a ∷ args) (suc i) n e = later a (given_has args i n e)
  where
    later : (b : Option Name) → Said n.text (given args) → Said n.text (given (b ∷ args))
    later None h = h
    later (Some m) h = or_right (bytes_eq n.text m.text) (list_any (λ l. bytes_eq n.text l.text) (given args)) h

-- ---- what a name is in an item

turned : (a b : Text) → bytes_eq a b ≡ bytes_eq b a
turned a b = by (bytes_eq a b) (bytes_eq b a) refl refl
  where
    by : (c d : Bool) → bytes_eq a b ≡ c → bytes_eq b a ≡ d → c ≡ d
    by true true e f = refl
    by true false e f = absurd (true≢false (sym ((bytes_eq-Decides b a).1 (sym ((bytes_eq-Decides a b).0 e))) ∙ f))
    by false true e f = absurd (true≢false (sym ((bytes_eq-Decides a b).1 (sym ((bytes_eq-Decides b a).0 f))) ∙ e))
    by false false e f = refl

among_turned : (y : Text) (xs : List Text) → list_any (bytes_eq y) xs ≡ is_among xs y
among_turned y [] = refl
among_turned y (x ∷ xs) = ap (λ b. b || list_any (bytes_eq y) xs) (turned y x) ∙ ap (λ b. bytes_eq x y || b)
    (among_turned y xs)

meant_global : (r : Role) (y x : Text) → meant r y ≡ global x → (y ≡ x) × (list_any (bytes_eq y) (own_of r) ≡ false)
meant_global role.Begin y x e = (cc, refl)
meant_global role.End y x e = (cc, refl)
meant_global role.Rule y x e = (cc, refl)
meant_global (role.Function f ps) y x e = by (is_among (texts ps) y) refl e
  where
    by : (b : Bool) → is_among (texts ps) y ≡ b → (if b then parameter f.text y else global y) ≡ global x → (y ≡ x)
        × (list_any (bytes_eq y) (texts ps) ≡ false)
    by true h e = absurd (cc)
    by false h e = (cc, among_turned y (texts ps) ∙ h)

-- ---- arrays are variables

named_variable : (parts : List Section) (p : Section) (m : Mention) (n : Name) (x : Text) → Contains parts p
    → Contains p.mentions m → Said n.text (used m) → meant p.role n.text ≡ global x → Has x (variables parts)
named_variable parts p m n x (k, h, e) (j, i, f) said is =
    let (same, free) = meant_global p.role n.text x is in
    let there : Has n.text (mentioned parts) = mentioned_has n.text parts p k h e (outside_has n.text (own_of p.role)
    (all_used p.mentions) free (all_used_has n.text p.mentions m j i f said)) in
    subst (λ (z : Text). Has z (variables parts)) same (behind_has n.text (scalars ++ arrays) (mentioned parts) there)

pub array_is_variable : (parts : List Section) (a : Named) (kind : Kind) (x : Text) → kind ≡ k.array → a ≡ global x
    → Forced parts a kind → Has x (variables parts)
array_is_variable parts a kind x e is (k.own_scalar y c) = absurd (cc)
array_is_variable parts a kind x e is (k.own_array y c) =
    let same : y ≡ x = cc in
    subst (λ (z : Text). Has z (variables parts)) same (behind_kept y (scalars ++ arrays) (mentioned parts)
    (has_right y scalars arrays (has_at y arrays c)))
array_is_variable parts a kind x e is (k.defined f ps d) = absurd (cc)
array_is_variable parts a kind x e is (k.read_or_set p n c d) = absurd (cc)
array_is_variable parts a kind x e is (k.subscripted p n c d) = named_variable parts p (Array n) n x c d
    (or_left (bytes_eq n.text n.text) false (itself n.text)) is
array_is_variable parts a kind x e is (k.measured_function p n g ps c d def h) = absurd (cc)
array_is_variable parts a kind x e is (k.handed_function r f args n g ps c d def h) = absurd (cc)
array_is_variable parts a kind x e is (k.measured r f args i n q c at tk asked forced) = absurd (cc)
array_is_variable parts a kind x e is (k.handed r f args i n q kind2 (p, c, of, d) at tk forced) =
    named_variable parts p (Call f args) n x c d (given_has args i n at) (ap (λ (z : Role). meant z n.text) of ∙ is)

-- ---- functions are those that items define

function_only : (parts : List Section) (a : Named) (kind : Kind) → kind ≡ k.function → Forced parts a kind → (g : Name)
    × (ps : List Name) × Defines parts g ps × (a ≡ global g.text)
function_only parts a kind e (k.own_scalar x c) = absurd (cc)
function_only parts a kind e (k.own_array x c) = absurd (cc)
function_only parts a kind e (k.defined f ps d) = (f, ps, d, refl)
function_only parts a kind e (k.read_or_set p n c d) = absurd (cc)
function_only parts a kind e (k.subscripted p n c d) = absurd (cc)
function_only parts a kind e (k.measured_function p n g ps c d def h) = absurd (cc)
function_only parts a kind e (k.handed_function r f args n g ps c d def h) = absurd (cc)
function_only parts a kind e (k.measured r f args i n q c at tk asked forced) = absurd (cc)
function_only parts a kind e (k.handed r f args i n q kind2 c d tk forced) =
    let (g, ps, def, same) = function_only parts (parameter f.text q.text) kind e forced in absurd (cc)

texts_append : (xs ys : List Name) → texts (xs ++ ys) ≡ texts xs ++ texts ys
texts_append [] ys = refl
texts_append (x ∷ xs) ys = ap (λ zs. x.text ∷ zs) (texts_append xs ys)

-- the functions that one item defines
abbrev own_functions : Section → List Text
own_functions p = texts (defined_by p.role)

defined_has : (x : Text) (parts : List Section) (p : Section) (k : ℕ) → k < length parts → get_or parts k p ≡ p
    → Has x (own_functions p) → Has x (texts (defined parts))
defined_has x [] p k h e s = absurd (omega (arith, h))
defined_has x (q ∷ qs) p zero h e s = rw (texts_append (defined_by q.role) (defined qs))
    (has_left x (own_functions q) (texts (defined qs)) (subst (λ (z : Section). Has x (own_functions z)) (sym e) s))
defined_has x (q ∷ qs) p (suc k) h e s = rw (texts_append (defined_by q.role) (defined qs))
    (has_right x (own_functions q) (texts (defined qs)) (defined_has x qs p k (omega (arith, h)) e s))

pub function_is_defined : (parts : List Section) (x : Text) → Forced parts (global x) k.function
    → Has x (texts (defined parts))
function_is_defined parts x forced = by (function_only parts (global x) k.function refl forced)
  where
    by : (g : Name) × (ps : List Name) × Defines parts g ps × (global x ≡ global g.text) → Has x (texts (defined parts))
    by (g, ps, (p, (k, h, e), of), is) =
        let same : x ≡ g.text = cc in
        let own : Has g.text (own_functions p) = subst (λ (z : Role). Has g.text (texts (defined_by z))) (sym of)
        (or_left (bytes_eq g.text g.text) false (itself g.text)) in
        defined_has x parts p k h e (subst (λ (z : Text). Has z (own_functions p)) (sym same) own)

-- each that an item defines is one
abbrev pub AllForced : List Section → List Text → Type 0
AllForced parts [] = Unit {0}
AllForced parts (x ∷ xs) = Forced parts (global x) k.function × AllForced parts xs

all_defined : (all parts : List Section) → ((p : Section) → Contains parts p → Contains all p)
    → AllForced all (texts (defined parts))
all_defined all [] inside = tt
all_defined all (p ∷ ps) inside =
    by p.role refl (all_defined all ps (λ q (j, h, e). inside q (suc j, omega (arith, h), e)))
  where
    by : (r : Role) → p.role ≡ r → AllForced all (texts (defined ps))
        → AllForced all (texts (defined_by r ++ defined ps))
    by role.Begin e rest = rest
    by role.End e rest = rest
    by role.Rule e rest = rest
    by (role.Function f qs) e rest = (k.defined f qs (p, inside p (zero, omega arith, refl), e), rest)

pub functions_are_forced : (parts : List Section) → AllForced parts (texts (defined parts))
functions_are_forced parts = all_defined parts parts (λ p c. c)

-- ---- the functions of a program

append_map : {A B : Type 0} (f : A → B) (xs ys : List A) → map f (xs ++ ys) ≡ map f xs ++ map f ys
append_map f [] ys = refl
append_map f (x ∷ xs) ys = ap (λ zs. f x ∷ zs) (append_map f xs ys)

one_function : (numbers : Numbers) (n : Tables) (x : Entry) → map (λ f. f.name) (functions_of numbers n x)
    ≡ texts (defined_by (part x).role)
one_function numbers n (t.at_begin xs) = refl
one_function numbers n (t.at_end xs) = refl
one_function numbers n (t.always xs) = refl
one_function numbers n (t.shown x) = refl
one_function numbers n (t.rule x xs) = refl
one_function numbers n (t.function f ps xs) = refl

pub functions_named : (numbers : Numbers) (n : Tables) (items : List Entry)
    → map (λ f. f.name) (each (functions_of numbers n) items)
    ≡ texts (defined (map part items))
functions_named numbers n [] = refl
functions_named numbers n (x ∷ xs) =
    append_map (λ f. f.name) (functions_of numbers n x) (each (functions_of numbers n) xs)
    ∙ ap (λ ys. ys ++ map (λ f. f.name) (each (functions_of numbers n) xs)) (one_function numbers n x)
    ∙ ap (λ ys. texts (defined_by (part x).role) ++ ys) (functions_named numbers n xs)
    ∙ sym (texts_append (defined_by (part x).role) (defined (map part xs)))
