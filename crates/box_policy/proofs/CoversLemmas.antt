-- A rule that speaks of a subject stands on one of the shelves that are looked at.
use Rattle.std.proofs.Common.{◌≡◌, ◌∙◌, ℕ, zero, suc, Bool, true, false, ◌&&◌, ◌||◌, not, cond, List, [], ◌∷◌, ◌++◌}
use Rattle.std.proofs.Common.{map, Some, None, Option, sym, ap, refl, subst}
use Rattle.std.specs.Prelude.{nat_eq}
use Rattle.std.specs.Str.{bytes_eq}
use Rattle.std.proofs.lemmas.Bool.{true≢false, false_from_ne_true, eqb-true}
use Rattle.std.proofs.lemmas.Slice.Eq.{bytes_eq-Decides}
use Rattle.box_policy.specs.declared.deciding.Target.{Target}
use Rattle.box_policy.specs.declared.index.Group.{Group}
use Rattle.box_policy.specs.declared.index.Group.TheVariants.{Rooted, Under, Other}
use Rattle.box_policy.specs.declared.names.Names.{Names}
use Rattle.box_policy.specs.declared.policy.Kind.{Kind}
use Rattle.box_policy.specs.declared.policy.Kind.TheVariants.{Read, Write, Append, Run, Env, Assign}
use Rattle.box_policy.specs.declared.policy.Rule.{Rule}
use Rattle.box_policy.specs.declared.tokens.Sort.TheVariants.{Component}
use Rattle.box_policy.specs.Decisions.{kind_number, speaks}
use Rattle.box_policy.specs.Division.{Symbol, fits}
use Rattle.box_policy.specs.Files.{is_of_files}
use Rattle.box_policy.specs.Fits.{normal_fits, pattern_fits}
use Rattle.box_policy.specs.NamesLeft.{names_left}
use Rattle.box_policy.specs.Paths.{names, names_under, normal, is_absolute, can_resolve}
use Rattle.box_policy.specs.Patterns.{base_symbol, component_symbol, path_symbols}
use Rattle.box_policy.specs.Plain.{is_plain_pattern}
use Rattle.box_policy.specs.Shelves.{shelf, shelf_of, path_shelf, stands, first_of}
use Rattle.box_policy.specs.Targets.{IsLeft, IsTarget, leads, rooted_at, under_at, under_left, other_at}
use Rattle.box_policy.proofs.AheadLemmas.{IsShelf, first_of-same, first_of-never}
use Rattle.box_policy.proofs.BasesLemmas.{base_other, base_none}
use Rattle.box_policy.proofs.PlainLemmas.{bytes_eq-swap, component_plain}

-- the kind that has the number
kind_of_number : ℕ → Kind
kind_of_number zero = Read
kind_of_number (suc zero) = Write
kind_of_number (suc (suc zero)) = Append
kind_of_number (suc (suc (suc zero))) = Run
kind_of_number (suc (suc (suc (suc zero)))) = Env
kind_of_number (suc (suc (suc (suc (suc n))))) = Assign

numbered : (kind : Kind) → kind_of_number (kind_number kind) ≡ kind
unfolding kind_of_number
numbered Read = refl
numbered Write = refl
numbered Append = refl
numbered Run = refl
numbered Env = refl
numbered Assign = refl

same_kind : (a b : Kind) → kind_number a ≡ kind_number b → a ≡ b
same_kind a b h = sym (numbered a) ∙ (ap kind_of_number h ∙ numbered b)

-- ---- a first component

-- a plain first component fits no subject but one that begins with it
other_first : (piece : List ℕ) (pieces subject : List (List ℕ)) → is_plain_pattern Component piece ≡ true
    → ((name : List ℕ) (more : List (List ℕ)) → subject ≡ name ∷ more → bytes_eq name piece ≡ false)
    → fits (map component_symbol (piece ∷ pieces)) subject ≡ false
other_first piece pieces [] plain differs =
    ap (λ s. fits (s ∷ map component_symbol pieces) []) (component_plain piece plain) ∙ base_none piece []
    (piece ∷ []) [] (map component_symbol pieces) refl refl
other_first piece pieces (name ∷ more) plain differs =
    ap (λ s. fits (s ∷ map component_symbol pieces) (name ∷ more)) (component_plain piece plain)
    ∙ base_other piece name [] more (piece ∷ []) (name ∷ more) (map component_symbol pieces) (bytes_eq-swap piece name
    ∙ differs name more refl) refl refl

itself : (text : List ℕ) → bytes_eq text text ≡ true
itself text = (bytes_eq-Decides text text).1 refl

name_differs : (kind : Kind) (group : Group) (name piece : List ℕ)
    → bytes_eq (shelf kind group name) (shelf kind group piece) ≡ false → bytes_eq name piece ≡ false
name_differs kind group name piece h =
    false_from_ne_true (bytes_eq name piece)
    (λ t. true≢false (sym ((bytes_eq-Decides (shelf kind group name) (shelf kind group piece)).1
    (ap (shelf kind group) ((bytes_eq-Decides name piece).0 t))) ∙ h))

-- a pattern that stands on none of the shelves does not fit
covered : (base : List ℕ) (kind : Kind) (subject : List (List ℕ)) (left : Option Names) (absolute : Bool)
    (pieces : List (List ℕ)) → IsLeft base subject left
    → ((name : List ℕ) (more : List (List ℕ)) → subject ≡ name ∷ more
    → bytes_eq (shelf kind Rooted name) (path_shelf kind absolute pieces) ≡ false)
    → ((l : Names) → left ≡ Some l → (name : List ℕ) (more : List (List ℕ)) → names_left l ≡ name ∷ more
    → bytes_eq (shelf kind Under name) (path_shelf kind absolute pieces) ≡ false)
    → bytes_eq (shelf kind Other []) (path_shelf kind absolute pieces) ≡ false
    → fits (cond absolute (map component_symbol pieces) (map base_symbol (names base) ++ map component_symbol pieces))
    subject ≡ false
covered base kind subject left absolute [] behind rooted under other =
    absurd (true≢false (sym (itself (shelf kind Other [])) ∙ other))
covered base kind subject left absolute (piece ∷ pieces) behind rooted under other =
    by (is_plain_pattern Component piece) refl
  where
    wild : is_plain_pattern Component piece ≡ false → path_shelf kind absolute (piece ∷ pieces) ≡ shelf kind Other []
    wild h = ap (λ b. cond b (shelf kind (cond absolute Rooted Under) piece) (shelf kind Other [])) h

    plain : is_plain_pattern Component piece ≡ true → path_shelf kind absolute (piece ∷ pieces)
        ≡ shelf kind (cond absolute Rooted Under) piece
    plain h = ap (λ b. cond b (shelf kind (cond absolute Rooted Under) piece) (shelf kind Other [])) h

    by_left : is_plain_pattern Component piece ≡ true → path_shelf kind absolute (piece ∷ pieces)
        ≡ shelf kind Under piece → (l : Option Names) → left ≡ l → IsLeft base subject l
        → fits (map base_symbol (names base) ++ map component_symbol (piece ∷ pieces)) subject ≡ false
    by_left h at None e b = b (map component_symbol (piece ∷ pieces))
    by_left h at (Some l) e b =
        b (map component_symbol (piece ∷ pieces))
        ∙ other_first piece pieces (names_left l) h
        (λ name more e2. name_differs kind Under name piece (subst (λ s. bytes_eq (shelf kind Under name) s ≡ false) at
        (under l e name more e2)))

    by_root : is_plain_pattern Component piece ≡ true → (b : Bool) → absolute ≡ b
        → fits (cond b (map component_symbol (piece ∷ pieces)) (map base_symbol (names base) ++ map component_symbol
        (piece ∷ pieces))) subject ≡ false
    by_root h true e =
        let at : path_shelf kind absolute (piece ∷ pieces) ≡ shelf kind Rooted piece =
        plain h ∙ ap (λ b. shelf kind (cond b Rooted Under) piece) e in
        other_first piece pieces subject h
        (λ name more e2. name_differs kind Rooted name piece (subst (λ s. bytes_eq (shelf kind Rooted name) s ≡ false)
        at (rooted name more e2)))
    by_root h false e =
        let at : path_shelf kind absolute (piece ∷ pieces) ≡ shelf kind Under piece =
        plain h ∙ ap (λ b. shelf kind (cond b Rooted Under) piece) e in
        by_left h at left refl behind

    by : (b : Bool) → is_plain_pattern Component piece ≡ b
        → fits (cond absolute (map component_symbol (piece ∷ pieces)) (map base_symbol (names base)
        ++ map component_symbol (piece ∷ pieces))) subject ≡ false
    by true h = by_root h absolute refl
    by false h = absurd (true≢false (sym (itself (shelf kind Other [])) ∙ subst (λ s. bytes_eq (shelf kind Other []) s
        ≡ false) (wild h) other))

-- ---- a rule

path_pattern : (base : List ℕ) (kind : Kind) (pattern subject : List ℕ) → is_of_files kind ≡ true
    → pattern_fits base kind pattern subject ≡ normal_fits (path_symbols base pattern) (normal base subject)
path_pattern base Read pattern subject h = refl
path_pattern base Write pattern subject h = refl
path_pattern base Append pattern subject h = refl
path_pattern base Run pattern subject h = absurd (true≢false (sym h))
path_pattern base Env pattern subject h = absurd (true≢false (sym h))
path_pattern base Assign pattern subject h = absurd (true≢false (sym h))

unfit : (path : List (Symbol (List ℕ))) (names : List (List ℕ)) (b : Bool) → fits path names ≡ false
    → normal_fits path (cond b (Some names) None) ≡ false
unfit path names true h = h
unfit path names false h = refl

no_pattern : (a b : Bool) → (a && b && false) ≡ false
no_pattern true true = refl
no_pattern true false = refl
no_pattern false b = refl

pub covers : (base : List ℕ) (kind : Kind) (subject : List ℕ) (given : Bool) (target : Target)
    → IsTarget base kind subject target → (rule : Rule)
    → rooted_at target rule ≡ false → under_at target rule ≡ false → other_at target rule ≡ false
    → speaks base rule kind subject given ≡ false
covers base kind subject given target t rule a b c = by (nat_eq (kind_number rule.kind) (kind_number kind)) refl
  where
    place_is : rule.kind ≡ kind → (f : Bool) → is_of_files kind ≡ f
        → shelf_of rule ≡ cond f (path_shelf kind (is_absolute rule.pattern) (names rule.pattern)) (shelf kind Other [])
    place_is e f h = λ i. cond ((ap is_of_files e ∙ h) i) (path_shelf (e i) (is_absolute rule.pattern)
        (names rule.pattern)) (shelf (e i) Other [])

    other : stands (shelf kind Other []) rule ≡ false
    other = sym (ap (λ k. stands (shelf k Other []) rule) t.of_kind) ∙ c

    rooted : is_of_files kind ≡ true → (name : List ℕ) (more : List (List ℕ)) → names_under base subject ≡ name ∷ more
        → bytes_eq (shelf kind Rooted name) (shelf_of rule) ≡ false
    rooted f name more e =
        sym (λ i. cond ((ap is_of_files t.of_kind ∙ f) i) (leads (t.of_kind i) Rooted ((t.names ∙ e) i) rule) false) ∙ a

    under : is_of_files kind ≡ true → (l : Names) → target.left ≡ Some l → (name : List ℕ) (more : List (List ℕ))
        → names_left l ≡ name ∷ more → bytes_eq (shelf kind Under name) (shelf_of rule) ≡ false
    under f l e name more e2 =
        sym ((λ i. cond ((ap is_of_files t.of_kind ∙ f) i) (under_left (t.of_kind i) (e i) rule) false)
        ∙ ap (λ ns. leads kind Under ns rule) e2) ∙ b

    of_kind : rule.kind ≡ kind → (f : Bool) → is_of_files kind ≡ f → pattern_fits base kind rule.pattern subject ≡ false
    of_kind e false f = absurd
        (true≢false (sym (itself (shelf kind Other [])) ∙ subst (λ s. bytes_eq (shelf kind Other []) s ≡ false)
        (place_is e false f) other))
    of_kind e true f =
        path_pattern base kind rule.pattern subject f
        ∙ unfit (path_symbols base rule.pattern) (names_under base subject) (can_resolve base subject)
        (covered base kind (names_under base subject) target.left (is_absolute rule.pattern) (names rule.pattern)
        (t.left f)
        (λ name more e2. subst (λ s. bytes_eq (shelf kind Rooted name) s ≡ false) (place_is e true f)
        (rooted f name more e2))
        (λ l e2 name more e3. subst (λ s. bytes_eq (shelf kind Under name) s ≡ false) (place_is e true f)
        (under f l e2 name more e3))
        (subst (λ s. bytes_eq (shelf kind Other []) s ≡ false) (place_is e true f) other))

    by : (same : Bool) → nat_eq (kind_number rule.kind) (kind_number kind) ≡ same → speaks base rule kind subject given
        ≡ false
    by false h = rw h refl
    by true h =
        rw (of_kind (same_kind rule.kind kind (eqb-true (kind_number rule.kind) (kind_number kind) h))
        (is_of_files kind) refl)
        (no_pattern (nat_eq (kind_number rule.kind) (kind_number kind)) (given || not rule.only_given))

-- ---- the rules of a shelf

stands_shelf : (place : List ℕ) → IsShelf (stands place)
stands_shelf place rule h other = ap (λ s. bytes_eq s (shelf_of other)) ((bytes_eq-Decides place (shelf_of rule)).0 h)

never_shelf : IsShelf (λ _. false)
never_shelf rule h other = absurd (true≢false (sym h))

leads_shelf : (kind : Kind) (group : Group) (subject : List (List ℕ)) → IsShelf (leads kind group subject)
leads_shelf kind group [] = never_shelf
leads_shelf kind group (name ∷ more) = stands_shelf (shelf kind group name)

cond_shelf : (b : Bool) (test : Rule → Bool) → IsShelf test → IsShelf (λ rule. cond b (test rule) false)
cond_shelf true test h = h
cond_shelf false test h = never_shelf

under_shelf : (kind : Kind) (left : Option Names) → IsShelf (under_left kind left)
under_shelf kind None = never_shelf
under_shelf kind (Some l) = leads_shelf kind Under (names_left l)

pub rooted_at-shelf : (target : Target) → IsShelf (rooted_at target)
rooted_at-shelf target = cond_shelf (is_of_files target.kind) (leads target.kind Rooted (names_left target.names))
    (leads_shelf target.kind Rooted (names_left target.names))

pub under_at-shelf : (target : Target) → IsShelf (under_at target)
under_at-shelf target = cond_shelf (is_of_files target.kind) (under_left target.kind target.left)
    (under_shelf target.kind target.left)

pub other_at-shelf : (target : Target) → IsShelf (other_at target)
other_at-shelf target = stands_shelf (shelf target.kind Other [])

-- ---- the first rule of a shelf

none_first : (test : Rule → Bool) (rules : List Rule) → ((rule : Rule) → test rule ≡ false)
    → None ≡ first_of test 1 rules
none_first test rules none = sym (first_of-same test (λ _. false) 1 rules none ∙ first_of-never 1 rules)

pub none_leads : (kind : Kind) (group : Group) (subject : List (List ℕ)) (rules : List Rule) → subject ≡ []
    → None ≡ first_of (leads kind group subject) 1 rules
none_leads kind group subject rules e = none_first (leads kind group subject) rules
    (λ rule. ap (λ s. leads kind group s rule) e)

pub none_rooted : (target : Target) (rules : List Rule) → is_of_files target.kind ≡ false
    → None ≡ first_of (rooted_at target) 1 rules
none_rooted target rules h = none_first (rooted_at target) rules
    (λ rule. ap (λ b. cond b (leads target.kind Rooted (names_left target.names) rule) false) h)

pub none_under : (target : Target) (rules : List Rule) → is_of_files target.kind ≡ false
    → None ≡ first_of (under_at target) 1 rules
none_under target rules h = none_first (under_at target) rules
    (λ rule. ap (λ b. cond b (under_left target.kind target.left rule) false) h)

pub none_left : (target : Target) (rules : List Rule) → is_of_files target.kind ≡ true → target.left ≡ None
    → None ≡ first_of (under_at target) 1 rules
none_left target rules h e =
    none_first (under_at target) rules (λ rule. λ i. cond (h i) (under_left target.kind (e i) rule) false)

pub first_under : (target : Target) (rules : List Rule) (left : Names) → is_of_files target.kind ≡ true
    → target.left ≡ Some left
    → first_of (leads target.kind Under (names_left left)) 1 rules ≡ first_of (under_at target) 1 rules
first_under target rules left h e =
    sym (first_of-same (under_at target) (leads target.kind Under (names_left left)) 1 rules
    (λ rule. λ i. cond (h i) (under_left target.kind (e i) rule) false))
