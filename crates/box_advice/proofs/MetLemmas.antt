-- Lemmas on the wishes of a log that were met.
use Rattle.std.proofs.Common.{◌≡◌, ℕ, Ordering, Bool, true, false, cond, ◌||◌, not, List, [], ◌∷◌, ◌++◌, refl, sym, ap}
use Rattle.std.proofs.Common.{◌∙◌}
use Rattle.std.specs.Prelude.{Vec, if◌then◌else◌}
use Rattle.std.specs.BTreeMap.{is_at}
use Rattle.std.specs.BTreeSet.{BTreeSet, contains}
use Rattle.std.specs.Cmp.Lexicographic.{slice_cmp}
use Rattle.std.specs.List.{list_any}
use Rattle.std.specs.Ordering.{nat_cmp}
use Rattle.std.specs.Str.{bytes_eq}
use Rattle.std.specs.declared.alloc.Global.{Global}
use Rattle.std.proofs.lemmas.Bool.{false≢true}
use Rattle.std.proofs.lemmas.Map.Text.{is_eq-slice_cmp}
use Rattle.box_advice.specs.Logs.{request_of, with_wish}
use Rattle.box_advice.specs.declared.wishes.Wish.{Wish}

or_true : (a : Bool) → (a || true) ≡ true
or_true true = refl
or_true false = refl

or_more : (a b c r : Bool) → r ≡ cond b true c → (a || r) ≡ cond b true (a || c)
or_more a true c r e = ap (λ x. a || x) e ∙ or_true a
or_more a false c r e = ap (λ x. a || x) e

or_false : (a : Bool) → (a || false) ≡ cond a true false
or_false true = refl
or_false false = refl

any_more : (test : Wish → Bool) (wishes : List Wish) (wish : Wish)
    → list_any test (wishes ++ wish ∷ []) ≡ cond (test wish) true (list_any test wishes)
any_more test [] wish = or_false (test wish)
any_more test (one ∷ wishes) wish = or_more (test one) (test wish) (list_any test wishes) _ (any_more test wishes wish)

abbrev pub compared : Vec ℕ Global → Vec ℕ Global → Ordering
compared one other = slice_cmp nat_cmp one.items other.items

abbrev pub asks_for : List ℕ → Wish → Bool
asks_for request wish = bytes_eq (request_of wish) request

-- one more is met
pub met_more : (wishes : List Wish) (wish : Wish) (old new : BTreeSet (Vec ℕ Global)) (key : Vec ℕ Global)
    → key.items ≡ request_of wish
    → ((q : Vec ℕ Global) → contains compared new q ≡ cond (is_at (compared key) q) true (contains compared old q))
    → ((q : Vec ℕ Global) → contains compared old q ≡ list_any (asks_for q.items) wishes)
    → (q : Vec ℕ Global) → contains compared new q ≡ list_any (asks_for q.items) (wishes ++ wish ∷ [])
met_more wishes wish old new key is updated before q =
    updated q
    ∙ ap (λ b. cond b true (contains compared old q)) (is_eq-slice_cmp key.items q.items ∙ ap (λ t. bytes_eq t q.items)
    is)
    ∙ ap (λ b. cond (asks_for q.items wish) true b) (before q)
    ∙ sym (any_more (asks_for q.items) wishes wish)

-- whether a wish was met says whether it is one of them then
pub one_more : (wishes : List Wish) (wish : Wish) (request : List ℕ) → request ≡ request_of wish
    → list_any (asks_for request) wishes ≡ false → wishes ++ wish ∷ [] ≡ with_wish wishes wish
one_more wishes wish request is new =
    ap (λ b. if b then wishes else wishes ++ wish ∷ []) (sym (ap (λ r. list_any (asks_for r) wishes) (sym is) ∙ new))

pub none_more : (wishes : List Wish) (wish : Wish) (request : List ℕ) → request ≡ request_of wish
    → list_any (asks_for request) wishes ≡ true → wishes ≡ with_wish wishes wish
none_more wishes wish request is met =
    ap (λ b. if b then wishes else wishes ++ wish ∷ []) (sym (ap (λ r. list_any (asks_for r) wishes) (sym is) ∙ met))

pub none_met : (wishes : List Wish) (met : BTreeSet (Vec ℕ Global)) → met.keys ≡ [] → wishes ≡ []
    → (q : Vec ℕ Global) → contains compared met q ≡ list_any (asks_for q.items) wishes
none_met wishes met no_key no_wish q = ap (list_any (is_at (compared q))) no_key
    ∙ sym (ap (list_any (asks_for q.items)) no_wish)

pub same_met : (wishes : List Wish) (old new : BTreeSet (Vec ℕ Global)) → new.keys ≡ old.keys
    → ((q : Vec ℕ Global) → contains compared old q ≡ list_any (asks_for q.items) wishes)
    → (q : Vec ℕ Global) → contains compared new q ≡ list_any (asks_for q.items) wishes
same_met wishes old new same before q = ap (list_any (is_at (compared q))) same ∙ before q

-- what an insertion says of a key
pub is_new : (added had : Bool) → added ≡ not had → added ≡ true → had ≡ false
is_new added true e is = absurd (false≢true (sym e ∙ is))
is_new added false e is = refl

pub is_old : (added had : Bool) → added ≡ not had → added ≡ false → had ≡ true
is_old added true e is = refl
is_old added false e is = absurd (false≢true (sym is ∙ e))
