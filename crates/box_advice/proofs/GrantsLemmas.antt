-- The rules that a policy gains are exact ones of the wishes, and each wish that is owed one has one that speaks of it.
use Rattle.std.proofs.Common.{◌≡◌, ◌∙◌, ℕ, zero, suc, ◌+◌, ◌<◌, ◌≤◌, Bool, true, false, not, ◌&&◌, ◌||◌, List, [], ◌∷◌}
use Rattle.std.proofs.Common.{◌++◌, length, length-append, get_or, drop, Option, Some, None, inl, inr, sym, ap, refl}
use Rattle.std.proofs.Common.{subst, arith}
use Rattle.std.proofs.lemmas.List.{drop_all}
use Rattle.std.specs.Prelude.{◌⊎◌, Contains, IfSome, nat_eq, nat_le, slice_index_or}
use Rattle.std.proofs.lemmas.Bool.{true≢false, and_parts, and_from, leb-true}
use Rattle.std.proofs.lemmas.List.Folds.{list_any-append}
use Rattle.box_policy.specs.declared.policy.Decision.{Decision}
use Rattle.box_policy.specs.declared.policy.Decision.TheVariants.{Allow, Deny, NoRule}
use Rattle.box_policy.specs.declared.policy.Kind.{Kind}
use Rattle.box_policy.specs.declared.policy.Kind.TheVariants.{Read, Write, Append, Run, Env, Assign}
use Rattle.box_policy.specs.declared.policy.Rule.{Rule}
use Rattle.box_policy.specs.Decisions.{kind_number, speaks}
use Rattle.box_policy.specs.Exact.{is_exact}
use Rattle.box_policy.specs.Fits.{pattern_fits}
use Rattle.box_policy.specs.Rulebook.{Rulebook}
use Rattle.box_advice.specs.Proposals.{IsWished}
use Rattle.box_advice.specs.Wishes.{answer, fate_at, fate_by, fate_of, gained, gained_by, grant, grants_from, is_given}
use Rattle.box_advice.specs.Wishes.{is_offered, speak, IsGained}
use Rattle.box_advice.specs.declared.wanting.Fate.{Fate}
use Rattle.box_advice.specs.declared.wanting.Fate.TheVariants.{Unknown, Gains}
use Rattle.box_advice.specs.declared.wishes.Wish.{Wish}
use Rattle.box_advice.proofs.CoversLemmas.{speaks_parts}
use Rattle.box_advice.proofs.ExactLemmas.{exact_alone, exact_fits, one_number, same_kind}

-- ---- a wish among the wishes

abbrev pub In : List Wish → Wish → Type 0
In [] wish = ⊥
In (x ∷ xs) wish = (x ≡ wish) ⊎ In xs wish

in_at : (xs : List Wish) (wish : Wish) (k : ℕ) → k < length xs → slice_index_or xs k wish ≡ wish → In xs wish
in_at [] wish k below is = absurd (omega arith)
in_at (x ∷ xs) wish zero below is = inl is
in_at (x ∷ xs) wish (suc k) below is = inr (in_at xs wish k (omega arith) is)

pub in_from : (xs : List Wish) (wish : Wish) → Contains xs wish → In xs wish
in_from xs wish c = in_at xs wish c.0 c.1 c.2

contains_next : (x : Wish) (xs : List Wish) (wish : Wish) → Contains xs wish → Contains (x ∷ xs) wish
contains_next x xs wish c = (suc c.0, omega (arith, c.1), c.2)

pub contains_from : (xs : List Wish) (wish : Wish) → In xs wish → Contains xs wish
contains_from [] wish h = absurd h
contains_from (x ∷ xs) wish (inl is) = (0, omega arith, is)
contains_from (x ∷ xs) wish (inr more) = contains_next x xs wish (contains_from xs wish more)

-- ---- an exact rule

-- it speaks of its own text
own_source : (given : Bool) → (given || not given) ≡ true
own_source true = refl
own_source false = refl

pub grant_speaks : (base : List ℕ) (kind : Kind) (text : List ℕ) (given : Bool) → is_exact base kind text ≡ true
    → speaks base (grant kind text given) kind text given ≡ true
grant_speaks base kind text given exact =
    and_from (nat_eq (kind_number kind) (kind_number kind) && (given || not given)) (pattern_fits base kind text text)
    (and_from (nat_eq (kind_number kind) (kind_number kind)) (given || not given) (one_number kind) (own_source given))
    (exact_fits base kind text exact)

-- the rule is the exact one of a wish
pub record IsGrantOf (base : List ℕ) (wishes : List Wish) (rule : Rule) : Type 0 where
  pub wish : Wish
  pub text : List ℕ
  pub is_one : Contains wishes wish
  pub known : wish.text ≡ Some text
  pub exact : is_exact base wish.kind text ≡ true
  pub asked : is_offered wish.kind ≡ false
  pub is : rule ≡ grant wish.kind text (is_given wish)

source_of : (given only : Bool) → (given || not only) ≡ true → only ≡ true → given ≡ true
source_of true only h is = refl
source_of false true h is = absurd (true≢false (sym h))
source_of false false h is = absurd (true≢false (sym is))

wished_by : (base : List ℕ) (wish : Wish) (text : List ℕ) (kind : Kind) (subject : List ℕ) (given : Bool)
    → wish.text ≡ Some text → is_exact base wish.kind text ≡ true
    → is_offered wish.kind ≡ false → speaks base (grant wish.kind text (is_given wish)) kind subject given ≡ true
    → IsWished base kind subject given wish
wished_by base wish text kind subject given known exact asked spoken =
    let p = speaks_parts (nat_eq (kind_number wish.kind) (kind_number kind)) (given || not (is_given wish))
    (pattern_fits base kind text subject) spoken in
    let same : wish.kind ≡ kind = same_kind wish.kind kind p.0 in
    record {
      of_kind = same;
      asked = ap is_offered (sym same) ∙ asked;
      as_given = source_of given (is_given wish) p.1.0;
      text = text;
      known = known;
      same = exact_alone base kind text subject (ap (λ k. is_exact base k text) (sym same) ∙ exact) p.1.1;
    }

-- what it speaks of was wished
pub wished : (base : List ℕ) (wishes : List Wish) (rule : Rule) (of : IsGrantOf base wishes rule) (kind : Kind)
    (subject : List ℕ) (given : Bool)
    → speaks base rule kind subject given ≡ true → IsWished base kind subject given of.wish
wished base wishes rule of kind subject given spoken =
    wished_by base of.wish of.text kind subject given of.known of.exact of.asked
    (ap (λ r. speaks base r kind subject given) (sym of.is) ∙ spoken)

-- ---- the rules that are gained

abbrev pub AreGrants : List ℕ → List Wish → List Rule → Type 0
AreGrants base wishes [] = Unit {0}
AreGrants base wishes (rule ∷ rules) = IsGrantOf base wishes rule × AreGrants base wishes rules

AreGrants-append : (base : List ℕ) (wishes : List Wish) (xs ys : List Rule) → AreGrants base wishes xs
    → AreGrants base wishes ys → AreGrants base wishes (xs ++ ys)
AreGrants-append base wishes [] ys h k = k
AreGrants-append base wishes (x ∷ xs) ys h k = (h.0, AreGrants-append base wishes xs ys h.1 k)

gained_by_fate : (base : List ℕ) (wishes : List Wish) (wish : Wish) (text : List ℕ) (decided : Decision)
    (exact offered met : Bool)
    → (exact ≡ true → offered ≡ false → IsGrantOf base wishes (grant wish.kind text (is_given wish)))
    → AreGrants base wishes (gained_by (fate_by decided exact offered met) wish (Some text))
unfolding fate_by gained_by
gained_by_fate base wishes wish text (Allow n) exact offered met one = tt
gained_by_fate base wishes wish text (Deny n) exact offered met one = tt
gained_by_fate base wishes wish text NoRule false offered met one = tt
gained_by_fate base wishes wish text NoRule true true met one = tt
gained_by_fate base wishes wish text NoRule true false true one = tt
gained_by_fate base wishes wish text NoRule true false false one = (one refl refl, tt)

gained_none : (base : List ℕ) (wishes : List Wish) (wish : Wish) → AreGrants base wishes (gained_by Unknown wish None)
unfolding gained_by
gained_none base wishes wish = tt

gained_at : (first : Rulebook) (rules : List Rule) (wishes : List Wish) (wish : Wish) (text : Option (List ℕ))
    → Contains wishes wish → wish.text ≡ text
    → AreGrants first.base wishes (gained_by (fate_at first rules wish text) wish text)
gained_at first rules wishes wish None is_one known = gained_none first.base wishes wish
gained_at first rules wishes wish (Some text) is_one known =
    gained_by_fate first.base wishes wish text (answer first wish text) (is_exact first.base wish.kind text)
    (is_offered wish.kind)
    (speak first.base rules wish.kind text (is_given wish))
    (λ exact asked. record {
      wish = wish;
      text = text;
      is_one = is_one;
      known = known;
      exact = exact;
      asked = asked;
      is = refl;
    })

pub grants : (first : Rulebook) (all : List Wish) (rules : List Rule) (wishes : List Wish)
    → ((wish : Wish) → In wishes wish → In all wish)
    → AreGrants first.base all rules → AreGrants first.base all (grants_from first rules wishes)
grants first all rules [] inside so_far = so_far
grants first all rules (wish ∷ wishes) inside so_far =
    grants first all (rules ++ gained first rules wish) wishes (λ w h. inside w (inr h))
    (AreGrants-append first.base all rules (gained first rules wish) so_far
    (gained_at first rules all wish wish.text (contains_from all wish (inside wish (inl refl))) refl))

-- ---- a wish that is owed a rule

or_left : (a b : Bool) → a ≡ true → (a || b) ≡ true
or_left true b h = refl
or_left false b h = absurd (true≢false (sym h))

or_right : (a b : Bool) → b ≡ true → (a || b) ≡ true
or_right true b h = refl
or_right false b h = h

speak-more : (base : List ℕ) (xs ys : List Rule) (kind : Kind) (text : List ℕ) (given : Bool)
    → speak base xs kind text given ≡ true
    → speak base (xs ++ ys) kind text given ≡ true
speak-more base xs ys kind text given h =
    list_any-append (λ rule. speaks base rule kind text given) xs ys ∙ or_left (speak base xs kind text given)
    (speak base ys kind text given) h

speak-new : (base : List ℕ) (xs ys : List Rule) (kind : Kind) (text : List ℕ) (given : Bool)
    → speak base ys kind text given ≡ true
    → speak base (xs ++ ys) kind text given ≡ true
speak-new base xs ys kind text given h =
    list_any-append (λ rule. speaks base rule kind text given) xs ys ∙ or_right (speak base xs kind text given)
    (speak base ys kind text given) h

stays : (first : Rulebook) (rules : List Rule) (wishes : List Wish) (kind : Kind) (text : List ℕ) (given : Bool)
    → speak first.base rules kind text given ≡ true
    → speak first.base (grants_from first rules wishes) kind text given ≡ true
stays first rules [] kind text given h = h
stays first rules (wish ∷ wishes) kind text given h =
    stays first (rules ++ gained first rules wish) wishes kind text given
    (speak-more first.base rules (gained first rules wish) kind text given h)

spoken_by_fate : (base : List ℕ) (rules : List Rule) (wish : Wish) (text : List ℕ) (decided : Decision)
    (exact offered met : Bool) → decided ≡ NoRule → exact ≡ true
    → offered ≡ false → is_exact base wish.kind text ≡ true → speak base rules wish.kind text (is_given wish) ≡ met
    → speak base (rules ++ gained_by (fate_by decided exact offered met) wish (Some text)) wish.kind text
    (is_given wish) ≡ true
unfolding fate_by gained_by
spoken_by_fate base rules wish text (Allow n) exact offered met undecided is_so asked of spoken = cc
spoken_by_fate base rules wish text (Deny n) exact offered met undecided is_so asked of spoken = cc
spoken_by_fate base rules wish text NoRule false offered met undecided is_so asked of spoken =
    absurd (true≢false (sym is_so))
spoken_by_fate base rules wish text NoRule true true met undecided is_so asked of spoken = absurd (true≢false asked)
spoken_by_fate base rules wish text NoRule true false true undecided is_so asked of spoken =
    speak-more base rules [] wish.kind text (is_given wish) spoken
spoken_by_fate base rules wish text NoRule true false false undecided is_so asked of spoken =
    speak-new base rules (grant wish.kind text (is_given wish) ∷ []) wish.kind text (is_given wish)
    (or_left (speaks base (grant wish.kind text (is_given wish)) wish.kind text (is_given wish)) false
    (grant_speaks base wish.kind text (is_given wish) of))

spoken_at : (first : Rulebook) (rules : List Rule) (wish : Wish) (text : List ℕ) (known : Option (List ℕ))
    → known ≡ Some text
    → answer first wish text ≡ NoRule → is_exact first.base wish.kind text ≡ true → is_offered wish.kind ≡ false
    → speak first.base (rules ++ gained_by (fate_at first rules wish known) wish known) wish.kind text (is_given wish)
    ≡ true
spoken_at first rules wish text known is undecided exact asked =
    subst (λ (t : Option (List ℕ)). speak first.base (rules ++ gained_by (fate_at first rules wish t) wish t) wish.kind
    text (is_given wish) ≡ true) (sym is)
    (spoken_by_fate first.base rules wish text (answer first wish text) (is_exact first.base wish.kind text)
    (is_offered wish.kind)
    (speak first.base rules wish.kind text (is_given wish)) undecided exact asked exact refl)

pub spoken : (first : Rulebook) (rules : List Rule) (wishes : List Wish) (wish : Wish) (text : List ℕ) → In wishes wish
    → wish.text ≡ Some text
    → answer first wish text ≡ NoRule → is_exact first.base wish.kind text ≡ true → is_offered wish.kind ≡ false
    → speak first.base (grants_from first rules wishes) wish.kind text (is_given wish) ≡ true
spoken first rules [] wish text h known undecided exact asked = absurd h
spoken first rules (x ∷ xs) wish text (inl is) known undecided exact asked =
    stays first (rules ++ gained first rules x) xs wish.kind text (is_given wish)
    (subst (λ (y : Wish). speak first.base (rules ++ gained first rules y) wish.kind text (is_given wish) ≡ true)
    (sym is)
    (spoken_at first rules wish text wish.text known undecided exact asked))
spoken first rules (x ∷ xs) wish text (inr more) known undecided exact asked =
    spoken first (rules ++ gained first rules x) xs wish text more known undecided exact asked

-- what gains a rule may be the pattern of one
gains_by : (decided : Decision) (exact offered met : Bool) → fate_by decided exact offered met ≡ Gains → exact ≡ true
unfolding fate_by
gains_by (Allow n) exact offered met h = cc
gains_by (Deny n) exact offered met h = cc
gains_by NoRule false offered met h = cc
gains_by NoRule true offered met h = refl

gains_short_at : (first : Rulebook) (rules : List Rule) (wish : Wish) (text : Option (List ℕ))
    → fate_at first rules wish text ≡ Gains → IfSome text (λ t. length t ≤ 4096)
gains_short_at first rules wish None h = tt
gains_short_at first rules wish (Some text) h =
    leb-true (length text) 4096
    (and_parts (nat_le (length text) 4096) _
    (gains_by (answer first wish text) (is_exact first.base wish.kind text) (is_offered wish.kind)
    (speak first.base rules wish.kind text (is_given wish)) h)).0

pub gains_short : (first : Rulebook) (rules : List Rule) (wish : Wish) (fate : Fate) → fate ≡ fate_of first rules wish
    → fate ≡ Gains
    → IfSome wish.text (λ t. length t ≤ 4096)
gains_short first rules wish fate is gains = gains_short_at first rules wish wish.text (sym is ∙ gains)

-- ---- rules become more

drop_suc : {A : Type 0} (xs : List A) (i : ℕ) (d : A) → i < length xs → d ≡ get_or xs i d
    → drop i xs ≡ d ∷ drop (suc i) xs
drop_suc [] i d h e = absurd (omega arith)
drop_suc (x ∷ xs) zero d h e = ap (λ y. y ∷ xs) (sym e)
drop_suc (x ∷ xs) (suc i) d h e = drop_suc xs i d (omega arith) e

grants_grow : (first : Rulebook) (rules : List Rule) (wishes : List Wish)
    → length rules ≤ length (grants_from first rules wishes)
grants_grow first rules [] = omega arith
grants_grow first rules (wish ∷ wishes) =
    let more : length (rules ++ gained first rules wish) ≤ length (grants_from first (rules ++ gained first rules wish)
    wishes) =
    grants_grow first (rules ++ gained first rules wish) wishes in
    let size : length (rules ++ gained first rules wish) ≡ length rules + length (gained first rules wish) =
    length-append rules (gained first rules wish) in
    omega (arith, more, size)

pub gained_next : (first : Rulebook) (wishes : List Wish) (i : ℕ) (wish : Wish) (old new whole : List Rule)
    → i < length wishes → wish ≡ get_or wishes i wish
    → new ≡ old ++ gained first old wish → grants_from first old (drop i wishes) ≡ whole
    → grants_from first new (drop (i + 1) wishes) ≡ whole
gained_next first wishes i wish old new whole below is added so_far =
    let next : i + 1 ≡ suc i = omega arith in
    ap (λ ns. grants_from first ns (drop (i + 1) wishes)) added
    ∙ (ap (λ k. grants_from first (old ++ gained first old wish) (drop k wishes)) next
    ∙ (sym (ap (grants_from first old) (drop_suc wishes i wish below is)) ∙ so_far))

pub too_many : (first : Rulebook) (wishes rest : List Wish) (rules : List Rule) → grants_from first rules rest
    ≡ grants_from first [] wishes
    → 1024 < length first.rules + length rules → 1024 < length first.rules + length (grants_from first [] wishes)
too_many first wishes rest rules same many =
    let grow : length rules ≤ length (grants_from first rules rest) = grants_grow first rules rest in
    let size : length (grants_from first rules rest) ≡ length (grants_from first [] wishes) = ap length same in
    omega (arith, grow, size, many)

pub all_gained : (first : Rulebook) (wishes : List Wish) (i : ℕ) (rules : List Rule) → length wishes ≤ i
    → grants_from first rules (drop i wishes) ≡ grants_from first [] wishes
    → length first.rules + length rules ≤ 1024 → IsGained first wishes rules
all_gained first wishes i rules past same few = record {
  is = sym (ap (grants_from first rules) (drop_all i wishes past)) ∙ same;
  room = few;
}
