-- What a policy decides with exact rules behind its own.
use Rattle.std.proofs.Common.{◌≡◌, ◌∙◌, ℕ, zero, suc, ◌+◌, Bool, true, false, not, ◌&&◌, ◌||◌, cond, List, [], ◌∷◌}
use Rattle.std.proofs.Common.{◌++◌, length, Option, Some, None, inl, inr, sym, ap, refl, arith}
use Rattle.std.specs.Prelude.{◌⊎◌, Contains, codes, option_and_then, option_map, ℤ, pos, negsuc, int_le, nat_le}
use Rattle.std.specs.Prelude.{unsigned_abs}
use Rattle.std.specs.List.{list_all, AllZip}
use Rattle.std.specs.Str.{bytes_eq}
use Rattle.std.proofs.Math.Dec.{leb-suc-zero}
use Rattle.std.proofs.lemmas.Bool.{true≢false, and_parts, and_from}
use Rattle.toml.specs.Data.{Data, Members, get_member, as_integer}
use Rattle.box_policy.specs.declared.policy.Decision.{Decision}
use Rattle.box_policy.specs.declared.policy.Decision.TheVariants.{Allow, Deny, NoRule}
use Rattle.box_policy.specs.declared.policy.Effect.{Effect}
use Rattle.box_policy.specs.declared.policy.Effect.TheVariants.{Allow as AllowIt, Deny as DenyIt}
use Rattle.box_policy.specs.declared.policy.Kind.{Kind}
use Rattle.box_policy.specs.declared.policy.Outlook.TheVariants.{Always, Never}
use Rattle.box_policy.specs.declared.policy.Quota.{Quota}
use Rattle.box_policy.specs.declared.policy.Rule.{Rule}
use Rattle.box_policy.specs.Counts.{is_limited, is_limited_by, is_used_up, is_used_up_by}
use Rattle.box_policy.specs.Decisions.{decided, decision, decision_from, is_any, is_lasting, is_left, outlook}
use Rattle.box_policy.specs.Decisions.{outlook_by, speaks}
use Rattle.box_policy.specs.Exact.{is_exact}
use Rattle.box_policy.specs.Rulebook.{Rulebook}
use Rattle.box_policy.specs.Tree.{text_at, tables_of}
use Rattle.box_policy.specs.Words.{allowing, denying, effect_named, quota_named}
use Rattle.box_policy.specs.Rebased.{WrittenUnder}
use Rattle.box_policy.specs.Written.{WritesRule, Written}
use Rattle.box_policy.proofs.OutlookLemmas.{allows, never}
use Rattle.box_advice.specs.Proposals.{Extends, IsAdded, IsKeptOut, IsOwed, IsWished, Starts, with_counts, with_gained}
use Rattle.box_advice.specs.Wishes.{answer, grants_from, is_given, is_offered, speak}
use Rattle.box_advice.specs.declared.proposing.Basis.{Basis}
use Rattle.box_advice.specs.declared.proposing.Basis.TheVariants.{Base, Policy}
use Rattle.box_advice.specs.declared.wishes.Wish.{Wish}
use Rattle.box_advice.proofs.GrantsLemmas.{AreGrants, IsGrantOf, grants, in_from, spoken, wished}

-- ---- rules behind others

abbrev or_later : Decision → Decision → Decision
or_later NoRule later = later
or_later (Allow n) later = Allow n
or_later (Deny n) later = Deny n

decided-first : (e : Effect) (n : ℕ) (later : Decision) → decided e n ≡ or_later (decided e n) later
decided-first (AllowIt quota) n later = refl
decided-first DenyIt n later = refl

append_by : (here : Bool) (e : Effect) (n : ℕ) (more later whole : Decision) → whole ≡ or_later more later
    → cond here (decided e n) whole ≡ or_later (cond here (decided e n) more) later
append_by true e n more later whole h = decided-first e n later
append_by false e n more later whole h = h

same_number : (n : ℕ) → n ≡ n + 0
same_number n = omega arith

next_number : (n k : ℕ) → (n + 1) + k ≡ n + suc k
next_number n k = omega arith

module _ (looked : Rule → Bool) (base : List ℕ) (kind : Kind) (subject : List ℕ) (given : Bool) where
  abbrev from : ℕ → List Rule → Decision
  from n rules = decision_from looked n base rules kind subject given

  decision-append : (n : ℕ) (xs ys : List Rule) → from n (xs ++ ys) ≡ or_later (from n xs) (from (n + length xs) ys)
  decision-append n [] ys = ap (λ m. from m ys) (same_number n)
  decision-append n (x ∷ xs) ys =
      append_by (looked x && speaks base x kind subject given) x.effect n (from (n + 1) xs)
      (from (n + suc (length xs)) ys) (from (n + 1) (xs ++ ys))
      (decision-append (n + 1) xs ys ∙ ap (λ m. or_later (from (n + 1) xs) (from m ys)) (next_number n (length xs)))

-- ---- exact rules

-- some rule allows, and this is why
record Allowing (d : Decision) (why : Type 0) : Type 0 where
  rule : ℕ
  is : d ≡ Allow rule
  reason : why

say_step : (look says : Bool) (e : Effect) (n : ℕ) (later : Decision) (why : Type 0) → look ≡ true → e ≡ AllowIt None
    → (says ≡ true → why)
    → (later ≡ NoRule) ⊎ Allowing later why → (cond (look && says) (decided e n) later ≡ NoRule)
    ⊎ Allowing (cond (look && says) (decided e n) later) why
say_step true true e n later why seen allowed here more =
    inr (record { rule = n; is = ap (λ f. decided f n) allowed; reason = here refl })
say_step true false e n later why seen allowed here more = more
say_step false says e n later why seen allowed here more = absurd (true≢false (sym seen))

allow_step : (look says rest : Bool) (e : Effect) (n : ℕ) (later : Decision) → look ≡ true → e ≡ AllowIt None
    → (says || rest) ≡ true
    → (rest ≡ true → Allowing later (Unit {0})) → Allowing (cond (look && says) (decided e n) later) (Unit {0})
allow_step true true rest e n later seen allowed some more = record {
  rule = n;
  is = ap (λ f. decided f n) allowed;
  reason = tt;
}
allow_step true false rest e n later seen allowed some more = more some
allow_step false says rest e n later seen allowed some more = absurd (true≢false (sym seen))

-- rules without a limit are looked at
abbrev SeesLasting : (Rule → Bool) → Type 0
SeesLasting looked = (rule : Rule) → is_limited rule ≡ false → looked rule ≡ true

left_sees : SeesLasting is_left
left_sees rule h = left_by rule.effect h
  where
    left_by : (e : Effect) → is_limited_by e ≡ false → not (is_used_up_by e) ≡ true
    left_by (AllowIt None) h = refl
    left_by (AllowIt (Some quota)) h = absurd (true≢false h)
    left_by DenyIt h = refl

lasting_sees : SeesLasting is_lasting
lasting_sees rule h = ap not h

any_sees : SeesLasting is_any
any_sees rule h = refl

module _ (looked : Rule → Bool) (sees : SeesLasting looked) (base : List ℕ) (wishes : List Wish) where
  seen : (rule : Rule) → IsGrantOf base wishes rule → looked rule ≡ true
  seen rule of = sees rule (ap is_limited of.is)

  allowed : (rule : Rule) → IsGrantOf base wishes rule → rule.effect ≡ AllowIt None
  allowed rule of = ap (λ r. r.effect) of.is

  abbrev IsAsked : Kind → List ℕ → Bool → Type 0
  IsAsked kind subject given = (wish : Wish) × Contains wishes wish × IsWished base kind subject given wish

  -- where one of them decides, a wish asked for it
  grants_say : (n : ℕ) (rules : List Rule) (kind : Kind) (subject : List ℕ) (given : Bool) → AreGrants base wishes rules
      → (decision_from looked n base rules kind subject given ≡ NoRule)
      ⊎ Allowing (decision_from looked n base rules kind subject given) (IsAsked kind subject given)
  grants_say n [] kind subject given are = inl refl
  grants_say n (rule ∷ rules) kind subject given are =
      say_step (looked rule) (speaks base rule kind subject given) rule.effect n
      (decision_from looked (n + 1) base rules kind subject given) (IsAsked kind subject given)
      (seen rule are.0) (allowed rule are.0)
      (λ says. (are.0.wish, are.0.is_one, wished base wishes rule are.0 kind subject given says))
      (grants_say (n + 1) rules kind subject given are.1)

  -- where one of them speaks, they allow
  grants_allow : (n : ℕ) (rules : List Rule) (kind : Kind) (text : List ℕ) (given : Bool) → AreGrants base wishes rules
      → speak base rules kind text given ≡ true
      → Allowing (decision_from looked n base rules kind text given) (Unit {0})
  grants_allow n [] kind text given are some = absurd (true≢false (sym some))
  grants_allow n (rule ∷ rules) kind text given are some =
      allow_step (looked rule) (speaks base rule kind text given) (speak base rules kind text given) rule.effect n
      (decision_from looked (n + 1) base rules kind text given) (seen rule are.0) (allowed rule are.0) some
      (grants_allow (n + 1) rules kind text given are.1)

-- ---- before any request no rule is used up

abbrev are_fresh : List Rule → Bool
are_fresh rules = list_all (λ rule. not (is_used_up rule)) rules

not_made : (e : Effect) (n : ℕ) → decided e n ≡ NoRule → ⊥
not_made (AllowIt quota) n h = cc
not_made DenyIt n h = cc

none_step : (left look says : Bool) (e : Effect) (n m : ℕ) (later other : Decision) → left ≡ true
    → cond (left && says) (decided e n) later ≡ NoRule
    → (later ≡ NoRule → other ≡ NoRule) → cond (look && says) (decided e m) other ≡ NoRule
none_step true look true e n m later other fresh none more = absurd (not_made e n none)
none_step true true false e n m later other fresh none more = more none
none_step true false false e n m later other fresh none more = more none
none_step false look says e n m later other fresh none more = absurd (true≢false (sym fresh))

-- then a policy that has no rule for a request has none however its rules are looked at
none_from : (looked : Rule → Bool) (n m : ℕ) (base : List ℕ) (rules : List Rule) (kind : Kind) (subject : List ℕ)
    (given : Bool) → are_fresh rules ≡ true
    → decision_from is_left n base rules kind subject given ≡ NoRule
    → decision_from looked m base rules kind subject given ≡ NoRule
none_from looked n m base [] kind subject given fresh none = refl
none_from looked n m base (rule ∷ rules) kind subject given fresh none =
    let parts = and_parts (not (is_used_up rule)) (are_fresh rules) fresh in
    none_step (not (is_used_up rule)) (looked rule) (speaks base rule kind subject given) rule.effect n m
    (decision_from is_left (n + 1) base rules kind subject given)
    (decision_from looked (m + 1) base rules kind subject given) parts.0 none
    (none_from looked (n + 1) (m + 1) base rules kind subject given parts.1)

is_made : (made e : Effect) → Some made ≡ Some e → is_used_up_by made ≡ false → is_used_up_by e ≡ false
is_made made e h fresh = let is : made ≡ e = cc in sym (ap is_used_up_by is) ∙ fresh

positive : (z : ℤ) → int_le (pos 1) z ≡ true → nat_le (unsigned_abs z) 0 ≡ false
positive (pos zero) h = absurd (true≢false (sym h))
positive (pos (suc n)) h = leb-suc-zero n
positive (negsuc n) h = absurd (true≢false (sym h))

abbrev limiting : Option Quota → Option Effect
limiting quota = option_and_then (λ q. Some (AllowIt (Some q))) quota

fresh_quota : (small : Bool) (z : ℤ) (e : Effect) → (small ≡ true → int_le (pos 1) z ≡ true)
    → limiting (cond small (Some (record { limit = unsigned_abs z; used = 0 })) None) ≡ Some e → is_used_up_by e ≡ false
fresh_quota true z e low h = is_made (AllowIt (Some (record { limit = unsigned_abs z; used = 0 }))) e h
    (positive z (low refl))
fresh_quota false z e low h = cc

fresh_limit : (number : Option ℤ) (e : Effect) → limiting (option_and_then quota_named number) ≡ Some e
    → is_used_up_by e ≡ false
fresh_limit None e h = cc
fresh_limit (Some z) e h = fresh_quota (int_le (pos 1) z && int_le z (pos 1000000)) z e
    (λ small. (and_parts (int_le (pos 1) z) (int_le z (pos 1000000)) small).0) h

fresh_named : (limit : Option Data) (e : Effect) (allow deny : Bool)
    → cond allow (allowing limit) (cond deny (denying limit) None) ≡ Some e → is_used_up_by e ≡ false
fresh_named None e true deny h = is_made (AllowIt None) e h refl
fresh_named (Some limit) e true deny h = fresh_limit (as_integer limit) e h
fresh_named None e false true h = is_made DenyIt e h refl
fresh_named (Some limit) e false true h = cc
fresh_named None e false false h = cc
fresh_named (Some limit) e false false h = cc

fresh_effect : (limit : Option Data) (word : Option (List ℕ)) (e : Effect) → option_and_then (effect_named limit) word
    ≡ Some e → is_used_up_by e ≡ false
fresh_effect limit None e h = cc
fresh_effect limit (Some word) e h = fresh_named limit e (bytes_eq word (codes "allow")) (bytes_eq word (codes "deny"))
    h

fresh_table : (table : Members) (rule : Rule) → WritesRule table rule → not (is_used_up rule) ≡ true
fresh_table table rule writes =
    ap not (fresh_effect (get_member (codes "limit") table) (text_at (codes "effect") table) rule.effect writes.effect)

fresh_tables : (tables : List Members) (rules : List Rule) → AllZip WritesRule tables rules → are_fresh rules ≡ true
fresh_tables [] [] h = refl
fresh_tables [] (rule ∷ rules) h = absurd h
fresh_tables (table ∷ tables) [] h = absurd h
fresh_tables (table ∷ tables) (rule ∷ rules) h = and_from (not (is_used_up rule)) (are_fresh rules)
    (fresh_table table rule h.0) (fresh_tables tables rules h.1)

fresh_written : (text : List ℕ) (first : Rulebook) → Written text first → are_fresh first.rules ≡ true
fresh_written text first h = fresh_tables (tables_of (get_member (codes "rule") h.tree)) first.rules h.writes.rules

fresh_under : (base : Option (List ℕ)) (text : List ℕ) (first : Rulebook) → WrittenUnder base text first
    → are_fresh first.rules ≡ true
fresh_under None text first h = fresh_written text first h
fresh_under (Some base) text first h = ap (λ (book : Rulebook). are_fresh book.rules) h.3 ∙ fresh_written text h.0 h.1

fresh_start : (start : Basis) (first : Rulebook) → Starts start first → are_fresh first.rules ≡ true
fresh_start (Base base) first h = ap (λ (book : Rulebook). are_fresh book.rules) h
fresh_start (Policy text base) first h = fresh_under (option_map (λ s. s.now) base) text.now first h

-- ---- the whole

module _ (first : Rulebook) (wishes : List Wish) (fresh : are_fresh first.rules ≡ true) where
  abbrev gains : List Rule
  gains = grants_from first [] wishes

  abbrev last : Rulebook
  last = with_gained first gains

  abbrev behind : ℕ
  behind = 1 + length first.rules

  are_grants : AreGrants first.base wishes gains
  are_grants = grants first wishes [] wishes (λ wish h. h) tt

  -- how the whole decides
  whole : (looked : Rule → Bool) (kind : Kind) (subject : List ℕ) (given : Bool)
      → decision_from looked 1 first.base last.rules kind subject given
      ≡ or_later (decision_from looked 1 first.base first.rules kind subject given)
      (decision_from looked behind first.base gains kind subject given)
  whole looked kind subject given = decision-append looked first.base kind subject given 1 first.rules gains

  lasting_allows : (kind : Kind) (text : List ℕ) (given : Bool) → decision first kind text given ≡ NoRule
      → speak first.base gains kind text given ≡ true
      → Allowing (decision_from is_lasting 1 first.base last.rules kind text given) (Unit {0})
  lasting_allows kind text given none says =
      let d = grants_allow is_lasting lasting_sees first.base wishes behind gains kind text given are_grants says in
      record {
        rule = d.rule;
        is = whole is_lasting kind text given
            ∙ (ap (λ e. or_later e (decision_from is_lasting behind first.base gains kind text given))
            (none_from is_lasting 1 1 first.base first.rules kind text given fresh none) ∙ d.is);
        reason = tt;
      }

  always_by : (one lasting : Decision) (n : ℕ) → lasting ≡ Allow n → outlook_by one lasting ≡ Always
  always_by (Allow m) lasting n h = ap (outlook_by (Allow m)) h
  always_by (Deny m) lasting n h = ap (outlook_by (Deny m)) h
  always_by NoRule lasting n h = ap (outlook_by NoRule) h

  owed_allowed : (wish : Wish) (text : List ℕ) → IsOwed first wishes wish text
      → outlook last wish.kind text (is_given wish) ≡ Always
  owed_allowed wish text owed =
      let d = lasting_allows wish.kind text (is_given wish) owed.undecided
      (spoken first [] wishes wish text (in_from wishes wish owed.is_one) owed.known owed.undecided owed.exact
      owed.asked) in
      always_by (decision_from is_any 1 first.base last.rules wish.kind text (is_given wish))
      (decision_from is_lasting 1 first.base last.rules wish.kind text (is_given wish)) d.rule d.is

  -- what it decides otherwise
  abbrev Decides : List Rule → Kind → List ℕ → Bool → Type 0
  Decides counted kind subject given =
      (decision (with_gained (with_counts first counted) gains) kind subject given
      ≡ decision (with_counts first counted) kind subject given)
      ⊎ IsAdded (with_counts first counted) (with_gained (with_counts first counted) gains) wishes kind subject given

  decides_by : (counted : List Rule) (kind : Kind) (subject : List ℕ) (given : Bool) (one later now : Decision)
      → decision (with_counts first counted) kind subject given ≡ one
      → now ≡ or_later one later → decision (with_gained (with_counts first counted) gains) kind subject given ≡ now
      → (later ≡ NoRule) ⊎ Allowing later ((wish : Wish) × Contains wishes wish
      × IsWished first.base kind subject given wish)
      → Decides counted kind subject given
  decides_by counted kind subject given (Allow n) later now was is of says = inl (of ∙ (is ∙ sym was))
  decides_by counted kind subject given (Deny n) later now was is of says = inl (of ∙ (is ∙ sym was))
  decides_by counted kind subject given NoRule later now was is of (inl none) = inl (of ∙ (is ∙ (none ∙ sym was)))
  decides_by counted kind subject given NoRule later now was is of (inr some) = inr (record {
    undecided = was;
    rule = some.rule;
    allowed = of ∙ (is ∙ some.is);
    wish = some.reason.0;
    is_one = some.reason.1;
    wished = some.reason.2;
  })

  decides : (counted : List Rule) (kind : Kind) (subject : List ℕ) (given : Bool) → Decides counted kind subject given
  decides counted kind subject given =
      decides_by counted kind subject given (decision (with_counts first counted) kind subject given)
      (decision_from is_left (1 + length counted) first.base gains kind subject given)
      (decision (with_gained (with_counts first counted) gains) kind subject given) refl
      (decision-append is_left first.base kind subject given 1 counted gains) refl
      (grants_say is_left left_sees first.base wishes (1 + length counted) gains kind subject given are_grants)

  -- what it leaves as it was
  left_by : (counted : List Rule) (kind : Kind) (subject : List ℕ) (given : Bool) → is_offered kind ≡ true
      → Decides counted kind subject given
      → decision (with_gained (with_counts first counted) gains) kind subject given
      ≡ decision (with_counts first counted) kind subject given
  left_by counted kind subject given offered (inl same) = same
  left_by counted kind subject given offered (inr added) = absurd (true≢false (sym offered ∙ added.wished.asked))

  -- what it never allows
  kept_allowed : (kind : Kind) (text : List ℕ) (given : Bool) (n : ℕ) → decision first kind text given ≡ Allow n
      → allows (decision last kind text given) ≡ true
  kept_allowed kind text given n h =
      ap allows (whole is_left kind text given
      ∙ ap (λ d. or_later d (decision_from is_left behind first.base gains kind text given)) h)

  refuses_by : (wish : Wish) (text : List ℕ) (told : Decision) (exact offered : Bool) → Contains wishes wish
      → wish.text ≡ Some text
      → outlook last wish.kind text (is_given wish) ≡ Never → answer first wish text ≡ told
      → is_exact first.base wish.kind text ≡ exact
      → is_offered wish.kind ≡ offered → IsKeptOut first wish text
  refuses_by wish text (Deny n) exact offered is_one known is_never told is_so asked = inl (n, told)
  refuses_by wish text (Allow n) exact offered is_one known is_never told is_so asked =
      absurd (true≢false (sym (kept_allowed wish.kind text (is_given wish) n told) ∙ never last wish.kind text
      (is_given wish) is_never))
  refuses_by wish text NoRule false offered is_one known is_never told is_so asked = inr (inl is_so)
  refuses_by wish text NoRule true true is_one known is_never told is_so asked = inr (inr asked)
  refuses_by wish text NoRule true false is_one known is_never told is_so asked =
      let is_always : outlook last wish.kind text (is_given wish) ≡ Always =
      owed_allowed wish text (record { is_one = is_one; known = known; undecided = told; exact = is_so; asked = asked })
      in
      cc

  pub extends : Extends first gains wishes
  extends = record {
    allows = owed_allowed;
    decides = λ counted same. decides counted;
    leaves = λ counted same kind subject given offered. left_by counted kind subject given offered
        (decides counted kind subject given);
    refuses = λ wish text is_one known is_never. refuses_by wish text (answer first wish text)
        (is_exact first.base wish.kind text) (is_offered wish.kind)
        is_one known is_never refl refl refl;
  }

pub extended : (start : Basis) (first : Rulebook) (wishes : List Wish) → Starts start first
    → Extends first (grants_from first [] wishes) wishes
extended start first wishes starts = extends first wishes (fresh_start start first starts)
