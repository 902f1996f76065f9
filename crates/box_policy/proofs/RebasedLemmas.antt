-- What a text and a base that is given write: one policy, the one of that text with this base in the place of its own.
use Rattle.std.proofs.Common.{◌≡◌, ◌∙◌, ℕ, ◌+◌, ◌==◌, Bool, true, false, ◌&&◌, ◌||◌, not, cond, List, [], ◌∷◌, length}
use Rattle.std.proofs.Common.{map, Option, None, Some, ap, refl, sym, subst}
use Rattle.std.specs.Prelude.{codes, is_some, nat_le, unwrap_or}
use Rattle.std.proofs.lemmas.Bool.{and_parts, true≢false, false≢true}
use Rattle.toml.specs.Data.{Members, get_member}
use Rattle.box_policy.specs.declared.error.PolicyError.{PolicyError}
use Rattle.box_policy.specs.declared.policy.Kind.{Kind}
use Rattle.box_policy.specs.declared.policy.Kind.TheVariants.{Read, Write, Append, Run, Env, Assign}
use Rattle.box_policy.specs.declared.reading.Version.{Version}
use Rattle.box_policy.specs.declared.reading.Version.TheVariants.{One}
use Rattle.box_policy.specs.Paths.{can_resolve, is_absolute, is_plain, names, names_under, normal}
use Rattle.box_policy.specs.Rebased.{BaseIsFree, HasBase, WrittenUnder, base_refusal, rebased}
use Rattle.box_policy.specs.Refusals.{first, refusal, rule_refusal, rules_refusal, top_refusal, unless}
use Rattle.box_policy.specs.Rulebook.{Rulebook}
use Rattle.box_policy.specs.Tree.{is_tables, keys_pass, tables_of, text_at}
use Rattle.box_policy.specs.Wellformed.{is_component, is_pattern, is_pattern_of, is_path_pattern}
use Rattle.box_policy.specs.Words.{has_rule_keys, has_rule_values, has_wildcard, is_base, is_top_key, kind_of}
use Rattle.box_policy.specs.Words.{pattern_of, version_of}
use Rattle.box_policy.specs.Written.{Writes, WritesRule, Written}
use Rattle.std.specs.List.{AllZip, list_all}

-- ---- one policy

pub one_under : ((text : List ℕ) (book other : Rulebook) → Written text book → Written text other → book ≡ other) →
    (base : Option (List ℕ)) (text : List ℕ) (book other : Rulebook) → WrittenUnder base text book
    → WrittenUnder base text other → book ≡ other
one_under one None text book other x y = one text book other x y
one_under one (Some base) text book other x y = x.3 ∙ ap (rebased base) (one text x.0 y.0 x.1 y.1) ∙ sym y.3

-- ---- a base is a plain text

some_of : {A : Type 0} (c : Bool) (x : A) → is_some (cond c (Some x) None) ≡ c
some_of true x = refl
some_of false x = refl

plain_of : (base : List ℕ) → can_resolve base base ≡ true → is_plain base ≡ true
plain_of [] h = absurd (false≢true h)
plain_of (b ∷ bs) h = (and_parts (is_plain (b ∷ bs)) (is_absolute (b ∷ bs) || is_plain (b ∷ bs)) h).0

plain_base : (base : List ℕ) → is_base (Some base) ≡ true → is_plain base ≡ true
plain_base base h =
    let last = (and_parts (is_absolute base && not (has_wildcard base)) (is_some (normal base base)) h).1 in
    plain_of base (sym (some_of (can_resolve base base) (names_under base base)) ∙ last)

-- ---- a pattern is as good under one base as under another one

same_resolve : (base other text : List ℕ) → is_plain base ≡ is_plain other
    → can_resolve base text ≡ can_resolve other text
same_resolve base other [] h = refl
same_resolve base other (b ∷ bs) h = ap (λ p. is_plain (b ∷ bs) && (is_absolute (b ∷ bs) || p)) h

same_path : (base other pattern : List ℕ) → is_plain base ≡ is_plain other → is_path_pattern base pattern
    ≡ is_path_pattern other pattern
same_path base other pattern h =
    ap (λ s. s && list_all is_component (names pattern))
    (some_of (can_resolve base pattern) (names_under base pattern) ∙ same_resolve base other pattern h
    ∙ sym (some_of (can_resolve other pattern) (names_under other pattern)))

same_pattern : (base other : List ℕ) (kind : Kind) (pattern : List ℕ) → is_plain base ≡ is_plain other
    → is_pattern base kind pattern ≡ is_pattern other kind pattern
same_pattern base other Read pattern h = same_path base other pattern h
same_pattern base other Write pattern h = same_path base other pattern h
same_pattern base other Append pattern h = same_path base other pattern h
same_pattern base other Run pattern h = refl
same_pattern base other Env pattern h = refl
same_pattern base other Assign pattern h = refl

same_pattern_of : (base other : List ℕ) (kind : Option Kind) (pattern : Option (List ℕ))
    → is_plain base ≡ is_plain other →
    is_pattern_of base kind pattern ≡ is_pattern_of other kind pattern
same_pattern_of base other (Some kind) (Some pattern) h = same_pattern base other kind pattern h
same_pattern_of base other (Some kind) None h = refl
same_pattern_of base other None (Some pattern) h = refl
same_pattern_of base other None None h = refl

same_rule : (version : Version) (base other : List ℕ) (n : ℕ) (rule : Members) → is_plain base ≡ is_plain other →
    rule_refusal version base n rule ≡ rule_refusal version other n rule
same_rule version base other n rule h =
    ap (λ is. first (unless (has_rule_keys version rule) 4 n) (first (unless (has_rule_values rule) 5 n)
    (first (unless (nat_le (length (unwrap_or (pattern_of rule) [])) 4096) 7 n) (unless is 6 n))))
    (same_pattern_of base other (kind_of rule) (pattern_of rule) h)

same_rules : (version : Version) (base other : List ℕ) (n : ℕ) (rules : List Members) → is_plain base ≡ is_plain other →
    rules_refusal version base n rules ≡ rules_refusal version other n rules
same_rules version base other n [] h = refl
same_rules version base other n (rule ∷ rules) h =
    ap (λ why. first why (rules_refusal version base (n + 1) rules)) (same_rule version base other n rule h)
    ∙ ap (λ why. first (rule_refusal version other n rule) why) (same_rules version base other (n + 1) rules h)

-- ---- a document that is not refused

some_is_none : (e : PolicyError) → Some e ≡ None → ⊥
some_is_none e h = cc

both : (one other : Option PolicyError) → first one other ≡ None → (one ≡ None) × (other ≡ None)
both None other h = (refl, h)
both (Some e) other h = absurd (some_is_none e h)

neither : (one other : Option PolicyError) → one ≡ None → other ≡ None → first one other ≡ None
neither None other h is = is
neither (Some e) other h is = absurd (some_is_none e h)

holds : (test : Bool) (code rule : ℕ) → unless test code rule ≡ None → test ≡ true
holds true code rule h = refl
holds false code rule h = absurd (some_is_none _ h)

met : (test : Bool) (code rule : ℕ) → test ≡ true → unless test code rule ≡ None
met true code rule h = refl
met false code rule h = absurd (false≢true h)

-- what stands behind each of the first refusals
abbrev of_count : Members → Option PolicyError
of_count tree = unless (nat_le (length (tables_of (get_member (codes "rule") tree))) 1024) 7 0

abbrev from_tables : Members → Option PolicyError
from_tables tree = first (unless (is_tables (get_member (codes "rule") tree)) 5 0) (of_count tree)

abbrev from_base : Members → Option PolicyError
from_base tree = first (unless (is_base (text_at (codes "base") tree)) 3 0) (from_tables tree)

abbrev from_version : Members → Option PolicyError
from_version tree = first (unless (is_some (version_of tree)) 2 0) (from_base tree)

abbrev of_rules : Members → Option PolicyError
of_rules tree = rules_refusal (unwrap_or (version_of tree) One) (unwrap_or (text_at (codes "base") tree) []) 1
    (tables_of (get_member (codes "rule") tree))

pub base_is_free : BaseIsFree
base_is_free tree other base book writes given has =
    let v = unwrap_or (version_of tree) One in
    let top = both (top_refusal tree) (of_rules tree) writes.accepted in
    let keys = both (unless (keys_pass is_top_key tree) 4 0) (from_version tree) top.0 in
    let version = both (unless (is_some (version_of tree)) 2 0) (from_base tree) keys.1 in
    let own = both (unless (is_base (text_at (codes "base") tree)) 3 0) (from_tables tree) version.1 in
    let tables = both (unless (is_tables (get_member (codes "rule") tree)) 5 0) (of_count tree) own.1 in
    let is_own : is_base (Some book.base) ≡ true = sym (ap is_base writes.base)
    ∙ holds (is_base (text_at (codes "base") tree)) 3 0 own.0 in
    let is_given : is_base (Some base) ≡ true = holds (is_base (Some base)) 3 0 given in
    let plain : is_plain base ≡ is_plain book.base = plain_base base is_given ∙ sym (plain_base book.base is_own) in
    let count_other : of_count other ≡ None = ap (λ d. unless (nat_le (length (tables_of d)) 1024) 7 0) has.rules
    ∙ tables.1 in
    let tables_other : from_tables other ≡ None =
    neither (unless (is_tables (get_member (codes "rule") other)) 5 0) (of_count other)
    (met (is_tables (get_member (codes "rule") other)) 5 0 (ap is_tables has.rules
    ∙ holds (is_tables (get_member (codes "rule") tree)) 5 0 tables.0)) count_other in
    let base_other : from_base other ≡ None =
    neither (unless (is_base (text_at (codes "base") other)) 3 0) (from_tables other)
    (met (is_base (text_at (codes "base") other)) 3 0 (ap is_base has.base_is ∙ is_given)) tables_other in
    let version_other : from_version other ≡ None =
    neither (unless (is_some (version_of other)) 2 0) (from_base other)
    (met (is_some (version_of other)) 2 0 (ap is_some has.version ∙ holds (is_some (version_of tree)) 2 0 version.0))
    base_other in
    let top_other : top_refusal other ≡ None =
    neither (unless (keys_pass is_top_key other) 4 0) (from_version other)
    (met (keys_pass is_top_key other) 4 0 has.keys) version_other in
    let rules_other : of_rules other ≡ None =
    ap (λ w. rules_refusal (unwrap_or w One) (unwrap_or (text_at (codes "base") other) []) 1
    (tables_of (get_member (codes "rule") other))) has.version
    ∙ ap (λ t. rules_refusal v (unwrap_or t []) 1 (tables_of (get_member (codes "rule") other))) has.base_is
    ∙ ap (λ d. rules_refusal v base 1 (tables_of d)) has.rules
    ∙ same_rules v base book.base 1 (tables_of (get_member (codes "rule") tree)) plain
    ∙ sym (ap (λ t. rules_refusal v (unwrap_or t []) 1 (tables_of (get_member (codes "rule") tree))) writes.base)
    ∙ top.1 in
    record {
      accepted = neither (top_refusal other) (of_rules other) top_other rules_other;
      base = has.base_is;
      rules = subst (λ d. AllZip WritesRule (tables_of d) book.rules) (sym has.rules) writes.rules;
    }
