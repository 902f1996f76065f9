-- Rules that leave nothing for others.
use Rattle.std.proofs.Common.{◌≡◌, ◌∙◌, ℕ, Bool, true, false, ◌&&◌, ◌||◌, not, List, ◌++◌, map, cond, sym, ap, refl}
use Rattle.std.proofs.Common.{subst, codes, inl, inr}
use Rattle.std.specs.Prelude.{Some, None, nat_eq}
use Rattle.std.specs.List.{list_all}
use Rattle.std.specs.Str.{bytes_eq}
use Rattle.std.proofs.lemmas.Bool.{true≢false, and_parts, and_from, or_cases, not-true}
use Rattle.std.proofs.lemmas.List.{map-append}
use Rattle.std.proofs.lemmas.Slice.Eq.{bytes_eq-Decides}
use Rattle.box_policy.specs.declared.policy.Kind.{Kind}
use Rattle.box_policy.specs.declared.policy.Kind.TheVariants.{Read, Write, Append, Run, Env, Assign}
use Rattle.box_policy.specs.declared.policy.Rule.{Rule}
use Rattle.box_policy.specs.Counts.{is_limited}
use Rattle.box_policy.specs.Decisions.{kind_number}
use Rattle.box_policy.specs.Division.{fits}
use Rattle.box_policy.specs.Exact.{is_exact}
use Rattle.box_policy.specs.Fits.{pattern_fits, normal_fits}
use Rattle.box_policy.specs.Paths.{is_absolute, is_text, names, names_under, can_resolve, normal}
use Rattle.box_policy.specs.Patterns.{base_symbol, component_symbol, path_symbols, command_symbols}
use Rattle.box_advice.specs.Covers.{Covers, PatternCovers, covers, has_no_mark, is_flat, is_plain_piece, is_same}
use Rattle.box_advice.specs.Covers.{is_tree, speaks_of, takes_over, takes_wildcards}
use Rattle.box_advice.proofs.ExactLemmas.{all_plain, exact_alone, parts_of, same_fits, same_kind}
use Rattle.box_advice.proofs.TakingLemmas.{anything, components_take, tree_takes}

-- ---- paths

-- under a base that stands for itself a pattern's components are all alike
under_by : (absolute : Bool) (base pieces : List (List ℕ)) → list_all is_plain_piece base ≡ true
    → cond absolute (map component_symbol pieces) (map base_symbol base ++ map component_symbol pieces)
    ≡ map component_symbol (cond absolute pieces (base ++ pieces))
under_by true base pieces h = refl
under_by false base pieces h = ap (λ ss. ss ++ map component_symbol pieces) (sym (all_plain base h))
    ∙ sym (map-append component_symbol base pieces)

under_plain : (base pattern : List ℕ) → list_all is_plain_piece (names base) ≡ true
    → path_symbols base pattern ≡ map component_symbol (names_under base pattern)
under_plain base pattern h = under_by (is_absolute pattern) (names base) (names pattern) h

paths_by : (e l s : Bool) (es ls ss : List (List ℕ)) → takes_wildcards (cond e (Some es) None) (cond l (Some ls) None)
    ≡ true
    → normal_fits (map component_symbol es) (cond l (Some ls) None) ≡ true
    → normal_fits (map component_symbol ls) (cond s (Some ss) None) ≡ true
    → normal_fits (map component_symbol es) (cond s (Some ss) None) ≡ true
paths_by false l s es ls ss takes whole fit = absurd (true≢false (sym takes))
paths_by true false s es ls ss takes whole fit = absurd (true≢false (sym whole))
paths_by true true false es ls ss takes whole fit = absurd (true≢false (sym fit))
paths_by true true true es ls ss takes whole fit =
    elim (or_cases (is_tree es) (list_all has_no_mark es && list_all is_flat ls) takes) [
      | inl tree ↦ tree_takes es ls ss tree whole fit
      | inr flat ↦
          let p = and_parts (list_all has_no_mark es) (list_all is_flat ls) flat in
          components_take es ls ss p.0 p.1 whole fit
    ]

paths : (base e l subject : List ℕ) → (is_exact base Read base && takes_wildcards (normal base e) (normal base l))
    ≡ true
    → normal_fits (path_symbols base e) (normal base l) ≡ true → normal_fits (path_symbols base l) (normal base subject)
    ≡ true
    → normal_fits (path_symbols base e) (normal base subject) ≡ true
paths base e l subject takes whole fit =
    let p = and_parts (is_exact base Read base) (takes_wildcards (normal base e) (normal base l)) takes in
    let plain : list_all is_plain_piece (names base) ≡ true = (parts_of base Read base p.0).1 in
    ap (λ ss. normal_fits ss (normal base subject)) (under_plain base e plain)
    ∙ paths_by (can_resolve base e) (can_resolve base l) (can_resolve base subject) (names_under base e)
    (names_under base l) (names_under base subject) p.1
    (sym (ap (λ ss. normal_fits ss (normal base l)) (under_plain base e plain)) ∙ whole)
    (sym (ap (λ ss. normal_fits ss (normal base subject)) (under_plain base l plain)) ∙ fit)

-- ---- commands

whole_command : (earlier later subject : List ℕ) → bytes_eq earlier (codes "**") ≡ true
    → (is_text subject && fits (command_symbols later) subject) ≡ true
    → (is_text subject && fits (command_symbols earlier) subject) ≡ true
whole_command earlier later subject whole fit =
    subst (λ (e : List ℕ). (is_text subject && fits (command_symbols e) subject) ≡ true)
    (sym ((bytes_eq-Decides earlier (codes "**")).0 whole))
    (and_from (is_text subject) (fits (command_symbols (codes "**")) subject) (and_parts _ _ fit).0
    (anything ℕ subject))

-- ---- patterns

takes_of : (base : List ℕ) (kind : Kind) (earlier later : Rule) (subject : List ℕ) → takes_over base kind earlier later
    ≡ true
    → pattern_fits base kind earlier.pattern later.pattern ≡ true → pattern_fits base kind later.pattern subject ≡ true
    → pattern_fits base kind earlier.pattern subject ≡ true
takes_of base Read earlier later subject takes whole fit = paths base earlier.pattern later.pattern subject takes whole
    fit
takes_of base Write earlier later subject takes whole fit = paths base earlier.pattern later.pattern subject takes whole
    fit
takes_of base Append earlier later subject takes whole fit = paths base earlier.pattern later.pattern subject takes
    whole fit
takes_of base Run earlier later subject takes whole fit = whole_command earlier.pattern later.pattern subject takes fit
takes_of base Env earlier later subject takes whole fit = absurd (true≢false (sym takes))
takes_of base Assign earlier later subject takes whole fit = absurd (true≢false (sym takes))

-- equal patterns fit the same
equal : (base : List ℕ) (earlier later : Rule) → bytes_eq earlier.pattern later.pattern ≡ true
    → PatternCovers base earlier later
equal base earlier later same subject fit =
    subst (λ (pattern : List ℕ). pattern_fits base later.kind pattern subject ≡ true)
    (sym ((bytes_eq-Decides earlier.pattern later.pattern).0 same)) fit

-- the later rule's pattern fits one text alone, which the earlier one fits
exact : (base : List ℕ) (earlier later : Rule) → is_exact base later.kind later.pattern ≡ true
    → pattern_fits base later.kind earlier.pattern later.pattern ≡ true
    → PatternCovers base earlier later
exact base earlier later is_one whole subject fit =
    sym (same_fits base later.kind earlier.pattern later.pattern subject
    (exact_alone base later.kind later.pattern subject is_one fit)) ∙ whole

-- ---- rules

-- the parts of what it is to speak
pub speaks_parts : (a b c : Bool) → ((a && b) && c) ≡ true → (a ≡ true) × ((b ≡ true) × (c ≡ true))
speaks_parts true true true h = (refl, (refl, refl))
speaks_parts true true false h = absurd (true≢false (sym h))
speaks_parts true false c h = absurd (true≢false (sym h))
speaks_parts false b c h = absurd (true≢false (sym h))

given_on : (given one other : Bool) → (other || not one) ≡ true → (given || not other) ≡ true
    → (given || not one) ≡ true
given_on true one other h k = refl
given_on false one true h k = absurd (true≢false (sym k))
given_on false one false h k = h

covering : (base : List ℕ) (earlier later : Rule) → nat_eq (kind_number earlier.kind) (kind_number later.kind) ≡ true
    → is_limited earlier ≡ false
    → (later.only_given || not earlier.only_given) ≡ true → PatternCovers base earlier later → Covers base earlier later
covering base earlier later kinds unlimited source pattern =
    let same : earlier.kind ≡ later.kind = same_kind earlier.kind later.kind kinds in
    record {
      always = unlimited;
      all = λ kind subject given spoken.
          let p = speaks_parts (nat_eq (kind_number later.kind) (kind_number kind)) (given || not later.only_given)
          (pattern_fits base kind later.pattern subject) spoken in
          let of_kind : nat_eq (kind_number earlier.kind) (kind_number kind) ≡ true =
          ap (λ k. nat_eq (kind_number k) (kind_number kind)) same ∙ p.0 in
          let fit : pattern_fits base kind earlier.pattern subject ≡ true =
          subst (λ (k : Kind). pattern_fits base k later.pattern subject ≡ true
          → pattern_fits base k earlier.pattern subject ≡ true)
          (same_kind later.kind kind p.0) (pattern subject) p.1.1 in
          and_from (nat_eq (kind_number earlier.kind) (kind_number kind) && (given || not earlier.only_given))
          (pattern_fits base kind earlier.pattern subject)
          (and_from (nat_eq (kind_number earlier.kind) (kind_number kind)) (given || not earlier.only_given) of_kind
          (given_on given earlier.only_given later.only_given source p.1.0)) fit;
    }

covers_by : (base : List ℕ) (earlier later : Rule) (alone : Bool) → is_exact base later.kind later.pattern ≡ alone
    → is_limited earlier ≡ false
    → cond alone (speaks_of base earlier later) (is_same earlier later
    || (speaks_of base earlier later && takes_over base later.kind earlier later)) ≡ true
    → Covers base earlier later
covers_by base earlier later true is unlimited h =
    let p = speaks_parts (nat_eq (kind_number earlier.kind) (kind_number later.kind))
    (later.only_given || not earlier.only_given)
    (pattern_fits base later.kind earlier.pattern later.pattern) h in
    covering base earlier later p.0 unlimited p.1.0 (exact base earlier later is p.1.1)
covers_by base earlier later false is unlimited h =
    elim (or_cases (is_same earlier later) (speaks_of base earlier later && takes_over base later.kind earlier later) h) [
      | inl same ↦
          let p = speaks_parts (nat_eq (kind_number earlier.kind) (kind_number later.kind))
          (later.only_given || not earlier.only_given)
          (bytes_eq earlier.pattern later.pattern) same in
          covering base earlier later p.0 unlimited p.1.0 (equal base earlier later p.1.1)
      | inr both ↦
          let q = and_parts (speaks_of base earlier later) (takes_over base later.kind earlier later) both in
          let p = speaks_parts (nat_eq (kind_number earlier.kind) (kind_number later.kind))
          (later.only_given || not earlier.only_given)
          (pattern_fits base later.kind earlier.pattern later.pattern) q.0 in
          covering base earlier later p.0 unlimited p.1.0 (λ subject fit. takes_of base later.kind earlier later subject
          q.1 p.1.1 fit)
    ]

-- what is found to be covered is
pub sound : (base : List ℕ) (earlier later : Rule) → covers base earlier later ≡ true → Covers base earlier later
sound base earlier later h =
    let p = and_parts (not (is_limited earlier))
    (cond (is_exact base later.kind later.pattern) (speaks_of base earlier later)
    (is_same earlier later || (speaks_of base earlier later && takes_over base later.kind earlier later))) h in
    covers_by base earlier later (is_exact base later.kind later.pattern) refl (not-true (is_limited earlier) p.0) p.1

pub sound_by : (base : List ℕ) (earlier later : Rule) (found : Bool) → found ≡ covers base earlier later → found ≡ true
    → Covers base earlier later
sound_by base earlier later found is holds = sound base earlier later (sym is ∙ holds)
