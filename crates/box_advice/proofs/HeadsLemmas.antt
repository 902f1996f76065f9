-- A text that a pattern fits begins as the pattern does, where that stands for itself.
use Rattle.std.proofs.Common.{◌≡◌, ◌∙◌, ℕ, zero, suc, ◌+◌, ◌<◌, ◌≤◌, Bool, true, false, not, ◌&&◌, ◌||◌, cond, List, []}
use Rattle.std.proofs.Common.{◌∷◌, ◌++◌, map, length, get_or, Option, Some, None, sym, ap, refl, subst, codes, inl, inr}
use Rattle.std.proofs.Common.{arith}
use Rattle.std.specs.Prelude.{◌⊎◌, nat_eq, nat_le, slice_get}
use Rattle.std.specs.List.{list_all}
use Rattle.std.specs.Str.{bytes_eq}
use Rattle.std.proofs.lemmas.Bool.{true≢false, and_parts, and_from, or_cases, not-true, eq-eqb, le-leb}
use Rattle.std.proofs.lemmas.List.{length_push}
use Rattle.std.proofs.lemmas.List.Folds.{list_all-append}
use Rattle.std.proofs.lemmas.Option.{slice_get_read, slice_get_within}
use Rattle.std.proofs.lemmas.Slice.Eq.{bytes_eq-Decides}
use Rattle.box_policy.specs.declared.policy.Kind.{Kind}
use Rattle.box_policy.specs.declared.policy.Kind.TheVariants.{Read, Write, Append, Run, Env, Assign}
use Rattle.box_policy.specs.declared.policy.Rule.{Rule}
use Rattle.box_policy.specs.Counts.{is_limited}
use Rattle.box_policy.specs.Decisions.{kind_number, speaks}
use Rattle.box_policy.specs.Division.{Symbol, fits}
use Rattle.box_policy.specs.Exact.{is_exact}
use Rattle.box_policy.specs.Files.{is_of_files}
use Rattle.box_policy.specs.Fits.{pattern_fits, normal_fits}
use Rattle.box_policy.specs.Paths.{can_resolve, is_absolute, names, names_under}
use Rattle.box_policy.specs.Short.{are_short}
use Rattle.box_policy.specs.Patterns.{base_symbol, component_symbol, path_symbols}
use Rattle.box_policy.proofs.DivisionLemmas.{fits-none, fits-more}
use Rattle.box_policy.proofs.PlainLemmas.{component_plain}
use Rattle.box_advice.specs.Covers.{covers, is_flat, is_plain_piece, is_same, speaks_of, takes_over}
use Rattle.box_advice.specs.Heads.{HasHeads, IsHead, IsHeadOf, IsTrail, IsTrailOf, first_mark, has_no_star, head_of}
use Rattle.box_advice.specs.Heads.{is_count, is_counted, is_mark, mark_of, marks_from, may_fit, may_meet, piece_mark}
use Rattle.box_advice.specs.Heads.{pieces, stands_alone}
use Rattle.box_advice.specs.declared.heads.Head.{Head}
use Rattle.box_advice.specs.declared.heads.Trail.{Trail}
use Rattle.box_advice.proofs.CoversLemmas.{speaks_parts}
use Rattle.box_advice.proofs.ExactLemmas.{one_number, same_command, same_kind, same_name}
use Rattle.box_advice.proofs.TakingLemmas.{before_more, before_none}

-- the pieces begin with these
pub record Begins (head ps : List (List ℕ)) : Type 0 where
  pub rest : List (List ℕ)
  pub is : ps ≡ head ++ rest

-- ---- a pattern begins with its head

own_by : (piece : List ℕ) (head ps : List (List ℕ)) (alone : Bool) → Begins head ps
    → Begins (cond alone (piece ∷ head) []) (piece ∷ ps)
own_by piece head ps true b = record { rest = b.rest; is = ap (λ xs. piece ∷ xs) b.is }
own_by piece head ps false b = record { rest = piece ∷ ps; is = refl }

own : (kind : Kind) (ps : List (List ℕ)) → Begins (head_of kind ps) ps
own kind [] = record { rest = []; is = refl }
own kind (p ∷ ps) = own_by p (head_of kind ps) ps (stands_alone kind p) (own kind ps)

-- ---- a path

alone_plain : (kind : Kind) (piece : List ℕ) → is_of_files kind ≡ true → stands_alone kind piece ≡ is_plain_piece piece
unfolding stands_alone
alone_plain kind piece files = ap (λ b. cond b (is_plain_piece piece) (has_no_star piece)) files

begin_by : (p : List ℕ) (head : List (List ℕ)) (s : Symbol (List ℕ)) (ss : List (Symbol (List ℕ)))
    (names : List (List ℕ)) (alone : Bool)
    → (alone ≡ true → s ≡ base_symbol p) → fits (s ∷ ss) names ≡ true → ((xs : List (List ℕ)) → fits ss xs ≡ true
    → Begins head xs)
    → Begins (cond alone (p ∷ head) []) names
begin_by p head s ss names false of fit more = record { rest = names; is = refl }
begin_by p head s ss [] true of fit more =
    absurd (true≢false (sym fit ∙ (ap (λ z. fits (z ∷ ss) []) (of refl) ∙ fits-none false (λ name. bytes_eq p name)
    ss)))
begin_by p head s ss (x ∷ xs) true of fit more =
    let parts = and_parts (bytes_eq p x) (fits ss xs)
    (sym (ap (λ z. fits (z ∷ ss) (x ∷ xs)) (of refl) ∙ fits-more false (λ name. bytes_eq p name) ss x xs) ∙ fit) in
    let b = more xs parts.1 in
    record { rest = b.rest; is = ap (λ y. y ∷ xs) (sym ((bytes_eq-Decides p x).0 parts.0)) ∙ ap (λ ys. p ∷ ys) b.is }

components_begin : (kind : Kind) → is_of_files kind ≡ true → (ps ns : List (List ℕ)) → fits (map component_symbol ps) ns
    ≡ true → Begins (head_of kind ps) ns
components_begin kind files [] ns fit = record { rest = ns; is = refl }
components_begin kind files (p ∷ ps) ns fit =
    begin_by p (head_of kind ps) (component_symbol p) (map component_symbol ps) ns (stands_alone kind p)
    (λ alone. component_plain p (sym (alone_plain kind p files) ∙ alone)) fit (components_begin kind files ps)

under_begins : (kind : Kind) → is_of_files kind ≡ true → (bs ps ns : List (List ℕ))
    → fits (map base_symbol bs ++ map component_symbol ps) ns ≡ true
    → Begins (head_of kind (bs ++ ps)) ns
under_begins kind files [] ps ns fit = components_begin kind files ps ns fit
under_begins kind files (b ∷ bs) ps ns fit =
    begin_by b (head_of kind (bs ++ ps)) (base_symbol b) (map base_symbol bs ++ map component_symbol ps) ns
    (stands_alone kind b)
    (λ alone. refl) fit (under_begins kind files bs ps)

path_begins_by : (kind : Kind) → is_of_files kind ≡ true → (absolute : Bool) (bs ps ns : List (List ℕ))
    → fits (cond absolute (map component_symbol ps) (map base_symbol bs ++ map component_symbol ps)) ns ≡ true
    → Begins (head_of kind (cond absolute ps (bs ++ ps))) ns
path_begins_by kind files true bs ps ns fit = components_begin kind files ps ns fit
path_begins_by kind files false bs ps ns fit = under_begins kind files bs ps ns fit

resolved : (there : Bool) (path : List (Symbol (List ℕ))) (ns : List (List ℕ))
    → normal_fits path (cond there (Some ns) None) ≡ true → fits path ns ≡ true
resolved true path ns h = h
resolved false path ns h = absurd (true≢false (sym h))

path_begins : (kind : Kind) → is_of_files kind ≡ true → (base pattern text : List ℕ)
    → normal_fits (path_symbols base pattern) (cond (can_resolve base text) (Some (names_under base text)) None) ≡ true
    → Begins (head_of kind (names_under base pattern)) (names_under base text)
path_begins kind files base pattern text fit =
    path_begins_by kind files (is_absolute pattern) (names base) (names pattern) (names_under base text)
    (resolved (can_resolve base text) (path_symbols base pattern) (names_under base text) fit)

-- ---- how many pieces a path has

one_taken : (s : Symbol (List ℕ)) (ss : List (Symbol (List ℕ))) (ns : List (List ℕ)) (n : ℕ) → s.is_run ≡ false
    → fits (s ∷ ss) ns ≡ true
    → ((xs : List (List ℕ)) → fits ss xs ≡ true → length xs ≡ n) → length ns ≡ suc n
one_taken s ss [] n one fit more = absurd (true≢false (sym (before_none s ss fit).0 ∙ one))
one_taken s ss (x ∷ xs) n one fit more =
    elim (before_more s ss x xs fit) [
      | inl skipped ↦ absurd (true≢false (sym skipped.0 ∙ one))
      | inr met ↦ ap suc (more xs (subst (λ r. fits (cond r (s ∷ ss) ss) xs ≡ true) one met.1))
    ]

components_counted : (ps ns : List (List ℕ)) → list_all is_flat ps ≡ true → fits (map component_symbol ps) ns ≡ true
    → length ns ≡ length ps
components_counted [] [] flat fit = refl
components_counted [] (x ∷ xs) flat fit = absurd (true≢false (sym fit))
components_counted (p ∷ ps) ns flat fit =
    let parts = and_parts (is_flat p) (list_all is_flat ps) flat in
    one_taken (component_symbol p) (map component_symbol ps) ns (length ps) (not-true (bytes_eq p (codes "**")) parts.0)
    fit
    (λ xs more. components_counted ps xs parts.1 more)

under_counted : (bs ps ns : List (List ℕ)) → list_all is_flat (bs ++ ps) ≡ true
    → fits (map base_symbol bs ++ map component_symbol ps) ns ≡ true
    → length ns ≡ length (bs ++ ps)
under_counted [] ps ns flat fit = components_counted ps ns flat fit
under_counted (b ∷ bs) ps ns flat fit =
    one_taken (base_symbol b) (map base_symbol bs ++ map component_symbol ps) ns (length (bs ++ ps)) refl fit
    (λ xs more. under_counted bs ps xs (and_parts (is_flat b) (list_all is_flat (bs ++ ps)) flat).1 more)

path_counted_by : (absolute : Bool) (bs ps ns : List (List ℕ)) → list_all is_flat (cond absolute ps (bs ++ ps)) ≡ true
    → fits (cond absolute (map component_symbol ps) (map base_symbol bs ++ map component_symbol ps)) ns ≡ true
    → length ns ≡ length (cond absolute ps (bs ++ ps))
path_counted_by true bs ps ns flat fit = components_counted ps ns flat fit
path_counted_by false bs ps ns flat fit = under_counted bs ps ns flat fit

path_counted : (base pattern text : List ℕ) → list_all is_flat (names_under base pattern) ≡ true
    → normal_fits (path_symbols base pattern) (cond (can_resolve base text) (Some (names_under base text)) None) ≡ true
    → length (names_under base text) ≡ length (names_under base pattern)
path_counted base pattern text flat fit =
    path_counted_by (is_absolute pattern) (names base) (names pattern) (names_under base text) flat
    (resolved (can_resolve base text) (path_symbols base pattern) (names_under base text) fit)

-- ---- any kind

-- what a text that the pattern fits is like
pub record IsMet (kind : Kind) (ps qs : List (List ℕ)) : Type 0 where
  pub begins : Begins (head_of kind ps) qs
  pub counted : is_counted kind ps ≡ true → length qs ≡ length ps

path_met : (kind : Kind) → is_of_files kind ≡ true → (base pattern text : List ℕ)
    → normal_fits (path_symbols base pattern) (cond (can_resolve base text) (Some (names_under base text)) None) ≡ true
    → IsMet kind (pieces base kind pattern) (pieces base kind text)
unfolding pieces is_counted
path_met kind files base pattern text fit =
    subst (λ b. IsMet kind (cond b (names_under base pattern) (pattern ∷ []))
    (cond b (names_under base text) (text ∷ []))) (sym files)
    (record {
      begins = path_begins kind files base pattern text fit;
      counted = λ flat. path_counted base pattern text
          (sym (ap (λ b. cond b (list_all is_flat (names_under base pattern)) true) files) ∙ flat) fit;
    })

whole_begins : (pattern text : List ℕ) (alone : Bool) → (alone ≡ true → pattern ≡ text)
    → Begins (cond alone (pattern ∷ []) []) (text ∷ [])
whole_begins pattern text true same = record { rest = []; is = ap (λ t. t ∷ []) (sym (same refl)) }
whole_begins pattern text false same = record { rest = text ∷ []; is = refl }

whole_met : (kind : Kind) → is_of_files kind ≡ false → (base pattern text : List ℕ)
    → (has_no_star pattern ≡ true → pattern ≡ text)
    → IsMet kind (pieces base kind pattern) (pieces base kind text)
unfolding pieces stands_alone
whole_met kind whole base pattern text same =
    subst (λ b. IsMet kind (cond b (names_under base pattern) (pattern ∷ []))
    (cond b (names_under base text) (text ∷ []))) (sym whole)
    (record {
      begins = whole_begins pattern text (stands_alone kind pattern)
          (λ alone. same (sym (ap (λ b. cond b (is_plain_piece pattern) (has_no_star pattern)) whole) ∙ alone));
      counted = λ flat. refl;
    })

pub fit_met : (base : List ℕ) (kind : Kind) (pattern text : List ℕ) → pattern_fits base kind pattern text ≡ true
    → IsMet kind (pieces base kind pattern) (pieces base kind text)
fit_met base Read pattern text fit = path_met Read refl base pattern text fit
fit_met base Write pattern text fit = path_met Write refl base pattern text fit
fit_met base Append pattern text fit = path_met Append refl base pattern text fit
fit_met base Run pattern text fit = whole_met Run refl base pattern text (λ plain. same_command pattern text plain fit)
fit_met base Env pattern text fit = whole_met Env refl base pattern text (λ plain. same_name pattern text plain fit)
fit_met base Assign pattern text fit = whole_met Assign refl base pattern text
    (λ plain. same_name pattern text plain fit)

same_met : (base : List ℕ) (kind : Kind) (pattern text : List ℕ) → pattern ≡ text
    → IsMet kind (pieces base kind pattern) (pieces base kind text)
same_met base kind pattern text same =
    subst (λ (t : List ℕ). IsMet kind (pieces base kind pattern) (pieces base kind t)) same
    (record { begins = own kind (pieces base kind pattern); counted = λ flat. refl })

-- ---- the marks tell

mark_at : (head rest : List (List ℕ)) (mark : ℕ) → slice_get (mark ∷ marks_from mark (head ++ rest)) (length head)
    ≡ Some (mark_of mark head)
mark_at [] rest mark = refl
mark_at (p ∷ head) rest mark = mark_at head rest (piece_mark mark p)

same_mark : (found : Option ℕ) (mark : ℕ) → found ≡ Some mark → is_mark found mark ≡ true
same_mark None mark is = cc
same_mark (Some one) mark is = let same : one ≡ mark = cc in eq-eqb one mark same

same_count : (told : Option ℕ) (n m : ℕ) → ((k : ℕ) → told ≡ Some k → k ≡ n) → n ≡ m → is_count told m ≡ true
same_count None n m of same = refl
same_count (Some k) n m of same = eq-eqb k m (of k refl ∙ same)

same_number : (one other kind : Kind) → one ≡ kind → other ≡ kind → nat_eq (kind_number one) (kind_number other) ≡ true
same_number one other kind first second =
    ap (λ k. nat_eq (kind_number k) (kind_number other)) first
    ∙ (ap (λ k. nat_eq (kind_number kind) (kind_number k)) second ∙ one_number kind)

meets : (kind : Kind) (ps qs : List (List ℕ)) (head : Head) (trail : Trail) → IsHead kind ps head
    → IsTrail kind qs trail → IsMet kind ps qs → may_meet head trail ≡ true
unfolding may_meet
meets kind ps qs head trail h t met =
    let start : List (List ℕ) = head_of kind ps in
    let marks : trail.marks.items ≡ first_mark ∷ marks_from first_mark (start ++ met.begins.rest) =
    t.marks ∙ ap (λ xs. first_mark ∷ marks_from first_mark xs) met.begins.is in
    let at : slice_get trail.marks.items head.depth ≡ Some head.mark =
    ap (λ xs. slice_get xs head.depth) marks
    ∙ (ap (slice_get (first_mark ∷ marks_from first_mark (start ++ met.begins.rest))) h.depth
    ∙ (mark_at start met.begins.rest first_mark ∙ ap Some (sym h.mark))) in
    and_from (nat_eq (kind_number head.kind) (kind_number trail.kind) && is_count head.count trail.count)
    (is_mark (slice_get trail.marks.items head.depth) head.mark)
    (and_from (nat_eq (kind_number head.kind) (kind_number trail.kind)) (is_count head.count trail.count)
    (same_number head.kind trail.kind kind h.of_kind t.of_kind)
    (count_by head.count refl))
    (same_mark (slice_get trail.marks.items head.depth) head.mark at)
  where
    count_by : (told : Option ℕ) → head.count ≡ told → is_count told trail.count ≡ true
    count_by None is = refl
    count_by (Some n) is =
        let of = h.counted n is in
        eq-eqb n trail.count (of.0 ∙ (sym (met.counted of.1) ∙ sym t.count))

met_fits : (kind : Kind) (ps qs : List (List ℕ)) (head : Option Head) (trail : Option Trail) → IsHeadOf kind ps head
    → IsTrailOf kind qs trail → IsMet kind ps qs
    → may_fit head trail ≡ true
met_fits kind ps qs None trail h t met = refl
met_fits kind ps qs (Some head) None h t met = refl
met_fits kind ps qs (Some head) (Some trail) h t met = meets kind ps qs head trail h t met

fits_by : (base : List ℕ) (one other : Kind) (pattern text : List ℕ) (head : Option Head) (trail : Option Trail)
    → one ≡ other
    → IsHeadOf one (pieces base one pattern) head → IsTrailOf other (pieces base other text) trail
    → IsMet other (pieces base other pattern) (pieces base other text) → may_fit head trail ≡ true
fits_by base one other pattern text head trail same h t met =
    met_fits other (pieces base other pattern) (pieces base other text) head trail
    (subst (λ (k : Kind). IsHeadOf k (pieces base k pattern) head) same h) t met

-- ---- a rule that may not fit

refuted : (a b : Bool) → (a ≡ true → b ≡ true) → b ≡ false → a ≡ false
refuted true b h none = absurd (true≢false (sym (h refl) ∙ none))
refuted false b h none = refl

-- does not speak
pub mute : (base : List ℕ) (rule : Rule) (kind : Kind) (text : List ℕ) (given : Bool) (head : Option Head)
    (trail : Option Trail)
    → IsHeadOf rule.kind (pieces base rule.kind rule.pattern) head → IsTrailOf kind (pieces base kind text) trail
    → may_fit head trail ≡ false → speaks base rule kind text given ≡ false
mute base rule kind text given head trail h t none =
    refuted (speaks base rule kind text given) (may_fit head trail)
    (λ spoken.
    let p = speaks_parts (nat_eq (kind_number rule.kind) (kind_number kind)) (given || not rule.only_given)
    (pattern_fits base kind rule.pattern text) spoken in
    fits_by base rule.kind kind rule.pattern text head trail (same_kind rule.kind kind p.0) h t
    (fit_met base kind rule.pattern text p.1.1))
    none

speaking_fits : (base : List ℕ) (earlier later : Rule) (head : Option Head) (trail : Option Trail)
    → IsHeadOf earlier.kind (pieces base earlier.kind earlier.pattern) head
    → IsTrailOf later.kind (pieces base later.kind later.pattern) trail
    → speaks_of base earlier later ≡ true → may_fit head trail ≡ true
speaking_fits base earlier later head trail h t spoken =
    let p = speaks_parts (nat_eq (kind_number earlier.kind) (kind_number later.kind))
    (later.only_given || not earlier.only_given)
    (pattern_fits base later.kind earlier.pattern later.pattern) spoken in
    fits_by base earlier.kind later.kind earlier.pattern later.pattern head trail
    (same_kind earlier.kind later.kind p.0) h t
    (fit_met base later.kind earlier.pattern later.pattern p.1.1)

covering_fits : (base : List ℕ) (earlier later : Rule) (head : Option Head) (trail : Option Trail) (alone : Bool)
    → IsHeadOf earlier.kind (pieces base earlier.kind earlier.pattern) head
    → IsTrailOf later.kind (pieces base later.kind later.pattern) trail
    → cond alone (speaks_of base earlier later) (is_same earlier later
    || (speaks_of base earlier later && takes_over base later.kind earlier later)) ≡ true
    → may_fit head trail ≡ true
covering_fits base earlier later head trail true h t covered = speaking_fits base earlier later head trail h t covered
covering_fits base earlier later head trail false h t covered =
    elim (or_cases (is_same earlier later) (speaks_of base earlier later && takes_over base later.kind earlier later)
    covered) [
      | inl same ↦
          let p = speaks_parts (nat_eq (kind_number earlier.kind) (kind_number later.kind))
          (later.only_given || not earlier.only_given)
          (bytes_eq earlier.pattern later.pattern) same in
          fits_by base earlier.kind later.kind earlier.pattern later.pattern head trail
          (same_kind earlier.kind later.kind p.0) h t
          (same_met base later.kind earlier.pattern later.pattern ((bytes_eq-Decides earlier.pattern later.pattern).0
          p.1.1))
      | inr both ↦
          speaking_fits base earlier later head trail h t (and_parts (speaks_of base earlier later)
          (takes_over base later.kind earlier later) both).0
    ]

-- does not cover
pub apart : (base : List ℕ) (earlier later : Rule) (head : Option Head) (trail : Option Trail)
    → IsHeadOf earlier.kind (pieces base earlier.kind earlier.pattern) head
    → IsTrailOf later.kind (pieces base later.kind later.pattern) trail
    → may_fit head trail ≡ false → covers base earlier later ≡ false
apart base earlier later head trail h t none =
    refuted (covers base earlier later) (may_fit head trail)
    (λ covered. covering_fits base earlier later head trail (is_exact base later.kind later.pattern) h t
    (and_parts (not (is_limited earlier))
    (cond (is_exact base later.kind later.pattern) (speaks_of base earlier later)
    (is_same earlier later || (speaks_of base earlier later && takes_over base later.kind earlier later))) covered).1)
    none

-- ---- rules with their heads

pub get_push : {A : Type 0} (xs : List A) (y z : A) (k : ℕ) → slice_get (xs ++ y ∷ []) k ≡ Some z
    → (slice_get xs k ≡ Some z) ⊎ ((k ≡ length xs) × (y ≡ z))
get_push [] y z zero h = let same : y ≡ z = cc in inr (refl, same)
get_push [] y z (suc k) h = cc
get_push (x ∷ xs) y z zero h = inl h
get_push (x ∷ xs) y z (suc k) h =
    elim (get_push xs y z k h) [
      | inl before ↦ inl before
      | inr last ↦ inr (ap suc last.0, last.1)
    ]

short_more : (rules : List Rule) (rule : Rule) → are_short rules ≡ true → length rule.pattern ≤ 4096
    → are_short (rules ++ rule ∷ []) ≡ true
short_more rules rule short few =
    list_all-append (λ r. nat_le (length r.pattern) 4096) rules (rule ∷ [])
    ∙ and_from (are_short rules) (nat_le (length rule.pattern) 4096 && true) short
    (and_from (nat_le (length rule.pattern) 4096) true (le-leb (length rule.pattern) 4096 few) refl)

-- one more rule with its head
pub has_more : (base : List ℕ) (rules : List Rule) (heads : List (Option Head)) (rule : Rule) (head : Option Head)
    → HasHeads base rules heads
    → length rule.pattern ≤ 4096 → IsHeadOf rule.kind (pieces base rule.kind rule.pattern) head
    → HasHeads base (rules ++ rule ∷ []) (heads ++ head ∷ [])
has_more base rules heads rule head has few of = record {
  short = short_more rules rule has.short few;
  same = length_push heads head ∙ (ap (λ n. n + 1) has.same ∙ sym (length_push rules rule));
  all = λ k r h at_rule at_head.
      elim (get_push heads head h k at_head) [
        | inl before ↦
            elim (get_push rules rule r k at_rule) [
              | inl there ↦ has.all k r h there before
              | inr last ↦
                  let inside : k < length heads = slice_get_within heads k h before in
                  let past : k ≡ length rules = last.0 in
                  let same : length heads ≡ length rules = has.same in
                  absurd (omega (arith, inside, past, same))
            ]
        | inr last ↦
            elim (get_push rules rule r k at_rule) [
              | inl there ↦
                  let inside : k < length rules = slice_get_within rules k r there in
                  let past : k ≡ length heads = last.0 in
                  let same : length heads ≡ length rules = has.same in
                  absurd (omega (arith, inside, past, same))
              | inr other ↦
                  subst (λ (x : Rule). IsHeadOf x.kind (pieces base x.kind x.pattern) h) other.1
                  (subst (λ (x : Option Head). IsHeadOf rule.kind (pieces base rule.kind rule.pattern) x) last.1 of)
            ]
      ];
}

-- the head of a rule that is looked at
pub has_head : (base : List ℕ) (rules : List Rule) (heads : List (Option Head)) (k : ℕ) (rule : Rule)
    (head : Option Head) → HasHeads base rules heads
    → k < length rules → rule ≡ get_or rules k rule → head ≡ get_or heads k head
    → IsHeadOf rule.kind (pieces base rule.kind rule.pattern) head
has_head base rules heads k rule head has inside is at =
    let same : length heads ≡ length rules = has.same in
    has.all k rule head (slice_get_read rules (length rules) k rule refl inside is)
    (slice_get_read heads (length heads) k head refl (omega (arith, inside, same)) at)
