-- What a verdict says of the requests that a site covers.
use Rattle.std.proofs.Common.{◌≡◌, ◌∙◌, ◌<◌, ℕ, zero, suc, Bool, true, false, List, [], ◌∷◌, length, refl, sym, ap}
use Rattle.std.proofs.Common.{subst, true≢false, arith}
use Rattle.std.specs.Prelude.{Option, Some, None, if◌then◌else◌, Contains, filter, slice_index_or, IsSome}
use Rattle.awk_text.specs.declared.place.Place.{Place}
use Rattle.awk_program.specs.Slots.{Text}
use Rattle.box_policy.specs.Rulebook.{Rulebook}
use Rattle.box_policy.specs.Counts.{cleared}
use Rattle.box_policy.specs.Decisions.{decision, outlook}
use Rattle.box_policy.specs.declared.policy.Kind.{Kind}
use Rattle.box_policy.specs.declared.policy.Decision.{Decision}
use Rattle.box_policy.specs.declared.policy.Decision.TheVariants.{Allow, Deny, NoRule}
use Rattle.box_policy.specs.declared.policy.Outlook.{Outlook}
use Rattle.box_policy.specs.declared.policy.Outlook.TheVariants.{Always, Never, Sometimes}
use Rattle.box_policy.proofs.OutlookLemmas.{allows, always, never, noted-cleared, outlook-same}
use Rattle.box_monitor.specs.Denials.{told_at, denial_at, rule_for, with_noted}
use Rattle.box_monitor.specs.Passed.{after_events, subject_of_wish}
use Rattle.box_monitor.specs.Subjects.{Subject, subject_of}
use Rattle.box_world.specs.Events.{Event, Wish, Opens, Reads, Writes, Shuts, Runs, Looks, Assigns, request_of}
use Rattle.box_listing.specs.Verdicts.{denies, is_denied, is_open, leaves_open, outlook_at, verdict_by}
use Rattle.box_listing.specs.declared.site.Site.{Site}
use Rattle.box_listing.specs.declared.verdict.Verdict.TheVariants.{Clean, Refused}
use Rattle.listing_laws.specs.Covers.{AllAllowed, IsText, NoneDenied, RefusedDenied, subject_of_want}
use Rattle.listing_laws.proofs.Standing.{Listed, Wanted, WantedBy}
use Rattle.listing_laws.proofs.Coverage.{Is, AllWanted, wanted}

-- ---- lists that are filtered

none_passes_by : (p : Site → Bool) (y : Site) (ys : List Site) (b : Bool) → p y ≡ b
    → (if b then y ∷ filter p ys else filter p ys) ≡ [] → (p y ≡ false) × (filter p ys ≡ [])
none_passes_by p y ys true e h = absurd (cc)
none_passes_by p y ys false e h = (e, h)

none_passes : (p : Site → Bool) (xs : List Site) (x : Site) (k : ℕ) → filter p xs ≡ [] → k < length xs
    → slice_index_or xs k x ≡ x → p x ≡ false
none_passes p [] x k h below e = absurd (omega (arith, below))
none_passes p (y ∷ ys) x zero h below e = subst (λ z. p z ≡ false) e (none_passes_by p y ys (p y) refl h).0
none_passes p (y ∷ ys) x (suc k) h below e = none_passes p ys x k (none_passes_by p y ys (p y) refl h).1
    (omega (arith, below)) e

mutual_pass : (p : Site → Bool) (y : Site) (ys : List Site) (b : Bool) (x : Site) (k : ℕ) → p y ≡ b
    → k < length (if b then y ∷ filter p ys else filter p ys) →
    slice_index_or (if b then y ∷ filter p ys else filter p ys) k x ≡ x → ((j : ℕ) → j < length (filter p ys)
    → slice_index_or (filter p ys) j x ≡ x → p x ≡ true) → p x ≡ true
mutual_pass p y ys true x zero is below e ih = subst (λ z. p z ≡ true) e is
mutual_pass p y ys true x (suc k) is below e ih = ih k (omega (arith, below)) e
mutual_pass p y ys false x k is below e ih = ih k below e

passes : (p : Site → Bool) (xs : List Site) (x : Site) (k : ℕ) → k < length (filter p xs)
    → slice_index_or (filter p xs) k x ≡ x → p x ≡ true
passes p [] x k below e = absurd (omega (arith, below))
passes p (y ∷ ys) x k below e = mutual_pass p y ys (p y) x k refl below e (passes p ys x)

-- ---- verdicts

clean_by : (xs ys : List Site) → verdict_by xs ys ≡ Clean → (xs ≡ []) × (ys ≡ [])
clean_by [] [] h = (refl, refl)
clean_by [] (y ∷ ys) h = absurd (cc)
clean_by (x ∷ xs) ys h = absurd (cc)

refused_by : (xs ys zs : List Site) → verdict_by xs ys ≡ Refused zs → xs ≡ zs
refused_by [] [] zs h = absurd (cc)
refused_by [] (y ∷ ys) zs h = absurd (cc)
refused_by (x ∷ xs) ys zs h = cc

-- ---- outlooks

is_always : (o : Outlook) → denies (Some o) ≡ false → leaves_open (Some o) ≡ false → o ≡ Always
is_always Always d l = refl
is_always Never d l = absurd (true≢false d)
is_always Sometimes d l = absurd (true≢false l)

is_never : (o : Outlook) → denies (Some o) ≡ true → o ≡ Never
is_never Always d = absurd (true≢false (sym d))
is_never Never d = refl
is_never Sometimes d = absurd (true≢false (sym d))

untold : (place : Place) (subject : Subject) (d : Decision) → allows d ≡ true → told_at place subject d ≡ None
untold place subject (Allow n) h = refl
untold place subject (Deny n) h = absurd (true≢false (sym h))
untold place subject NoRule h = absurd (true≢false (sym h))

told : (place : Place) (subject : Subject) (d : Decision) → allows d ≡ false → IsSome (told_at place subject d)
told place subject (Allow n) h = absurd (true≢false h)
told place subject (Deny n) h = refl
told place subject NoRule h = refl

with-cleared : (o : Option ℕ) (book : Rulebook) → cleared (with_noted o book) ≡ cleared book
with-cleared None book = refl
with-cleared (Some n) book = noted-cleared n book

-- events change counts alone
after-cleared : (book : Rulebook) (es : List Event) → cleared (after_events book es) ≡ cleared book
after-cleared book [] = refl
after-cleared book (e ∷ es) =
    with-cleared (rule_for (after_events book es) e.want.given (subject_of_wish e.want.wish)) (after_events book es)
    ∙ after-cleared book es

-- so what is said of a subject stays
outlook-later : (book : Rulebook) (es : List Event) (kind : Kind) (text : Text) (subject : Subject)
    → kind ≡ subject.kind → text ≡ subject.text
    → outlook (after_events book es) subject.kind subject.text false ≡ outlook book kind text false
outlook-later book es kind text subject e f =
    outlook-same (after_events book es) book subject.kind subject.text false (after-cleared book es)
    ∙ (λ i. outlook book (sym e i) (sym f i) false)

allowed_by : (book : Rulebook) (es : List Event) (kind : Kind) (c : Option Text) (place : Place) (given : Bool)
    (subject : Subject)
    → leaves_open (outlook_at book kind c) ≡ false → denies (outlook_at book kind c) ≡ false → kind ≡ subject.kind
    → IsText c subject.text
    → (given ≡ true → c ≡ None) → denial_at (after_events book es) place given (Some subject) ≡ None
allowed_by book es kind None place given subject known allowed e f g = absurd (true≢false known)
allowed_by book es kind (Some text) place true subject known allowed e f g =
    let z : Some text ≡ None = g refl in absurd (cc)
allowed_by book es kind (Some text) place false subject known allowed e f g =
    let now = outlook-later book es kind text subject e f ∙ is_always (outlook book kind text false) allowed known in
    untold place subject (decision (after_events book es) subject.kind subject.text false)
    (always (after_events book es) subject.kind subject.text false now)

denied_by : (book : Rulebook) (es : List Event) (kind : Kind) (c : Option Text) (place : Place) (subject : Subject)
    → denies (outlook_at book kind c) ≡ true
    → kind ≡ subject.kind → IsText c subject.text → IsSome c
    × IsSome (denial_at (after_events book es) place false (Some subject))
denied_by book es kind None place subject denied e f = absurd (true≢false (sym denied))
denied_by book es kind (Some text) place subject denied e f =
    let now = outlook-later book es kind text subject e f ∙ is_never (outlook book kind text false) denied in (
      refl,
      told place subject (decision (after_events book es) subject.kind subject.text false)
          (never (after_events book es) subject.kind subject.text false now),
    )

-- ---- the laws

-- the subject of a request is that of its wish
subject-same : (wish : Wish) → subject_of (request_of wish []) ≡ subject_of_wish wish
subject-same (Opens mode class text) = refl
subject-same (Reads key) = refl
subject-same (Writes key bytes) = refl
subject-same (Shuts key) = refl
subject-same (Runs command) = refl
subject-same (Looks name) = refl
subject-same (Assigns name text) = refl

wanted-subject : (S : Listed) (place : Place) (given : Bool) (wish : Wish) → WantedBy S place given wish
    → Wanted S place given (subject_of (request_of wish []))
wanted-subject S place given (Opens mode class text) h = h
wanted-subject S place given (Reads key) h = tt
wanted-subject S place given (Writes key bytes) h = tt
wanted-subject S place given (Shuts key) h = tt
wanted-subject S place given (Runs command) h = h
wanted-subject S place given (Looks name) h = h
wanted-subject S place given (Assigns name text) h = h

module _ (book : Rulebook) (sites : List Site) where
  allowed : (es : List Event) (place : Place) (given : Bool) (o : Option Subject) → filter (is_denied book) sites ≡ []
      → filter (is_open book) sites ≡ []
      → Wanted (Is sites) place given o → denial_at (after_events book es) place given o ≡ None
  allowed es place given None none known h = refl
  allowed es place given (Some subject) none known h =
      let site = h.0 in
      let c = h.1 in
      allowed_by book es site.kind site.text place given subject (none_passes (is_open book) sites site c.0 known c.1
      c.2)
      (none_passes (is_denied book) sites site c.0 none c.1 c.2) h.2.same_kind h.2.same_text h.3

  each_allowed : (es : List Event) → filter (is_denied book) sites ≡ [] → filter (is_open book) sites ≡ []
      → AllWanted (Is sites) es → AllAllowed book es
  each_allowed [] none known h = tt
  each_allowed (e ∷ es) none known h = (
    sym (ap (denial_at (after_events book es) e.want.place e.want.given) (subject-same e.want.wish))
        ∙ allowed es e.want.place e.want.given (subject_of_want e.want) none known
        (wanted-subject (Is sites) e.want.place e.want.given e.want.wish h.0),
    each_allowed es none known h.1,
  )

pub none_denied : NoneDenied
none_denied g order book sites events o n last listing clean x =
    let both = clean_by (filter (is_denied book) sites) (filter (is_open book) sites) clean in
    each_allowed book sites events both.0 both.1 (wanted sites g order events o n last listing x)

pub refused_denied : RefusedDenied
refused_denied book sites refused site events place subject is c covers =
    let e = refused_by (filter (is_denied book) sites) (filter (is_open book) sites) refused is in
    let d : Contains (filter (is_denied book) sites) site = subst (λ z. Contains z site) (sym e) c in
    denied_by book events site.kind site.text place subject (passes (is_denied book) sites site d.0 d.1 d.2)
    covers.same_kind covers.same_text
