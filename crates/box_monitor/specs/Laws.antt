-- The laws of what a monitor goes on by.
use Rattle.std.specs.Prelude.{◌≡◌, refl, ℕ, ◌+◌, ◌-◌, ◌^◌, ◌≤◌, min, Bool, true, false, not, cond}
use Rattle.std.specs.Prelude.{List, [], ◌∷◌, ◌++◌, length, take, Option, None, Some, is_none, is_some, IsSome}
use Rattle.std.specs.Prelude.{option_to_list}
use Rattle.std.specs.Io.KnownBytes.{Appends}
use Rattle.std.proofs.Common.{ap, sym, ◌∙◌, subst, append_assoc, length-append, arith, inl, inr}
use Rattle.std.proofs.lemmas.Grind.{flat_map-append}
use Rattle.std.proofs.lemmas.List.{append-nil}
use Rattle.awk_text.specs.declared.place.Place.{Place}
use Rattle.box_policy.specs.Rulebook.{Rulebook}
use Rattle.box_world.specs.Calls.{Call, numbers_after, open_after}
use Rattle.box_world.specs.declared.ask.Ask.{Ask}
use Rattle.box_world.specs.declared.ask.Reply.TheVariants.{Failed}
use Rattle.box_world.specs.declared.ask.Request.{Request}
use Rattle.box_world.specs.declared.ask.Request.TheVariants.{Open, Next, Put, Shut, System, Env, Assign}
use Rattle.box_monitor.specs.Asked.{after, asked, told, AllFailed, FailsIfDenied}
use Rattle.box_monitor.specs.Denials.{after_ask, denial_at, denial_of}
use Rattle.box_monitor.specs.Follows.{Goes, Follows}
use Rattle.box_monitor.specs.Lines.{line_of, log_text}
use Rattle.box_monitor.specs.Stops.{LogEnds, Stops}
use Rattle.box_monitor.specs.Subjects.{subject_of}
use Rattle.box_monitor.specs.Watch.{Watch}
use Rattle.box_monitor.specs.declared.log_end.LogEnd.{LogEnd}
use Rattle.box_monitor.specs.declared.log_end.LogEnd.TheVariants.{Whole, Part, Unsure}

pub after-append : (book : Rulebook) (xs ys : List Call) → after book (xs ++ ys) ≡ after (after book xs) ys
after-append book [] ys = refl
after-append book (x ∷ xs) ys = after-append (after_ask book x.0) xs ys

one-then : (b : Bool) (call : Call) (u v w : List Call) → u ≡ v ++ w → cond b (call ∷ u) u ≡ cond b (call ∷ v) v ++ w
one-then true call u v w h = ap (λ z. call ∷ z) h
one-then false call u v w h = h

pub asked-append : (book : Rulebook) (xs ys : List Call)
    → asked book (xs ++ ys) ≡ asked book xs ++ asked (after book xs) ys
asked-append book [] ys = refl
asked-append book (x ∷ xs) ys =
    one-then (is_none (denial_of book x.0)) x _ _ _ (asked-append (after_ask book x.0) xs ys)

pub told-append : (book : Rulebook) (xs ys : List Call) → told book (xs ++ ys) ≡ told book xs ++ told (after book xs) ys
told-append book [] ys = refl
told-append book (x ∷ xs) ys =
    ap (λ z. option_to_list (denial_of book x.0) ++ z) (told-append (after_ask book x.0) xs ys)
    ∙ sym (append_assoc (option_to_list (denial_of book x.0)) (told (after_ask book x.0) xs)
    (told (after book (x ∷ xs)) ys))

pub log_text-told : (book : Rulebook) (xs ys : List Call)
    → log_text (told book (xs ++ ys)) ≡ log_text (told book xs) ++ log_text (told (after book xs) ys)
log_text-told book xs ys =
    ap log_text (told-append book xs ys) ∙ flat_map-append line_of (told book xs) (told (after book xs) ys)

AllFailed-append : (book : Rulebook) (xs ys : List Call) → AllFailed book xs → AllFailed (after book xs) ys
    → AllFailed book (xs ++ ys)
AllFailed-append book [] ys p q = q
AllFailed-append book (x ∷ xs) ys p q = (p.0, AllFailed-append (after_ask book x.0) xs ys p.1 q)

Appends-none : (a : Option (List ℕ)) → Appends a a []
Appends-none None = tt
Appends-none (Some u) = sym (append-nil u)

pub Appends-then : (a b c : Option (List ℕ)) (xs ys : List ℕ) → Appends a b xs → Appends b c ys → Appends a c (xs ++ ys)
Appends-then None b c xs ys p q = tt
Appends-then (Some u) None c xs ys p q = absurd p
Appends-then (Some u) (Some v) None xs ys p q = absurd q
Appends-then (Some u) (Some v) (Some w) xs ys p q = q ∙ ap (λ z. z ++ ys) p ∙ append_assoc u xs ys

-- the lines of both
both-lines : (a b c : Option (List ℕ)) (book : Rulebook) (xs ys : List Call) → Appends a b (log_text (told book xs))
    → Appends b c (log_text (told (after book xs) ys)) → Appends a c (log_text (told book (xs ++ ys)))
both-lines a b c book xs ys p q =
    subst (λ z. Appends a c z) (sym (log_text-told book xs ys)) (Appends-then a b c _ _ p q)

-- the lines of both, and then more
lines-then : (a b c : Option (List ℕ)) (book : Rulebook) (xs ys : List Call) (more : List ℕ)
    → Appends a b (log_text (told book xs))
    → Appends b c (log_text (told (after book xs) ys) ++ more) → Appends a c (log_text (told book (xs ++ ys)) ++ more)
lines-then a b c book xs ys more p q =
    let e : log_text (told book xs) ++ (log_text (told (after book xs) ys) ++ more)
    ≡ log_text (told book (xs ++ ys)) ++ more =
    sym (append_assoc (log_text (told book xs)) (log_text (told (after book xs) ys)) more)
    ∙ ap (λ z. z ++ more) (sym (log_text-told book xs ys)) in
    subst (λ z. Appends a c z) e (Appends-then a b c _ _ p q)

-- a count that stops at top, and goes on
count-then : (u v w n m top : ℕ) → (u ≤ top → v ≡ min (u + n) top) → (v ≤ top → w ≡ min (v + m) top)
    → u ≤ top → w ≡ min (u + (n + m)) top
count-then u v w n m top p q h =
    let e : v ≡ min (u + n) top = p h in
    let f : w ≡ min (v + m) top = q (omega arith) in
    omega arith

module _ {W L : Type 0} (follows : W → List Call → W → Type 0) (has_stopped : W → Bool)
    (contents : L → Option (List ℕ)) where
  pub Follows-none : ((w : W) → follows w [] w) → (m : Watch W L) → Follows follows has_stopped contents m [] m
  Follows-none none m = record {
    policy = refl;
    inner = none m.world;
    failed = tt;
    denials = λ h. omega arith;
    goes = λ h. record { before = h; steady = refl; log = Appends-none (contents m.log) };
  }

  pub Follows-append : ((u v w : W) (xs ys : List Call) → follows u xs v → follows v ys w → follows u (xs ++ ys) w)
      → (u v w : Watch W L) (xs ys : List Call) → Follows follows has_stopped contents u xs v
      → Follows follows has_stopped contents v ys w → Follows follows has_stopped contents u (xs ++ ys) w
  Follows-append append u v w xs ys p q =
      let inner : follows v.world (asked (after u.policy xs) ys) w.world =
      subst (λ z. follows v.world (asked z ys) w.world) p.policy q.inner in
      let failed : AllFailed (after u.policy xs) ys = subst (λ z. AllFailed z ys) p.policy q.failed in
      let denials : v.denials ≤ 2 ^ 64 - 1
      → w.denials ≡ min (v.denials + length (told (after u.policy xs) ys)) (2 ^ 64 - 1) =
      subst (λ z. v.denials ≤ 2 ^ 64 - 1
      → w.denials ≡ min (v.denials + length (told z ys)) (2 ^ 64 - 1)) p.policy q.denials in
      let count : length (told u.policy (xs ++ ys)) ≡ length (told u.policy xs) + length (told (after u.policy xs) ys) =
      ap length (told-append u.policy xs ys) ∙ length-append (told u.policy xs) (told (after u.policy xs) ys) in
      record {
        policy = q.policy ∙ (ap (λ z. after z ys) p.policy ∙ sym (after-append u.policy xs ys));
        inner = subst (λ z. follows u.world z w.world) (sym (asked-append u.policy xs ys))
            (append u.world v.world w.world _ _ p.inner inner);
        failed = AllFailed-append u.policy xs ys p.failed failed;
        denials = λ h. count-then u.denials v.denials w.denials _ _ (2 ^ 64 - 1) p.denials denials h
            ∙ ap (λ z. min (u.denials + z) (2 ^ 64 - 1)) (sym count);
        goes = λ h.
            let late : Goes has_stopped contents v ys w = q.goes h in
            let early : Goes has_stopped contents u xs v = p.goes late.before in
            record {
              before = early.before;
              steady = late.steady ∙ early.steady;
              log = both-lines _ _ _ u.policy xs ys early.log
                  (subst (λ z. Appends (contents v.log) (contents w.log) (log_text (told z ys))) p.policy late.log);
            };
      }

-- a denied request that was answered Failed leaves the open numbers
numbers-failed : (book : Rulebook) (place : Place) (given : Bool) (request : Request) (numbers : List ℕ)
    → IsSome (denial_at book place given (subject_of request)) → numbers_after request Failed numbers ≡ numbers
numbers-failed book place given (Open mode text) numbers h = refl
numbers-failed book place given (Next n) numbers h = refl
numbers-failed book place given (Put n bytes) numbers h = refl
numbers-failed book place given (Shut n) numbers h = cc
numbers-failed book place given (System text) numbers h = refl
numbers-failed book place given (Env name) numbers h = refl
numbers-failed book place given (Assign name text) numbers h = refl

open-one : (book : Rulebook) (call : Call) (calls : List Call) (numbers : List ℕ) (b : Bool)
    → is_some (denial_of book call.0) ≡ b
    → FailsIfDenied book call
    → ((ns : List ℕ) → open_after (asked (after_ask book call.0) calls) ns ≡ open_after calls ns)
    → open_after
    (cond (not b) (call ∷ asked (after_ask book call.0) calls) (asked (after_ask book call.0) calls)) numbers
    ≡ open_after calls (numbers_after call.0.request call.1 numbers)
open-one book call calls numbers true h failed rest =
    let stays : numbers_after call.0.request call.1 numbers ≡ numbers =
    ap (λ r. numbers_after call.0.request r numbers) (failed h)
    ∙ numbers-failed book call.0.place call.0.given call.0.request numbers h in
    rest numbers ∙ ap (λ z. open_after calls z) (sym stays)
open-one book call calls numbers false h failed rest = rest (numbers_after call.0.request call.1 numbers)

-- the calls that are not denied leave the same numbers open
pub open-asked : (book : Rulebook) (calls : List Call) (numbers : List ℕ) → AllFailed book calls
    → open_after (asked book calls) numbers ≡ open_after calls numbers
open-asked book [] numbers failed = refl
open-asked book (call ∷ calls) numbers failed =
    open-one book call calls numbers (is_some (denial_of book call.0)) refl failed.0
    (λ ns. open-asked (after_ask book call.0) calls ns failed.1)

module _ {W L : Type 0} (follows : W → List Call → W → Type 0) (has_stopped : W → Bool)
    (contents : L → Option (List ℕ)) where
  pub Follows-open : (open_numbers : W → List ℕ)
      → ((v w : W) (calls : List Call) → follows v calls w → open_numbers w ≡ open_after calls (open_numbers v))
      → (v w : Watch W L) (calls : List Call) → Follows follows has_stopped contents v calls w
      → open_numbers w.world ≡ open_after calls (open_numbers v.world)
  Follows-open open_numbers leads_open v w calls p =
      leads_open v.world w.world _ p.inner ∙ open-asked v.policy calls (open_numbers v.world) p.failed

  policy_later : (u v : Watch W L) (xs ys : List Call) → Follows follows has_stopped contents u xs v
      → after v.policy ys ≡ after u.policy (xs ++ ys)
  policy_later u v xs ys p = ap (λ z. after z ys) p.policy ∙ sym (after-append u.policy xs ys)

  -- what ended the log of the rest ends that of all
  LogEnds-later : (stop : Option LogEnd) (u v w : Option (List ℕ)) (book : Rulebook) (xs ys : List Call) (line : List ℕ)
      → Appends u v (log_text (told book xs)) → LogEnds stop v w (log_text (told (after book xs) ys)) line
      → LogEnds stop u w (log_text (told book (xs ++ ys))) line
  LogEnds-later None u v w book xs ys line p q = absurd q
  LogEnds-later (Some Whole) u v w book xs ys line p q = absurd q
  LogEnds-later (Some Part) u v w book xs ys line p q = (q.0, q.1, lines-then u v w book xs ys (take q.0 line) p q.2)
  LogEnds-later (Some Unsure) u v w book xs ys line p q = lines-then u v w book xs ys line p q

  Stops-at : (stops : W → List Call → Ask → W → Type 0)
      → ((u v w : W) (xs ys : List Call) (ask : Ask) → follows u xs v → has_stopped v ≡ has_stopped u → stops v ys ask w
      → stops u (xs ++ ys) ask w)
      → (u v w : Watch W L) (xs ys : List Call) (ask : Ask) → Follows follows has_stopped contents u xs v
      → is_some v.stop ≡ is_some u.stop
      → Stops stops contents v ys ask w → (s : Option LogEnd) → v.stop ≡ s → Stops stops contents u (xs ++ ys) ask w
  Stops-at stops later u v w xs ys ask p same q (Some s) h = inl (sym same ∙ ap is_some h)
  Stops-at stops later u v w xs ys ask p same q None h =
      let going : Goes has_stopped contents u xs v = p.goes h in
      elim q [
        | inl a ↦ inl (sym same ∙ a)
        | inr r ↦ elim r [
          | inl a ↦ inr (inl (record {
            line = a.line;
            denied = subst (λ z. denial_of z ask ≡ Some a.line) (policy_later u v xs ys p) a.denied;
            log = LogEnds-later w.stop _ (contents v.log) _ u.policy xs ys (line_of a.line) going.log
                (subst (λ z. LogEnds w.stop (contents v.log) (contents w.log) (log_text (told z ys))
                (line_of a.line)) p.policy a.log);
          }))
          | inr a ↦ inr (inr (record {
            allowed = subst (λ z. denial_of z ask ≡ None) (policy_later u v xs ys p) a.allowed;
            inner = subst (λ z. stops u.world z ask w.world) (sym (asked-append u.policy xs ys))
                (later u.world v.world w.world _ _ ask p.inner going.steady
                (subst (λ z. stops v.world (asked z ys) ask w.world) p.policy a.inner));
            stop = a.stop;
            log = both-lines _ _ _ u.policy xs ys going.log
                (subst (λ z. Appends (contents v.log) (contents w.log) (log_text (told z ys))) p.policy a.log);
          }))
        ]
      ]

  pub Stops-later : (stops : W → List Call → Ask → W → Type 0)
      → ((u v w : W) (xs ys : List Call) (ask : Ask) → follows u xs v → has_stopped v ≡ has_stopped u → stops v ys ask w
      → stops u (xs ++ ys) ask w)
      → (u v w : Watch W L) (xs ys : List Call) (ask : Ask) → Follows follows has_stopped contents u xs v
      → is_some v.stop ≡ is_some u.stop
      → Stops stops contents v ys ask w → Stops stops contents u (xs ++ ys) ask w
  Stops-later stops later u v w xs ys ask p same q = Stops-at stops later u v w xs ys ask p same q v.stop refl
