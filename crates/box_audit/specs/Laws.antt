-- The laws of what an audit goes on by.
use Rattle.std.specs.Prelude.{◌≡◌, refl, ℕ, ◌-◌, Bool, true, false, List, [], ◌∷◌, ◌++◌, length, take}
use Rattle.std.specs.Prelude.{Option, None, Some, is_some, option_to_list}
use Rattle.std.specs.Io.KnownBytes.{Appends}
use Rattle.std.proofs.Common.{ap, sym, ◌∙◌, subst, append_assoc, length-append, arith, inl, inr}
use Rattle.std.proofs.lemmas.Grind.{flat_map-append}
use Rattle.std.proofs.lemmas.List.{append-nil, take_at}
use Rattle.awk_text.specs.declared.place.Place.{Place}
use Rattle.box_monitor.specs.Laws.{Appends-then}
use Rattle.box_monitor.specs.Stops.{LogEnds}
use Rattle.box_monitor.specs.Subjects.{subject_of}
use Rattle.box_monitor.specs.declared.log_end.LogEnd.{LogEnd}
use Rattle.box_monitor.specs.declared.log_end.LogEnd.TheVariants.{Whole, Part, Unsure}
use Rattle.box_world.specs.Calls.{Call, numbers_after, open_after, open_after-append}
use Rattle.box_world.specs.declared.ask.Ask.{Ask}
use Rattle.box_world.specs.declared.ask.Reply.{Reply}
use Rattle.box_world.specs.declared.ask.Reply.TheVariants.{Opened, Bytes, End, Done, Status, Value, Failed}
use Rattle.box_world.specs.declared.ask.Request.{Request}
use Rattle.box_world.specs.declared.ask.Request.TheVariants.{Open, Next, Put, Shut, System, Env, Assign}
use Rattle.box_audit.specs.Audit.{Audit, BreaksOff, Grows, halt_behind, numbers_told}
use Rattle.box_audit.specs.Audited.{Audited, audit_text, audited, audited_at, audited_of, line_of}
use Rattle.box_audit.specs.Follows.{Goes, GoesToLine, IsIdle, Follows, opens}
use Rattle.box_audit.specs.Stops.{Stops}
use Rattle.box_audit.specs.declared.watched.Halt.{Halt}

pub audited-append : (xs ys : List Call) → audited (xs ++ ys) ≡ audited xs ++ audited ys
audited-append xs ys = flat_map-append (λ call. option_to_list (audited_of call)) xs ys

pub text-append : (xs ys : List Call)
    → audit_text (audited (xs ++ ys)) ≡ audit_text (audited xs) ++ audit_text (audited ys)
text-append xs ys = ap audit_text (audited-append xs ys) ∙ flat_map-append line_of (audited xs) (audited ys)

Appends-none : (a : Option (List ℕ)) → Appends a a []
Appends-none None = tt
Appends-none (Some text) = sym (append-nil text)

module _ {L : Type 0} (contents : L → Option (List ℕ)) where
  pub Grows-none : (log : Option L) → Grows contents log log []
  Grows-none None = tt
  Grows-none (Some log) = Appends-none (contents log)

  pub Grows-then : (a b c : Option L) (xs ys : List ℕ) → Grows contents a b xs → Grows contents b c ys
      → Grows contents a c (xs ++ ys)
  Grows-then None None None xs ys p q = tt
  Grows-then None None (Some c) xs ys p q = absurd q
  Grows-then None (Some b) c xs ys p q = absurd p
  Grows-then (Some a) None c xs ys p q = absurd p
  Grows-then (Some a) (Some b) None xs ys p q = absurd q
  Grows-then (Some a) (Some b) (Some c) xs ys p q = Appends-then (contents a) (contents b) (contents c) xs ys p q

  -- the lines of both
  both-lines : (a b c : Option L) (xs ys : List Call) → Grows contents a b (audit_text (audited xs))
      → Grows contents b c (audit_text (audited ys)) → Grows contents a c (audit_text (audited (xs ++ ys)))
  both-lines a b c xs ys p q = subst (λ z. Grows contents a c z) (sym (text-append xs ys)) (Grows-then a b c _ _ p q)

  Ends-then : (end : LogEnd) (a b c : Option (List ℕ)) (xs ys line : List ℕ) → Appends a b xs
      → LogEnds (Some end) b c ys line → LogEnds (Some end) a c (xs ++ ys) line
  Ends-then Whole a b c xs ys line p q = absurd q
  Ends-then Part a b c xs ys line p q = (
    q.0,
    q.1,
    subst (λ z. Appends a c z) (sym (append_assoc xs ys (take q.0 line)))
        (Appends-then a b c xs (ys ++ take q.0 line) p q.2),
  )
  Ends-then Unsure a b c xs ys line p q =
      subst (λ z. Appends a c z) (sym (append_assoc xs ys line)) (Appends-then a b c xs (ys ++ line) p q)

  BreaksOff-then : (end : LogEnd) (a b c : Option L) (xs ys line : List ℕ) → Grows contents a b xs
      → BreaksOff contents end b c ys line → BreaksOff contents end a c (xs ++ ys) line
  BreaksOff-then end a None c xs ys line p q = absurd q
  BreaksOff-then end a (Some b) None xs ys line p q = absurd q
  BreaksOff-then end None (Some b) (Some c) xs ys line p q = absurd p
  BreaksOff-then end (Some a) (Some b) (Some c) xs ys line p q =
      Ends-then end (contents a) (contents b) (contents c) xs ys line p q

  -- the lines of some calls, and then what ends the log
  lines-break : (end : LogEnd) (a b c : Option L) (xs ys : List Call) (line : List ℕ)
      → Grows contents a b (audit_text (audited xs)) → BreaksOff contents end b c (audit_text (audited ys)) line
      → BreaksOff contents end a c (audit_text (audited (xs ++ ys))) line
  lines-break end a b c xs ys line p q =
      subst (λ z. BreaksOff contents end a c z line) (sym (text-append xs ys)) (BreaksOff-then end a b c _ _ line p q)

-- the numbers that are told after an ask whose reply is not handed on are those before it
all_but_last : (numbers : List ℕ) (n : ℕ)
    → take (length (numbers ++ n ∷ []) - 1) (numbers ++ n ∷ []) ≡ numbers
all_but_last numbers n = take_at numbers (n ∷ []) _ (let e = length-append numbers (n ∷ []) in omega arith)

numbers-kept : (end : LogEnd) (place : Place) (request : Request) (reply : Reply) (line : Audited) (numbers : List ℕ)
    → audited_at place (subject_of request) reply ≡ Some line
    → numbers_told (Some (record { log_end = end; has_opened = opens request reply }))
    (numbers_after request reply numbers) ≡ numbers
numbers-kept end place (Open mode text) (Opened n) line numbers h = all_but_last numbers n
numbers-kept end place (Open mode text) (Bytes bytes) line numbers h = refl
numbers-kept end place (Open mode text) End line numbers h = refl
numbers-kept end place (Open mode text) Done line numbers h = refl
numbers-kept end place (Open mode text) (Status s) line numbers h = refl
numbers-kept end place (Open mode text) (Value v) line numbers h = refl
numbers-kept end place (Open mode text) Failed line numbers h = refl
numbers-kept end place (Next n) reply line numbers h = refl
numbers-kept end place (Put n bytes) reply line numbers h = refl
numbers-kept end place (Shut n) reply line numbers h = cc
numbers-kept end place (System text) reply line numbers h = refl
numbers-kept end place (Env name) reply line numbers h = refl
numbers-kept end place (Assign name text) reply line numbers h = refl

module _ {W L : Type 0} (follows : W → List Call → W → Type 0) (has_stopped : W → Bool) (contents : L → Option (List ℕ))
  where
    pub Follows-none : ((w : W) → follows w [] w) → (a : Audit W L) → Follows follows has_stopped contents a [] a
    Follows-none none a = by a.halt refl
      where
        by : (h : Option Halt) → a.halt ≡ h → Follows follows has_stopped contents a [] a
        by None e = inl (record {
          before = e;
          after = e;
          inner = none a.world;
          steady = refl;
          log = Grows-none contents a.log;
        })
        by (Some halt) e = inr (inr (inr (record { before = ap is_some e; none = refl; same = refl })))

    -- what had stopped does nothing more
    then-idle : (u v w : Audit W L) (xs ys : List Call) → Follows follows has_stopped contents u xs v
        → IsIdle follows has_stopped contents v ys w → Follows follows has_stopped contents u (xs ++ ys) w
    then-idle u v w xs ys p q =
        subst (λ z. Follows follows has_stopped contents u z w) (sym (ap (λ z. xs ++ z) q.none ∙ append-nil xs))
        (subst (λ z. Follows follows has_stopped contents u xs z) (sym q.same) p)

    idle-then : (u v w : Audit W L) (xs ys : List Call) → IsIdle follows has_stopped contents u xs v
        → Follows follows has_stopped contents v ys w → Follows follows has_stopped contents u (xs ++ ys) w
    idle-then u v w xs ys p q =
        subst (λ z. Follows follows has_stopped contents u (z ++ ys) w) (sym p.none)
        (subst (λ z. Follows follows has_stopped contents z ys w) p.same q)

    -- what has stopped goes on by no call
    not-after : (v w : Audit W L) (ys : List Call) (halt : Halt) → v.halt ≡ Some halt
        → Follows follows has_stopped contents v ys w → IsIdle follows has_stopped contents v ys w
    not-after v w ys halt h q = elim q [
      | inl a ↦ absurd (stopped a.before)
      | inr r ↦ elim r [
        | inl a ↦ absurd (stopped a.before)
        | inr r ↦ elim r [
          | inl a ↦ absurd (stopped a.1.before)
          | inr a ↦ a
        ]
      ]
    ]
      where
        stopped : v.halt ≡ None → ⊥
        stopped e = cc

    module _ (append : (u v w : W) (xs ys : List Call) → follows u xs v → follows v ys w → follows u (xs ++ ys) w) where
      pub Goes-then : (u v w : Audit W L) (xs ys : List Call) → Goes follows has_stopped contents u xs v
          → Goes follows has_stopped contents v ys w → Goes follows has_stopped contents u (xs ++ ys) w
      Goes-then u v w xs ys p q = record {
        before = p.before;
        after = q.after;
        inner = append u.world v.world w.world xs ys p.inner q.inner;
        steady = q.steady ∙ p.steady;
        log = both-lines contents u.log v.log w.log xs ys p.log q.log;
      }

      pub GoesToLine-then : (u v w : Audit W L) (xs ys : List Call) (last : Call)
          → Goes follows has_stopped contents u xs v → GoesToLine follows has_stopped contents v ys last w
          → GoesToLine follows has_stopped contents u (xs ++ ys) last w
      GoesToLine-then u v w xs ys last p q = record {
        before = p.before;
        inner = subst (λ z. follows u.world z w.world) (sym (append_assoc xs ys (last ∷ [])))
            (append u.world v.world w.world xs (ys ++ last ∷ []) p.inner q.inner);
        line = q.line;
        told = q.told;
        end = q.end;
        after = q.after;
        log = lines-break contents q.end u.log v.log w.log xs ys (line_of q.line) p.log q.log;
      }

      going-then : (u v w : Audit W L) (xs ys : List Call) → Goes follows has_stopped contents u xs v
          → Follows follows has_stopped contents v ys w → Follows follows has_stopped contents u (xs ++ ys) w
      going-then u v w xs ys p q = elim q [
        | inl a ↦ inl (Goes-then u v w xs ys p a)
        | inr r ↦ elim r [
          | inl a ↦ inr (inl (record {
            before = p.before;
            after = a.after;
            inner = append u.world v.world w.world xs ys p.inner a.inner;
            log = both-lines contents u.log v.log w.log xs ys p.log a.log;
          }))
          | inr r ↦ elim r [
            | inl a ↦ inr (inr (inl (a.0, GoesToLine-then u v w xs ys a.0 p a.1)))
            | inr a ↦ then-idle u v w xs ys (inl p) a
          ]
        ]
      ]

      pub Follows-append : (u v w : Audit W L) (xs ys : List Call) → Follows follows has_stopped contents u xs v
          → Follows follows has_stopped contents v ys w → Follows follows has_stopped contents u (xs ++ ys) w
      Follows-append u v w xs ys p q = elim p [
        | inl a ↦ going-then u v w xs ys a q
        | inr r ↦ elim r [
          | inl a ↦ then-idle u v w xs ys (inr (inl a)) (not-after v w ys halt_behind a.after q)
          | inr r ↦ elim r [
            | inl a ↦ then-idle u v w xs ys (inr (inr (inl a))) (not-after v w ys _ a.1.after q)
            | inr a ↦ idle-then u v w xs ys a q
          ]
        ]
      ]

    module _ (open_numbers : W → List ℕ)
        (leads_open : (v w : W) (calls : List Call) → follows v calls w
        → open_numbers w ≡ open_after calls (open_numbers v)) where
      -- the numbers told by one that goes on are those behind
      numbers-going : (a : Audit W L) → a.halt ≡ None
          → numbers_told a.halt (open_numbers a.world) ≡ open_numbers a.world
      numbers-going a h = ap (λ z. numbers_told z (open_numbers a.world)) h

      open-going : (v w : Audit W L) (calls : List Call) → v.halt ≡ None → follows v.world calls w.world
          → open_numbers w.world ≡ open_after calls (numbers_told v.halt (open_numbers v.world))
      open-going v w calls h p = leads_open v.world w.world calls p ∙ ap (open_after calls) (sym (numbers-going v h))

      open-line : (v w : Audit W L) (calls : List Call) (last : Call)
          → GoesToLine follows has_stopped contents v calls last w
          → numbers_told w.halt (open_numbers w.world) ≡ open_after calls (numbers_told v.halt (open_numbers v.world))
      open-line v w calls last p =
          let numbers : List ℕ = open_after calls (numbers_told v.halt (open_numbers v.world)) in
          let after : open_numbers w.world ≡ numbers_after last.0.request last.1 numbers =
          open-going v w (calls ++ last ∷ []) p.before p.inner ∙ open_after-append calls (last ∷ []) _ in
          ap (λ z. numbers_told z (open_numbers w.world)) p.after
          ∙ ap (λ z. numbers_told (Some (record { log_end = p.end; has_opened = opens last.0.request last.1 })) z) after
          ∙ numbers-kept p.end last.0.place last.0.request last.1 p.line numbers p.told

      pub Follows-open : (v w : Audit W L) (calls : List Call) → Follows follows has_stopped contents v calls w
          → numbers_told w.halt (open_numbers w.world) ≡ open_after calls (numbers_told v.halt (open_numbers v.world))
      Follows-open v w calls p = elim p [
        | inl a ↦ numbers-going w a.after ∙ open-going v w calls a.before a.inner
        | inr r ↦ elim r [
          | inl a ↦ ap (λ z. numbers_told z (open_numbers w.world)) a.after ∙ open-going v w calls a.before a.inner
          | inr r ↦ elim r [
            | inl a ↦ open-line v w calls a.0 a.1
            | inr a ↦ ap (λ (z : Audit W L). numbers_told z.halt (open_numbers z.world)) a.same
                ∙ ap (λ z. open_after z (numbers_told v.halt (open_numbers v.world))) (sym a.none)
          ]
        ]
      ]

    module _ (append : (u v w : W) (xs ys : List Call) → follows u xs v → follows v ys w → follows u (xs ++ ys) w)
        (stops : W → List Call → Ask → W → Type 0)
        (later : (u v w : W) (xs ys : List Call) (ask : Ask) → follows u xs v → has_stopped v ≡ has_stopped u
        → stops v ys ask w → stops u (xs ++ ys) ask w) where
      going-stops : (u v w : Audit W L) (xs ys : List Call) (ask : Ask) → Goes follows has_stopped contents u xs v
          → Stops follows has_stopped stops contents v ys ask w
          → Stops follows has_stopped stops contents u (xs ++ ys) ask w
      going-stops u v w xs ys ask p q = elim q [
        | inl a ↦ absurd (going a)
        | inr r ↦ elim r [
          | inl a ↦ inr (inl (a.0, GoesToLine-then append u v w xs ys (ask, a.0) p a.1))
          | inr a ↦ inr (inr (record {
            inner = later u.world v.world w.world xs ys ask p.inner p.steady a.inner;
            after = a.after;
            log = both-lines contents u.log v.log w.log xs ys p.log a.log;
          }))
        ]
      ]
        where
          going : is_some v.halt ≡ true → ⊥
          going e = let h : is_some v.halt ≡ false = ap is_some p.after in cc

      pub Stops-later : (u v w : Audit W L) (xs ys : List Call) (ask : Ask) → Follows follows has_stopped contents u xs v
          → is_some v.halt ≡ is_some u.halt → Stops follows has_stopped stops contents v ys ask w
          → Stops follows has_stopped stops contents u (xs ++ ys) ask w
      Stops-later u v w xs ys ask p same q = elim p [
        | inl a ↦ going-stops u v w xs ys ask a q
        | inr r ↦ elim r [
          | inl a ↦ inl (sym same ∙ ap is_some a.after)
          | inr r ↦ elim r [
            | inl a ↦ inl (sym same ∙ ap is_some a.1.after)
            | inr a ↦ inl a.before
          ]
        ]
      ]
