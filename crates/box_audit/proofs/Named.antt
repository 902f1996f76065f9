-- What is told of the calls that events are.
use Rattle.std.proofs.Common.{◌≡◌, ℕ, Bool, true, false, List, [], ◌∷◌, ◌++◌, Option, None, is_some, refl, ap, ◌∙◌}
use Rattle.std.proofs.Common.{subst, inl, inr}
use Rattle.std.specs.Prelude.{option_to_list}
use Rattle.std.proofs.lemmas.List.{append-nil}
use Rattle.box_monitor.specs.Passed.{passed_on, subject_of_wish}
use Rattle.box_monitor.specs.Subjects.{subject_of}
use Rattle.box_world.specs.Calls.{Call}
use Rattle.box_world.specs.Events.{Event, Stream, ask_of, calls, open_streams, request_of}
use Rattle.box_world.specs.Events.{Wish, Opens, Reads, Writes, Shuts, Runs, Looks, Assigns}
use Rattle.box_audit.specs.Audit.{Audit, Grows}
use Rattle.box_audit.specs.Audited.{audit_text, audited, audited_at, audited_of}
use Rattle.box_audit.specs.Events.{NamesAllowed, audited_event, audited_events}
use Rattle.box_audit.specs.Laws.{audited-append}
use Rattle.box_audit.specs.Follows.{Follows}

-- a wish has the subject of the request that it becomes
subject_is : (wish : Wish) (streams : List Stream) → subject_of (request_of wish streams) ≡ subject_of_wish wish
subject_is (Opens mode class text) streams = refl
subject_is (Reads key) streams = refl
subject_is (Writes key bytes) streams = refl
subject_is (Shuts key) streams = refl
subject_is (Runs command) streams = refl
subject_is (Looks name) streams = refl
subject_is (Assigns name text) streams = refl

audited_calls : (events : List Event) → audited (calls events) ≡ audited_events events
audited_calls [] = refl
audited_calls (e ∷ es) =
    let call : Call = (ask_of e.want (open_streams es), e.reply) in
    let told : option_to_list (audited_of call) ≡ option_to_list (audited_event e) =
    ap (λ z. option_to_list (audited_at e.want.place z e.reply)) (subject_is e.want.wish (open_streams es)) in
    audited-append (calls es) (call ∷ [])
    ∙ ap (λ z. audited (calls es) ++ z) (append-nil (option_to_list (audited_of call)) ∙ told)
    ∙ ap (λ z. z ++ option_to_list (audited_event e)) (audited_calls es)

module _ {W L : Type 0} (follows : W → List Call → W → Type 0) (has_stopped : W → Bool) (contents : L → Option (List ℕ))
  where
    -- what has not stopped has written the lines of its calls
    lines_written : (old new : Audit W L) (done : List Call) → Follows follows has_stopped contents old done new
        → new.halt ≡ None
        → Grows contents old.log new.log (audit_text (audited done))
    lines_written old new done p going = elim p [
      | inl a ↦ a.log
      | inr r ↦ elim r [
        | inl a ↦ absurd (stopped (ap is_some a.after))
        | inr r ↦ elim r [
          | inl a ↦ absurd (stopped (ap is_some a.1.after))
          | inr a ↦ absurd (stopped (ap (λ (z : Audit W L). is_some z.halt) a.same ∙ a.before))
        ]
      ]
    ]
      where
        stopped : is_some new.halt ≡ true → ⊥
        stopped h = let e : is_some new.halt ≡ false = ap is_some going in cc

    pub names_allowed : NamesAllowed follows has_stopped contents
    names_allowed book events old new p going =
        subst (λ z. Grows contents old.log new.log (audit_text z)) (audited_calls (passed_on book events))
        (lines_written old new (calls (passed_on book events)) p going)
