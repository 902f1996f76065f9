-- The parts of a program: how each begins, and what ends it.
use Rattle.std.proofs.Common.{◌≡◌, refl, sym, ap, subst, ◌∙◌, false, List, [], ◌∷◌, ◌++◌, map}
use Rattle.std.specs.Prelude.{Ok}
use Rattle.box_world.specs.declared.world.World.{Ghosts}
use Rattle.awk_program.specs.Program.{Statement}
use Rattle.awk_program.specs.View.{view_statement}
use Rattle.awk_machine.specs.Advances.{advance}
use Rattle.awk_machine.specs.Pieces as machine
use Rattle.awk_machine.specs.Pieces.{Piece, Do, Each, Enter, Finish, Goes, Faulted, ends}
use Rattle.awk_machine.specs.Rules.{concatenated, records}
use Rattle.awk_machine.specs.State.{State, Given, Ending}
use Rattle.awk_machine.specs.Streams.{seen}
use Rattle.awk_store.specs.Changes.{with_phase}
use Rattle.awk_store.specs.Kept.{Kept}
use Rattle.awk_store.specs.States.{phase_of}
use Rattle.awk_store.specs.declared.phase.Phase.{Phase}
use Rattle.awk_store.specs.declared.phase.Phase.TheVariants as phase
use Rattle.awk_streams.specs.Chains.{Leads, Meets}
use Rattle.awk_streams.specs.Tables.{Table}
use Rattle.awk_streams.proofs.Chain.{at_once, changes, done}
use Rattle.awk_streams.specs.Ends.{is_on}
use Rattle.awk_streams.specs.Flows.{flows}
use Rattle.awk_streams.specs.declared.flow.Flow.{Flow}
use Rattle.awk_streams.specs.declared.flow.Flow.TheVariants as flow
use Rattle.awk_store.specs.Wholes.{Whole, Agreeing, base, names_in, used}
use Rattle.awk_forms.specs.Runs.{IsGiven}
use Rattle.awk_eval.proofs.Going.{each_off}
use Rattle.awk_forms.specs.declared.context.Context.{Context}
use Rattle.awk_run.specs.Outcomes.{own_status}
use Rattle.awk_run.specs.Runs.{Reached}
use Rattle.awk_run.proofs.Reaching.{then_move, then_part}

-- ---- the actions of BEGIN and of END

pub past_twice : (f : Flow) (xs ys : List Statement) (k : List Piece) → is_on f ≡ false
    → flows f (Do (Each xs) ∷ k) ≡ flows f (Do (Each ys) ∷ k)
past_twice f xs ys k e = each_off f xs k e ∙ sym (each_off f ys k e)

-- what stands behind BEGIN and END is done whatever ended them
pub flows_task : (f : Flow) (phase : _) (k : List Piece) → flows f (Do (Enter phase) ∷ k) ≡ Do (Enter phase) ∷ k
flows_task flow.On phase k = refl
flows_task flow.Break phase k = refl
flows_task flow.Continue phase k = refl
flows_task flow.Return phase k = refl
flows_task (flow.ReturnNumber n) phase k = refl
flows_task (flow.ReturnValue v) phase k = refl

pub flows_finish : (f : Flow) (k : List Piece) → flows f (Do Finish ∷ k) ≡ Do Finish ∷ k
flows_finish flow.On k = refl
flows_finish flow.Break k = refl
flows_finish flow.Continue k = refl
flows_finish flow.Return k = refl
flows_finish (flow.ReturnNumber n) k = refl
flows_finish (flow.ReturnValue v) k = refl

module _ (g : Given) (cx : Context) (is : IsGiven cx g) where
  names_so : names_in g ≡ map (λ n. n.text) cx.program.now.variables
  names_so = ap (λ q. map (λ n. n.text) q.variables) is.program

  pub begin_so : g.program.begin ≡ map (map (view_statement (names_in g))) cx.program.now.begin
  begin_so = ap (λ q. q.begin) is.program ∙ ap (λ names. map (map (view_statement names)) cx.program.now.begin)
      (sym names_so)

  pub end_so : g.program.end ≡ map (map (view_statement (names_in g))) cx.program.now.end
  end_so = ap (λ q. q.end) is.program ∙ ap (λ names. map (map (view_statement names)) cx.program.now.end) (sym names_so)

-- ---- a part begins

abbrev pub entered : Given → Phase → List Piece → List Piece
entered g phase.Beginning k = Do (Each (concatenated g.program.begin)) ∷ k
entered g phase.Ruling k = records g.program ++ k
entered g phase.Ending k = Do (Each (concatenated g.program.end)) ∷ Do Finish ∷ []

enter_so : (g : Given) (ph : Phase) (k : List Piece) (s : State) → advance g (Do (Enter (phase_of ph)) ∷ k) s
    ≡ Goes (entered g ph k) (record s { phase = phase_of ph })
enter_so g phase.Beginning k s = refl
enter_so g phase.Ruling k s = refl
enter_so g phase.Ending k s = refl

module _ {W : Type 0} {ghosts : Ghosts W} {g : Given} where
  entered_now : (ph : Phase) (old : Kept) (t : Table) (w : W)
      → Leads ghosts (base g) (Agreeing g) used g (Do (Enter (phase_of ph))) (old, t) w (entered g ph)
      (with_phase ph old, t) w
  entered_now ph old t w = changes refl (at_once _ (old, t) w) (λ k hid c a. (
    hid,
    record { tells = a.tells; row = a.row; cells = a.cells; sound = a.sound },
    enter_so g ph k (seen (base g (old, t) hid) c),
  ))

  pub enters : (ph : Phase) (old new : Kept) (t : Table) (w : W) → new ≡ with_phase ph old
      → Leads ghosts (base g) (Agreeing g) used g (Do (Enter (phase_of ph))) (old, t) w (entered g ph) (new, t) w
  enters ph old new t w same = subst (λ (n : Kept). Leads ghosts (base g) (Agreeing g) used g (Do (Enter (phase_of ph)))
      (old, t) w (entered g ph) (n, t) w) (sym same) (entered_now ph old t w)

-- ---- the end of a run's own work

module _ {W : Type 0} {ghosts : Ghosts W} {g : Given} {first : W} {now : Whole} {w : W} where
  pub finishes : Reached ghosts g first (Do Finish ∷ []) now w
      → Reached ghosts g first (ends (machine.Status (own_status now.0))) now w
  finishes y = then_move (ends (machine.Status (own_status now.0))) y (λ hid c. refl)

  -- where nothing is left to be done, the run has ended too
  pub runs_out : Reached ghosts g first [] now w → Reached ghosts g first (ends (machine.Status (own_status now.0))) now
      w
  runs_out y = then_move (ends (machine.Status (own_status now.0))) y (λ hid c. refl)

-- END begins
module _ {W : Type 0} {ghosts : Ghosts W} (g : Given) (cx : Context) (is : IsGiven cx g) {first w : W} where
  pub ending : (old new : Kept) (t : Table) → new ≡ with_phase phase.Ending old
      → Reached ghosts g first (Do (Enter Ending) ∷ []) (old, t) w →
      Reached ghosts g first (Do (Each (concatenated (map (map (view_statement (names_in g))) cx.program.now.end))) ∷ Do
      Finish ∷ []) (new, t) w
  ending old new t same y =
      subst (λ xs. Reached ghosts g first (Do (Each (concatenated xs)) ∷ Do Finish ∷ []) (new, t) w) (end_so g cx is)
      (then_part (tt {0}) y (done_as {to = λ u k. Do (Each (concatenated g.program.end)) ∷ Do Finish ∷ []}
      (enters {ghosts = ghosts} {g = g} phase.Ending old new t w same)) refl)
    where
      done_as : {to : Unit {0} → List Piece → List Piece}
          → Leads ghosts (base g) (Agreeing g) used g (Do (Enter Ending)) (old, t) w (to (tt {0})) (new, t) w →
          Meets ghosts (base g) (Agreeing g) used g (Do (Enter Ending)) to (old, t) w (Ok (tt {0})) (new, t) w
      done_as h = done h
