-- The steps that answers about tasks are made of.
use Rattle.std.proofs.Common.{◌≡◌, ◌⊎◌, inl, inr, refl, sym, subst, ◌∙◌, List, ◌∷◌}
use Rattle.std.specs.Prelude.{Result, Ok, Err}
use Rattle.awk_text.specs.declared.fault.Fault.{Fault}
use Rattle.awk_text.specs.declared.fault.Fault.TheVariants as fault
use Rattle.awk_text.specs.declared.place.Place.{Place}
use Rattle.box_world.specs.Events.{calls}
use Rattle.box_world.specs.declared.world.World.{Ghosts}
use Rattle.awk_machine.specs.Advances.{advance}
use Rattle.awk_machine.specs.Pieces.{Piece, Goes, Seeks, Faulted, ends}
use Rattle.awk_machine.specs.Plays.{Reaches, here, goes, seeks, lacks}
use Rattle.awk_machine.specs.Questions.{Question, Answer, Right}
use Rattle.awk_machine.specs.State.{Course, Given}
use Rattle.awk_machine.specs.Streams.{seen}
use Rattle.awk_store.specs.States.{Hidden}
use Rattle.awk_streams.specs.declared.halt.Halt.{Halt}
use Rattle.awk_streams.specs.declared.halt.Halt.TheVariants as halt
use Rattle.awk_streams.specs.Chains.{Follows, Halted, Meets}
use Rattle.awk_streams.specs.Tasks.{goes_on}
use Rattle.awk_streams.proofs.Chain.{join}
use Rattle.awk_store.specs.Wholes.{Whole, Agreeing, base, used}
use Rattle.awk_streams.specs.Chains.{halt_at}
use Rattle.awk_store.specs.Acts.{Settles, HaltsSo, Passes, Acts}

module _ {g : Given} where
  -- ---- the steps

  -- a part stands before its piece
  pub at_rest : (p : Piece) (old : Whole) → Passes g p old (λ k. p ∷ k) old
  at_rest p old = record { same = refl; settles = λ k hid c a. record { hidden = hid; agrees = a; chain = here } }

  module _ {p : Piece} {old mid : Whole} where
    -- a move that changes nothing
    pub moves : {to then_ : List Piece → List Piece} → Passes g p old to mid →
        ((k : List Piece) (hid : Hidden) (c : Course) → Agreeing g mid hid c
        → advance g (to k) (seen (base g mid hid) c) ≡ Goes (then_ k) (seen (base g mid hid) c)) →
        Passes g p old then_ mid
    moves h e = record {
      same = h.same;
      settles = λ k hid c a. let x = h.settles k hid c a in
          record { hidden = x.hidden; agrees = x.agrees; chain = join x.chain (goes (e k x.hidden c x.agrees) here) };
    }

    -- one that changes the store, or what the code does not hold
    pub alters : {to then_ : List Piece → List Piece} {new : Whole} → used new ≡ used mid → Passes g p old to mid →
        ((k : List Piece) (hid : Hidden) (c : Course) → Agreeing g mid hid c →
        (hid' : Hidden) × Agreeing g new hid' c
        × (advance g (to k) (seen (base g mid hid) c) ≡ Goes (then_ k) (seen (base g new hid') c))) →
        Passes g p old then_ new
    alters same h e = record {
      same = same ∙ h.same;
      settles = λ k hid c a. let x = h.settles k hid c a in let y = e k x.hidden c x.agrees in
          record { hidden = y.0; agrees = y.1; chain = join x.chain (goes y.2 here) };
    }

    -- the code has changed, and the machine not
    pub keeps : {to : List Piece → List Piece} {new : Whole} → used new ≡ used mid
        → ((hid : Hidden) → base g mid hid ≡ base g new hid) →
        ((hid : Hidden) (c : Course) → Agreeing g mid hid c → Agreeing g new hid c) → Passes g p old to mid
        → Passes g p old to new
    keeps {to = to} same still agree h = record {
      same = same ∙ h.same;
      settles = λ k hid c a. let x = h.settles k hid c a in
          record {
            hidden = x.hidden;
            agrees = agree x.hidden c x.agrees;
            chain =
                subst (λ s. Reaches g (p ∷ k) (seen (base g old hid) c) c (to k) (seen s c) c) (still x.hidden) x.chain;
          };
    }

    -- a question, and its right answer
    pub finds : {to : List Piece → List Piece} {then_ : List Piece → Answer → List Piece} (q : Hidden → Question)
        (answer : Answer) → Passes g p old to mid →
        ((k : List Piece) (hid : Hidden) (c : Course) → Agreeing g mid hid c →
        (advance g (to k) (seen (base g mid hid) c) ≡ Seeks (q hid) (then_ k) (seen (base g mid hid) c))
        × Right (q hid) answer) →
        Passes g p old (λ k. then_ k answer) mid
    finds q answer h e = record {
      same = h.same;
      settles = λ k hid c a. let x = h.settles k hid c a in let y = e k x.hidden c x.agrees in
          record { hidden = x.hidden; agrees = x.agrees; chain = join x.chain (seeks answer y.0 y.1 here) };
    }

    -- the same pieces, said in other words
    pub reworded : {to then_ : List Piece → List Piece} → Passes g p old to mid → ((k : List Piece) → to k ≡ then_ k)
        → Passes g p old then_ mid
    reworded h e = record { same = h.same; settles = λ k hid c a. rw (e k) at (h.settles k hid c a) }

    -- a task is done, and its value goes where `on` says
    pub doing : {A : Type 0} {q : Piece} {to : List Piece → List Piece} {on : A → List Piece → List Piece} {new : Whole}
        {r : Result A Halt} (x : A) →
        Passes g p old (λ k. q ∷ to k) mid → Acts g q on mid r new → r ≡ Ok x → Passes g p old (λ k. on x (to k)) new
    doing {q = q} {to = to} {on = on} {new = new} x h m e = record {
      same = m.same ∙ h.same;
      settles = λ k hid c a. let y = h.settles k hid c a in
          let z : Settles g (q ∷ to k) mid y.hidden c (on x (to k)) new = rw e at (m.settles (to k) y.hidden c y.agrees)
          in
          record { hidden = z.hidden; agrees = z.agrees; chain = join y.chain z.chain };
    }

    -- ---- ends

    pub done : {A : Type 0} {on : A → List Piece → List Piece} {x : A} → Passes g p old (λ k. on x k) mid
        → Acts g p on old (Ok x) mid
    done h = record { same = h.same; settles = λ k hid c a. h.settles k hid c a }

    -- a fault: the run shuts its streams
    pub closed : {A : Type 0} {on : A → List Piece → List Piece} {e : Fault} {place : Place}
        → Passes g p old (λ k. ends (Faulted e place)) mid →
        Acts g p on old (Err (halt.Fault e place)) mid
    closed h = record { same = h.same; settles = λ k hid c a. h.settles k hid c a }

    -- memory is refused
    pub lacking : {A : Type 0} {on : A → List Piece → List Piece} → used mid ≡ used old
        → Acts g p on old (Err halt.Memory) mid
    lacking same = record { same = same; settles = λ k hid c a. tt }

  -- a task that is halted halts the whole
  halted-so : (h : Halt) (from l : List Piece) (old mid new : Whole) (hid hid' : Hidden) (c : Course)
      → Reaches g from (seen (base g old hid) c) c l (seen (base g mid hid') c) c →
      HaltsSo g l mid hid' c new h → HaltsSo g from old hid c new h
  halted-so halt.Memory from l old mid new hid hid' c x y = tt
  halted-so (halt.Fault e place) from l old mid new hid hid' c x y = record {
    hidden = y.hidden;
    agrees = y.agrees;
    chain = join x y.chain;
  }
  halted-so halt.Cut from l old mid new hid hid' c x y = y
  halted-so halt.Next from l old mid new hid hid' c x y = y
  halted-so halt.Exit from l old mid new hid hid' c x y = y
  halted-so (halt.Log place) from l old mid new hid hid' c x y = y

  pub stop : {A B : Type 0} {p q : Piece} {old mid new : Whole} {to : List Piece → List Piece} {on : A → List Piece
      → List Piece} {last : B → List Piece → List Piece} {r : Result A Halt} (h : Halt) →
      Passes g p old (λ k. q ∷ to k) mid → Acts g q on mid r new → r ≡ Err h → Acts g p last old (Err h) new
  stop {p = p} {q = q} {old = old} {mid = mid} {new = new} {to = to} h x m e = record {
    same = m.same ∙ x.same;
    settles = λ k hid c a. let y = x.settles k hid c a in let z : HaltsSo g (q ∷ to k) mid y.hidden c new h =
        rw e at (m.settles (to k) y.hidden c y.agrees) in
        halted-so h (p ∷ k) (q ∷ to k) old mid new hid y.hidden c y.chain z;
  }

  -- a piece that leads on to another is done with it
  passes-at : {A : Type 0} (r : Result A Halt) {p q : Piece} {old mid new : Whole} {on : A → List Piece → List Piece}
      → Passes g p old (λ k. q ∷ k) mid → Acts g q on mid r new → Acts g p on old r new
  passes-at (Ok x) h m = done (doing x h m refl)
  passes-at (Err x) h m = stop x h m refl

  pub passes : {A : Type 0} {r : Result A Halt} {p q : Piece} {old mid new : Whole} {on : A → List Piece → List Piece}
      → Passes g p old (λ k. q ∷ k) mid → Acts g q on mid r new → Acts g p on old r new
  passes {r = r} h m = passes-at r h m

  -- a task whose answer nothing is done with answers this as well
  pub answers : {A B : Type 0} (x : B) {y : A} {p : Piece} {old new : Whole} → Acts g p (goes_on {A = A}) old (Ok y) new
      → Acts g p (goes_on {A = B}) old (Ok x) new
  answers x h = record { same = h.same; settles = λ k hid c a. h.settles k hid c a }

  -- ---- faults as the code has them

  fault-so : (e : Fault) (place : Place) (from : List Piece) (old new : Whole) (hid : Hidden) (c : Course)
      → (e ≡ fault.Memory) ⊎ Settles g from old hid c (ends (Faulted e place)) new →
      HaltsSo g from old hid c new (halt_at place e)
  fault-so fault.Memory place from old new hid c x = tt
  fault-so fault.OutOfRange place from old new hid c (inl e) = absurd (cc)
  fault-so fault.OutOfRange place from old new hid c (inr x) = x
  fault-so fault.ZeroDivisor place from old new hid c (inl e) = absurd (cc)
  fault-so fault.ZeroDivisor place from old new hid c (inr x) = x
  fault-so fault.Pattern place from old new hid c (inl e) = absurd (cc)
  fault-so fault.Pattern place from old new hid c (inr x) = x
  fault-so fault.Format place from old new hid c (inl e) = absurd (cc)
  fault-so fault.Format place from old new hid c (inr x) = x
  fault-so fault.CallDepth place from old new hid c (inl e) = absurd (cc)
  fault-so fault.CallDepth place from old new hid c (inr x) = x
  fault-so fault.TextTooLong place from old new hid c (inl e) = absurd (cc)
  fault-so fault.TextTooLong place from old new hid c (inr x) = x
  fault-so fault.Output place from old new hid c (inl e) = absurd (cc)
  fault-so fault.Output place from old new hid c (inr x) = x
  fault-so fault.NextOutside place from old new hid c (inl e) = absurd (cc)
  fault-so fault.NextOutside place from old new hid c (inr x) = x
  fault-so fault.FieldNumber place from old new hid c (inl e) = absurd (cc)
  fault-so fault.FieldNumber place from old new hid c (inr x) = x
  fault-so fault.TooManyElements place from old new hid c (inl e) = absurd (cc)
  fault-so fault.TooManyElements place from old new hid c (inr x) = x
  fault-so fault.StepBound place from old new hid c (inl e) = absurd (cc)
  fault-so fault.StepBound place from old new hid c (inr x) = x
  fault-so fault.Log place from old new hid c (inl e) = absurd (cc)
  fault-so fault.Log place from old new hid c (inr x) = x

  -- memory is refused, or the run shuts its streams for a fault
  pub faulted : {A : Type 0} {p : Piece} {old new : Whole} {on : A → List Piece → List Piece} {e : Fault}
      {place : Place} → used new ≡ used old →
      (e ≡ fault.Memory) ⊎ Passes g p old (λ k. ends (Faulted e place)) new
      → Acts g p on old (Err (halt_at place e)) new
  faulted {p = p} {old = old} {new = new} {e = e} {place = place} same (inl x) =
      record { same = same; settles = λ k hid c a. fault-so e place (p ∷ k) old new hid c (inl x) }
  faulted {p = p} {old = old} {new = new} {e = e} {place = place} same (inr h) =
      record { same = same; settles = λ k hid c a. fault-so e place (p ∷ k) old new hid c (inr (h.settles k hid c a)) }

-- ---- a task of the store is one of a run, over any world

module _ {W : Type 0} (ghosts : Ghosts W) (g : Given) where
  acted-halts : (h : Halt) (first w : W) (p : Piece) (k : List Piece) (old new : Whole) (hid : Hidden) (c : Course)
      → used new ≡ used old → Follows ghosts first (calls c.events) w → c.used ≡ used old →
      HaltsSo g (p ∷ k) old hid c new h → Halted ghosts (base g) (Agreeing g) used g first (p ∷ k)
      (seen (base g old hid) c) c k new w h
  acted-halts halt.Memory first w p k old new hid c same leads spent x = record {
    todo = _;
    last = _;
    course = c;
    leads = leads;
    spent = spent ∙ sym same;
    chain = here;
    stands = λ place. lacks;
  }
  acted-halts (halt.Fault e place) first w p k old new hid c same leads spent x =
      record {
        course = c;
        hidden = x.hidden;
        knows = record {
          leads = leads;
          agrees = x.agrees;
          spent =
              spent ∙ sym same;
        };
        chain = x.chain;
      }
  acted-halts halt.Cut first w p k old new hid c same leads spent x = absurd x
  acted-halts halt.Next first w p k old new hid c same leads spent x = absurd x
  acted-halts halt.Exit first w p k old new hid c same leads spent x = absurd x
  acted-halts (halt.Log place) first w p k old new hid c same leads spent x = absurd x

  acted-at : {A : Type 0} (r : Result A Halt) {p : Piece} {to : A → List Piece → List Piece} {old new : Whole} {w : W}
      → Acts g p to old r new → Meets ghosts (base g) (Agreeing g) used g p to old w r new w
  acted-at (Ok x) {old = old} {new = new} h = record {
    plays = λ first k hid c a. let y = h.settles k hid c a.agrees in
        record {
          course = c;
          hidden = y.hidden;
          knows = record {
            leads = a.leads;
            agrees = y.agrees;
            spent =
                a.spent ∙ sym h.same;
          };
          chain = y.chain;
        };
  }
  acted-at (Err x) {p = p} {old = old} {new = new} {w = w} h = record {
    plays = λ first k hid c a. acted-halts x first w p k old new hid c h.same a.leads a.spent
        (h.settles k hid c a.agrees);
  }

pub acted : {W A : Type 0} {ghosts : Ghosts W} {g : Given} {r : Result A Halt} {p : Piece} {to : A → List Piece
    → List Piece} {old new : Whole} {w : W} →
    Acts g p to old r new → Meets ghosts (base g) (Agreeing g) used g p to old w r new w
acted {ghosts = ghosts} {g = g} {r = r} h = acted-at ghosts g r h
