-- The steps that answers about a part of a run are made of.
use Rattle.std.proofs.Common.{◌≡◌, refl, sym, subst, ◌∙◌, ◌+◌, ◌<◌, ◌≤◌, ℕ, List, [], ◌∷◌, ◌++◌, append-nil, arith}
use Rattle.std.specs.Prelude.{Result, Ok, Err}
use Rattle.awk_text.specs.declared.place.Place.{Place}
use Rattle.awk_text.specs.declared.fault.Fault.{Fault}
use Rattle.box_world.specs.Calls.{Call, open_after}
use Rattle.box_world.specs.declared.ask.Ask.{Ask}
use Rattle.box_world.specs.declared.ask.Reply.{Reply}
use Rattle.box_world.specs.declared.ask.Stop.{Stop}
use Rattle.box_world.specs.declared.ask.Stop.TheVariants as stops
use Rattle.box_world.specs.Events.{Want, calls, ask_of, open_streams}
use Rattle.box_world.specs.declared.world.World.{Ghosts}
use Rattle.awk_machine.specs.Advances.{advance}
use Rattle.awk_machine.specs.Pieces.{Piece, At, Terms_of, give, Goes, Steps, Asks, Seeks, Cut, Faulted, ends}
use Rattle.awk_machine.specs.Plays.{Reaches, here, goes, steps, asks, seeks, Fits, lacks, unlogged}
use Rattle.awk_machine.specs.Questions.{Question, Answer, Right}
use Rattle.awk_machine.specs.State.{State, Course, Given}
use Rattle.awk_machine.specs.Statements.{to_records, after_exit}
use Rattle.awk_machine.specs.Streams.{seen, with_step, with_event}
use Rattle.awk_text.specs.declared.value.Value.{Value}
use Rattle.awk_program.specs.declared.operators.Comparison.{Comparison}
use Rattle.awk_program.specs.declared.operators.Operator.{Operator}
use Rattle.awk_program.specs.Program as p
use Rattle.awk_program.specs.Program.{Expression, Terms}
use Rattle.awk_machine.specs.Forms.{value}
use Rattle.awk_machine.specs.Operators.{computed}
use Rattle.awk_machine.specs.Variables.{compared_by}
use Rattle.awk_numbers.specs.declared.number.Numbers.{Numbers}
use Rattle.awk_streams.specs.declared.halt.Halt.{Halt}
use Rattle.awk_streams.specs.declared.halt.Halt.TheVariants as halt
use Rattle.awk_streams.specs.Chains.{Follows, Ended, at, Comes, Halted, Leads, Meets, halt_by}

pub join : {g : Given} {k l m : List Piece} {s t u : State} {c d e : Course} → Reaches g k s c l t d
    → Reaches g l t d m u e → Reaches g k s c m u e
join here q = q
join (goes e p) q = goes e (join p q)
join (steps e p) q = steps e (join p q)
join (asks r e f p) q = asks r e f (join p q)
join (seeks a e i p) q = seeks a e i (join p q)

-- what of a world's law answers need
pub record Laws {W : Type 0} (ghosts : Ghosts W) : Type 0 where
  pub joined : (u v w : W) (xs ys : List Call) → Follows ghosts u xs v → Follows ghosts v ys w → Follows ghosts u
      (xs ++ ys) w
  pub later : (u v w : W) (xs ys : List Call) (ask : Ask) → Follows ghosts u xs v → Ended ghosts v ys ask w
      → Ended ghosts u (xs ++ ys) ask w
  pub opens : (v w : W) (cs : List Call) → ghosts.follows v cs w
      → ghosts.open_numbers w ≡ open_after cs (ghosts.open_numbers v)

-- ---- one chain behind another

module _ {W St H : Type 0} (ghosts : Ghosts W) (base : St → H → State) (Ag : St → H → Course → Type 0) (used : St
    → ℕ) (g : Given) where
  pub comes-after : (first : W) (k l m : List Piece) (s t : State) (c d : Course) (store : St) (w : W)
      → Reaches g k s c l t d → Comes ghosts base Ag used g first l t d m store w
      → Comes ghosts base Ag used g first k s c m store w
  comes-after first k l m s t c d store w p x = record {
    course = x.course;
    hidden = x.hidden;
    knows = x.knows;
    chain =
        join p x.chain;
  }

  pub halted-after : (h : Halt) (first : W) (from l k m : List Piece) (s t : State) (c d : Course) (store : St) (w : W)
      → Reaches g from s c l t d → to_records m ≡ to_records k →
      Halted ghosts base Ag used g first l t d m store w h → Halted ghosts base Ag used g first from s c k store w h
  halted-after (halt.Fault fault place) first from l k m s t c d store w p e x =
      comes-after first from l _ s t c d store w p x
  halted-after halt.Cut first from l k m s t c d store w p e x = comes-after first from l _ s t c d store w p x
  halted-after halt.Next first from l k m s t c d store w p e x = comes-after first from l _ s t c d store w p
      (rw e at x)
  halted-after halt.Exit first from l k m s t c d store w p e x = record {
    phase = x.phase;
    comes = record {
      course = x.comes.course;
      hidden = x.comes.hidden;
      knows = x.comes.knows;
      chain =
          join p x.comes.chain;
    };
    its_phase = x.its_phase;
  }
  halted-after halt.Memory first from l k m s t c d store w p e x = record {
    todo = x.todo;
    last = x.last;
    course =
        x.course;
    leads = x.leads;
    spent = x.spent;
    chain = join p x.chain;
    stands = x.stands;
  }
  halted-after (halt.Log place) first from l k m s t c d store w p e x = record {
    todo = x.todo;
    last = x.last;
    course = x.course;
    want = x.want;
    ended = x.ended;
    spent = x.spent;
    chain = join p x.chain;
    stands = x.stands;
  }

-- ---- the steps

module _ {W St H : Type 0} {ghosts : Ghosts W} {base : St → H → State} {Ag : St → H → Course → Type 0} {used : St
    → ℕ} {g : Given} where
  -- a part stands before its piece
  pub at_once : (p : Piece) (old : St) (w : W) → Leads ghosts base Ag used g p old w (λ k. p ∷ k) old w
  at_once p old w = record { plays = λ first k hid c a. record { course = c; hidden = hid; knows = a; chain = here } }

  module _ {p : Piece} {old mid : St} {w w' : W} where
    -- a move that asks nothing and changes nothing
    pub quiet : {to then_ : List Piece → List Piece} → Leads ghosts base Ag used g p old w to mid w' →
        ((k : List Piece) (hid : H) (c : Course) → advance g (to k) (at ghosts base Ag used mid hid c) ≡ Goes (then_ k)
        (at ghosts base Ag used mid hid c)) →
        Leads ghosts base Ag used g p old w then_ mid w'
    quiet h e = record {
      plays = λ first k hid c a. let x = h.plays first k hid c a in
          record {
            course = x.course;
            hidden = x.hidden;
            knows = x.knows;
            chain =
                join x.chain (goes (e k x.hidden x.course) here);
          };
    }

    -- the code has changed, and the machine not
    pub settled : {to : List Piece → List Piece} {new : St} → used mid ≡ used new
        → ((hid : H) → base mid hid ≡ base new hid) → ((hid : H) (c : Course) → Ag mid hid c → Ag new hid c) →
        Leads ghosts base Ag used g p old w to mid w' → Leads ghosts base Ag used g p old w to new w'
    settled {to = to} {new = new} same still agree h = record {
      plays = λ first k hid c a. let x = h.plays first k hid c a in
          record {
            course = x.course;
            hidden = x.hidden;
            knows = record {
              leads = x.knows.leads;
              agrees = agree x.hidden x.course x.knows.agrees;
              spent =
                  x.knows.spent ∙ same;
            };
            chain = subst (λ s. Reaches g (p ∷ k) (at ghosts base Ag used old hid c) c (to k) (seen s x.course)
                x.course) (still x.hidden) x.chain;
          };
    }

    -- the same pieces, said in other words
    pub turned : {to then_ : List Piece → List Piece} → Leads ghosts base Ag used g p old w to mid w'
        → ((k : List Piece) → to k ≡ then_ k) → Leads ghosts base Ag used g p old w then_ mid w'
    turned h e = record { plays = λ first k hid c a. rw (e k) at (h.plays first k hid c a) }

    -- one that changes the store, or what the code does not hold
    pub changes : {to then_ : List Piece → List Piece} {new : St} → used mid ≡ used new
        → Leads ghosts base Ag used g p old w to mid w' →
        ((k : List Piece) (hid : H) (c : Course) → Ag mid hid c →
        (hid' : H) × Ag new hid' c
        × (advance g (to k) (at ghosts base Ag used mid hid c) ≡ Goes (then_ k)
        (at ghosts base Ag used new hid' c))) →
        Leads ghosts base Ag used g p old w then_ new w'
    changes same h e = record {
      plays = λ first k hid c a. let x = h.plays first k hid c a in let y = e k x.hidden x.course x.knows.agrees in
          record {
            course = x.course;
            hidden = y.0;
            knows = record {
              leads = x.knows.leads;
              agrees = y.1;
              spent =
                  x.knows.spent ∙ same;
            };
            chain = join x.chain (goes y.2 here);
          };
    }

    -- a move whose request has its reply unasked: an open stream is not opened again, and one that is not open fails
    pub known : {to : List Piece → List Piece} (then_ : List Piece → Reply → List Piece) (reply : Reply)
        → Leads ghosts base Ag used g p old w to mid w' →
        ((k : List Piece) (hid : H) (c : Course) → Ag mid hid c → advance g (to k) (at ghosts base Ag used mid hid c)
        ≡ Goes (then_ k reply) (at ghosts base Ag used mid hid c)) →
        Leads ghosts base Ag used g p old w (λ k. then_ k reply) mid w'
    known then_ reply h e = changes refl h (λ k hid c a. (hid, a, e k hid c a))

    -- a step is taken
    pub stepped : {to then_ : List Piece → List Piece} {new : St} → used mid < g.bound → used new ≡ used mid + 1
        → Leads ghosts base Ag used g p old w to mid w' →
        ((k : List Piece) (hid : H) (c : Course) → c.used < g.bound → Ag mid hid c →
        (hid' : H) × Ag new hid' (with_step c)
        × (advance g (to k) (at ghosts base Ag used mid hid c) ≡ Steps (then_ k)
        (at ghosts base Ag used new hid' c))) →
        Leads ghosts base Ag used g p old w then_ new w'
    stepped below more h e = record {
      plays = λ first k hid c a. let x = h.plays first k hid c a in
          let b : x.course.used < g.bound = let s = x.knows.spent in omega (arith, s, below) in
          let y = e k x.hidden x.course b x.knows.agrees in
          record {
            course = with_step x.course;
            hidden = y.0;
            knows = record {
              leads = x.knows.leads;
              agrees = y.1;
              spent = let s = x.knows.spent in
                  omega (arith, s, more);
            };
            chain = join x.chain (steps y.2 here);
          };
    }

    -- a question, and its right answer
    pub sought : {to : List Piece → List Piece} {then_ : List Piece → Answer → List Piece} (q : H → Question)
        (answer : Answer) → Leads ghosts base Ag used g p old w to mid w' →
        ((k : List Piece) (hid : H) (c : Course) → Ag mid hid c →
        (advance g (to k) (at ghosts base Ag used mid hid c) ≡ Seeks (q hid) (then_ k)
        (at ghosts base Ag used mid hid c)) × Right (q hid) answer) →
        Leads ghosts base Ag used g p old w (λ k. then_ k answer) mid w'
    sought q answer h e = record {
      plays = λ first k hid c a. let x = h.plays first k hid c a in let y = e k x.hidden x.course x.knows.agrees in
          record {
            course = x.course;
            hidden = x.hidden;
            knows = x.knows;
            chain =
                join x.chain (seeks answer y.0 y.1 here);
          };
    }

    -- a request, and the world's reply
    pub asked : {to : List Piece → List Piece} {then_ : List Piece → Reply → List Piece} {new : St} {w'' : W}
        (want : Want) (ask : Ask) (reply : Reply) → Laws ghosts → used mid ≡ used new →
        Leads ghosts base Ag used g p old w to mid w' →
        ((first : W) (k : List Piece) (hid : H) (c : Course) → Follows ghosts first (calls c.events) w' → Ag mid hid c →
        (hid' : H) × (advance g (to k) (at ghosts base Ag used mid hid c) ≡ Asks want (then_ k)
        (at ghosts base Ag used new hid' c)) × Fits c.events want reply
        × (ask_of want (open_streams c.events) ≡ ask) × Ag new hid' (with_event want reply c)) →
        Follows ghosts w' ((ask, reply) ∷ []) w'' → Leads ghosts base Ag used g p old w (λ k. then_ k reply) new w''
    asked {w'' = w''} want ask reply law same h e after = record {
      plays = λ first k hid c a. let x = h.plays first k hid c a in
          let y = e first k x.hidden x.course x.knows.leads x.knows.agrees in
          record {
            course = with_event want reply x.course;
            hidden = y.0;
            knows = record {
              leads = law.joined first w' w'' (calls x.course.events) _ x.knows.leads
                  (subst (λ z. Follows ghosts w' ((z, reply) ∷ []) w'') (sym y.3) after);
              agrees = y.4;
              spent = x.knows.spent ∙ same;
            };
            chain = join x.chain (asks reply y.1 y.2 here);
          };
    }

    -- the world has changed by no call
    pub stalls : {to : List Piece → List Piece} {w'' : W} → Laws ghosts → Leads ghosts base Ag used g p old w to mid w'
        → Follows ghosts w' [] w'' → Leads ghosts base Ag used g p old w to mid w''
    stalls {w'' = w''} law h f = record {
      plays = λ first k hid c a. let x = h.plays first k hid c a in
          record {
            course = x.course;
            hidden = x.hidden;
            knows = record {
              leads = rw append-nil at (law.joined first w' w'' (calls x.course.events) [] x.knows.leads
                  f);
              agrees = x.knows.agrees;
              spent = x.knows.spent;
            };
            chain = x.chain;
          };
    }

    -- a part is done, and its value goes where `on` says
    pub part : {A : Type 0} {q : Piece} {to : List Piece → List Piece} {on : A → List Piece → List Piece} {new : St}
        {w'' : W} {r : Result A Halt} (x : A) →
        Leads ghosts base Ag used g p old w (λ k. q ∷ to k) mid w' → Meets ghosts base Ag used g q on mid w' r new w''
        → r ≡ Ok x → Leads ghosts base Ag used g p old w (λ k. on x (to k)) new w''
    part {q = q} {to = to} {on = on} {new = new} {w'' = w''} x h m e = record {
      plays = λ first k hid c a. let y = h.plays first k hid c a in
          let z : Comes ghosts base Ag used g first (q ∷ to k) (at ghosts base Ag used mid y.hidden y.course) y.course
          (on x (to k)) new w'' = rw e at (m.plays first (to k) y.hidden y.course y.knows) in
          record { course = z.course; hidden = z.hidden; knows = z.knows; chain = join y.chain z.chain };
    }

    -- ---- ends

    pub done : {A : Type 0} {on : A → List Piece → List Piece} {x : A}
        → Leads ghosts base Ag used g p old w (λ k. on x k) mid w'
        → Meets ghosts base Ag used g p on old w (Ok x) mid w'
    done h = record { plays = λ first k hid c a. h.plays first k hid c a }

    -- a part that is halted halts the whole
    pub stop : {A B : Type 0} {q : Piece} {to : List Piece → List Piece} {on : A → List Piece → List Piece} {last : B
        → List Piece → List Piece} {new : St} {w'' : W} {r : Result A Halt} (x : Halt) →
        ((k : List Piece) → to_records (to k) ≡ to_records k)
        → Leads ghosts base Ag used g p old w (λ k. q ∷ to k) mid w'
        → Meets ghosts base Ag used g q on mid w' r new w'' → r ≡ Err x →
        Meets ghosts base Ag used g p last old w (Err x) new w''
    stop {q = q} {to = to} {new = new} {w'' = w''} x passed h m e = record {
      plays = λ first k hid c a. let y = h.plays first k hid c a in
          let z : Halted ghosts base Ag used g first (q ∷ to k) (at ghosts base Ag used mid y.hidden y.course) y.course
          (to k) new w'' x = rw e at (m.plays first (to k) y.hidden y.course y.knows) in
          halted-after ghosts base Ag used g x first (p ∷ k) (q ∷ to k) k (to k) (at ghosts base Ag used old hid c)
          (at ghosts base Ag used mid y.hidden y.course) c y.course new w'' y.chain (passed k) z;
    }

    -- a fault: the run shuts its streams
    pub closed : {A : Type 0} {on : A → List Piece → List Piece} {fault : Fault} {place : Place}
        → Leads ghosts base Ag used g p old w (λ k. ends (Faulted fault place)) mid w' →
        Meets ghosts base Ag used g p on old w (Err (halt.Fault fault place)) mid w'
    closed h = record { plays = λ first k hid c a. h.plays first k hid c a }

    -- no step is left
    pub cut : {A : Type 0} {on : A → List Piece → List Piece} {to : List Piece → List Piece} → g.bound ≤ used mid
        → Leads ghosts base Ag used g p old w to mid w' →
        ((k : List Piece) (hid : H) (c : Course) → g.bound ≤ c.used
        → advance g (to k) (at ghosts base Ag used mid hid c) ≡ Goes (ends Cut) (at ghosts base Ag used mid hid c))
        →
        Meets ghosts base Ag used g p on old w (Err halt.Cut) mid w'
    cut over h e = record {
      plays = λ first k hid c a. let x = h.plays first k hid c a in
          let b : g.bound ≤ x.course.used = let s = x.knows.spent in omega (arith, s, over) in
          record {
            course = x.course;
            hidden = x.hidden;
            knows = x.knows;
            chain =
                join x.chain (goes (e k x.hidden x.course b) here);
          };
    }

    -- `next`, and `exit` in this phase
    pub nexts : {A : Type 0} {on : A → List Piece → List Piece} → Leads ghosts base Ag used g p old w to_records mid w'
        → Meets ghosts base Ag used g p on old w (Err halt.Next) mid w'
    nexts h = record { plays = λ first k hid c a. h.plays first k hid c a }

    pub exits : {A : Type 0} {on : A → List Piece → List Piece} (phase : _) → ((hid : H) → (base mid hid).phase ≡ phase)
        → Leads ghosts base Ag used g p old w (λ k. after_exit phase) mid w' →
        Meets ghosts base Ag used g p on old w (Err halt.Exit) mid w'
    exits phase its h = record {
      plays = λ first k hid c a. let x = h.plays first k hid c a in
          record { phase = phase; comes = x; its_phase = its x.hidden };
    }

    -- memory is refused, where something is left to be done
    pub lacking : {A : Type 0} {on : A → List Piece → List Piece} {q : List Piece → Piece} {to : List Piece
        → List Piece} → Leads ghosts base Ag used g p old w (λ k. q k ∷ to k) mid w' →
        Meets ghosts base Ag used g p on old w (Err halt.Memory) mid w'
    lacking h = record {
      plays = λ first k hid c a. let x = h.plays first k hid c a in
          record {
            todo = _;
            last = _;
            course = x.course;
            leads = x.knows.leads;
            spent = x.knows.spent;
            chain = x.chain;
            stands = λ place. lacks;
          };
    }

  module _ {p : Piece} {old mid : St} {w w' : W} where
    -- a request that gets no reply
    pub unanswered : {A : Type 0} {on : A → List Piece → List Piece} {q : List Piece → Piece} {to : List Piece
        → List Piece} {then_ : List Piece → Reply → List Piece} {w'' : W}
        (want : Want) (ask : Ask) (by : Stop) → Laws ghosts → Leads ghosts base Ag used g p old w (λ k. q k ∷ to k) mid
        w' →
        ((k : List Piece) (hid : H) (c : Course) → Ag mid hid c →
        (t : State) × (advance g (q k ∷ to k) (at ghosts base Ag used mid hid c) ≡ Asks want (then_ k) t)
        × (ask_of want (open_streams c.events) ≡ ask)) →
        (by ≡ stops.Memory → Follows ghosts w' [] w'') → (by ≡ stops.Log → Ended ghosts w' [] ask w'')
        → Meets ghosts base Ag used g p on old w (Err (halt_by want.place by)) mid w''
    unanswered {w'' = w''} want ask stops.Memory law h e f l = lacking (stalls law h (f refl))
    unanswered {w'' = w''} want ask stops.Log law h e f l = record {
      plays = λ first k hid c a. let x = h.plays first k hid c a in let y = e k x.hidden x.course x.knows.agrees in
          record {
            todo = _;
            last = _;
            course = x.course;
            want = want;
            ended = rw append-nil at (law.later first w' w'' (calls x.course.events) [] _ x.knows.leads
                (subst (λ z. Ended ghosts w' [] z w'') (sym y.2) (l refl)));
            spent = x.knows.spent;
            chain = x.chain;
            stands = unlogged y.1;
          };
    }

-- ---- a piece that leads on to another is done with it

passes-at : {W St H A : Type 0} {ghosts : Ghosts W} {base : St → H → State} {Ag : St → H → Course → Type 0} {used : St
    → ℕ} {g : Given} {p q : Piece} {on : A → List Piece → List Piece} {old mid new : St} {w w' w'' : W}
    (r : Result A Halt) → Leads ghosts base Ag used g p old w (λ k. q ∷ k) mid w'
    → Meets ghosts base Ag used g q on mid w' r new w'' → Meets ghosts base Ag used g p on old w r new w''
passes-at (Ok x) h m = done (part x h m refl)
passes-at (Err x) h m = stop x (λ k. refl) h m refl

pub passes : {W St H A : Type 0} {ghosts : Ghosts W} {base : St → H → State} {Ag : St → H → Course → Type 0} {used : St
    → ℕ} {g : Given} {p q : Piece} {on : A → List Piece → List Piece} {old mid new : St} {w w' w'' : W}
    {r : Result A Halt} → Leads ghosts base Ag used g p old w (λ k. q ∷ k) mid w'
    → Meets ghosts base Ag used g q on mid w' r new w'' → Meets ghosts base Ag used g p on old w r new w''
passes {r = r} h m = passes-at r h m

-- ---- forms by hand, as answers have them: a comparison; a sum, a product or a power, and its fault

module _ {W St H : Type 0} {ghosts : Ghosts W} {base : St → H → State} {Ag : St → H → Course → Type 0} {used : St
    → ℕ} {g : Given} where
  compare : (place : Place) (how : Comparison) (x y : Expression) (v w made : Value) (old mid new : St) (a b c : W)
      → ((hid : H) (d : Course) → compared_by (seen (base new hid) d) how v w ≡ Ok made)
      → Meets ghosts base Ag used g (value x) give old a (Ok v) mid b →
      Meets ghosts base Ag used g (value y) give mid b (Ok w) new c
      → Meets ghosts base Ag used g (value (p.compare place how x y)) give old a (Ok made) new c
  compare place how x y v w made old mid new a b c its left right =
      done (quiet (part w (quiet (part v (quiet (at_once _ old a) (λ k hid c. refl)) left refl) (λ k hid c. refl)) right
      refl) (λ k hid d. rw (its hid d) refl))

  compare-halts : (place : Place) (how : Comparison) (x y : Expression) (v : Value) (h : Halt) (old mid new : St)
      (a b c : W) → Meets ghosts base Ag used g (value x) give old a (Ok v) mid b →
      Meets ghosts base Ag used g (value y) give mid b (Err h) new c
      → Meets ghosts base Ag used g (value (p.compare place how x y)) give old a (Err h) new c
  compare-halts place how x y v h old mid new a b c left right =
      stop h (λ k. refl) (quiet (part v (quiet (at_once _ old a) (λ k hid c. refl)) left refl) (λ k hid c. refl)) right
      refl

  term : (numbers : Numbers) (how : Operator) (place : Place) (y : Expression) (xs : Terms) (v w : Value)
      (fault : Fault) (old new : St) (a b : W) → ((hid : H) → (base new hid).numbers ≡ numbers)
      → Meets ghosts base Ag used g (value y) give old a (Ok w) new b →
      computed numbers how v w ≡ Err fault
      → Meets ghosts base Ag used g (At (Terms_of (p.term how place y xs)) (v ∷ [])) give old a
      (Err (halt.Fault fault place)) new b
  term numbers how place y xs v w fault old new a b its right e =
      closed (quiet {then_ = λ k. ends (Faulted fault place)} (part w (quiet (at_once _ old a) (λ k hid c. refl)) right
      refl) (λ k hid c. rw (its hid, e) refl))
