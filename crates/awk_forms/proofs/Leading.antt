-- The steps that answers about parts of a run are made of, beside those of parts that ask.
use Rattle.std.proofs.Common.{◌≡◌, refl, sym, ◌∙◌, List, ◌∷◌}
use Rattle.std.specs.Prelude.{Bool, true, false, Result, Ok, Err, IfOk}
use Rattle.awk_machine.specs.Advances.{advance}
use Rattle.awk_machine.specs.Pieces.{Piece, Goes, give}
use Rattle.awk_machine.specs.State.{Course, Given}
use Rattle.awk_machine.specs.Statements.{to_records}
use Rattle.awk_machine.specs.Streams.{seen}
use Rattle.awk_store.specs.States.{Hidden}
use Rattle.awk_streams.specs.Chains.{Leads, Meets}
use Rattle.awk_streams.proofs.Chain.{at_once, changes, part, done, stop}
use Rattle.awk_streams.specs.declared.halt.Halt.{Halt}
use Rattle.awk_store.specs.Acts.{Passes}
use Rattle.awk_store.specs.Wholes.{Whole, Agreeing, base, used}
use Rattle.awk_numbers.specs.declared.number.Number.{Number}
use Rattle.awk_numbers.specs.declared.number.Numbers.{Numbers}
use Rattle.awk_text.specs.Values.{number_of, truth}
use Rattle.awk_text.specs.declared.fault.Fault.{Fault}
use Rattle.awk_text.specs.declared.value.Value.{Value}
use Rattle.awk_text.specs.declared.value.Value.TheVariants as v
use Rattle.box_world.specs.declared.world.World.{Ghosts}
use Rattle.awk_machine.specs.Operators.{of_truth}
use Rattle.awk_forms.specs.declared.context.Context.{Context}
use Rattle.awk_forms.specs.Runs.{Does, Yields, IsNumberOf, IsTruthOf}

module _ {W : Type 0} {ghosts : Ghosts W} {g : Given} {p : Piece} {old mid : Whole} {w w' : W} where
  -- a move that changes nothing, by what agrees
  pub quietly : {to then_ : List Piece → List Piece} → Leads ghosts (base g) (Agreeing g) used g p old w to mid w' →
      ((k : List Piece) (hid : Hidden) (c : Course) → Agreeing g mid hid c → advance g (to k) (seen (base g mid hid) c)
      ≡ Goes (then_ k) (seen (base g mid hid) c)) →
      Leads ghosts (base g) (Agreeing g) used g p old w then_ mid w'
  quietly h e = changes refl h (λ k hid c a. (hid, a, e k hid c a))

  -- a part is done, and then something is left to be done
  hands_on-at : {A : Type 0} {q : Piece} {to : List Piece → List Piece} {on : A → List Piece → List Piece} {new : Whole}
      {w'' : W} (r : Result A Halt) → ((k : List Piece) → to_records (to k) ≡ to_records k) →
      Leads ghosts (base g) (Agreeing g) used g p old w (λ k. q ∷ to k) mid w'
      → Meets ghosts (base g) (Agreeing g) used g q on mid w' r new w''
      → Meets ghosts (base g) (Agreeing g) used g p (λ x k. on x (to k)) old w r new w''
  hands_on-at (Ok x) passed h m = done (part x h m refl)
  hands_on-at (Err x) passed h m = stop x passed h m refl

  pub hands_on : {A : Type 0} {q : Piece} {to : List Piece → List Piece} {on : A → List Piece
      → List Piece} {new : Whole} {w'' : W} {r : Result A Halt}
      → ((k : List Piece) → to_records (to k) ≡ to_records k) →
      Leads ghosts (base g) (Agreeing g) used g p old w (λ k. q ∷ to k) mid w'
      → Meets ghosts (base g) (Agreeing g) used g q on mid w' r new w''
      → Meets ghosts (base g) (Agreeing g) used g p (λ x k. on x (to k)) old w r new w''
  hands_on {r = r} passed h m = hands_on-at r passed h m

-- ---- what asks nothing

module _ {W : Type 0} {ghosts : Ghosts W} {g : Given} {p : Piece} {old new : Whole} {w : W} where
  pub led : {to : List Piece → List Piece} → Passes g p old to new
      → Leads ghosts (base g) (Agreeing g) used g p old w to new w
  led h = record {
    plays = λ first k hid c a. let y = h.settles k hid c a.agrees in
        record {
          course = c;
          hidden = y.hidden;
          knows = record {
            leads = a.leads;
            agrees = y.agrees;
            spent =
                a.spent ∙ sym h.same;
          };
          chain = y.chain;
        };
  }

-- ---- what is told of a value

pub told_number : (numbers : Numbers) (val : Value) (r : Result (Result Number Fault) Halt) (x : Result Number Fault)
    → r ≡ Ok x → IfOk r (λ y. IsNumberOf numbers y val) → x ≡ number_of numbers val
told_number numbers val r x e h = rw e at h

pub told_truth : (numbers : Numbers) (val : Value) (r : Result Bool Halt) (x : Bool) → r ≡ Ok x
    → IfOk r (λ y. IsTruthOf numbers y val) → x ≡ truth numbers val
told_truth numbers val r x e h = rw e at h

-- one move more, once a part is done
module _ {W : Type 0} {ghosts : Ghosts W} {g : Given} {p : Piece} {old new : Whole} {w w' : W} {A : Type 0}
    {on then_ : A → List Piece → List Piece} where
  rests_at : (r : Result A Halt) → Meets ghosts (base g) (Agreeing g) used g p on old w r new w' →
      ((x : A) (k : List Piece) (hid : Hidden) (c : Course) → Agreeing g new hid c
      → advance g (on x k) (seen (base g new hid) c) ≡ Goes (then_ x k) (seen (base g new hid) c)) →
      Meets ghosts (base g) (Agreeing g) used g p then_ old w r new w'
  rests_at (Ok x) m e = done (quietly (part x (at_once p old w) m refl) (e x))
  rests_at (Err h) m e = stop h (λ k. refl) (at_once p old w) m refl

  pub rests : {r : Result A Halt} → Meets ghosts (base g) (Agreeing g) used g p on old w r new w' →
      ((x : A) (k : List Piece) (hid : Hidden) (c : Course) → Agreeing g new hid c
      → advance g (on x k) (seen (base g new hid) c) ≡ Goes (then_ x k) (seen (base g new hid) c)) →
      Meets ghosts (base g) (Agreeing g) used g p then_ old w r new w'
  rests {r = r} m e = rests_at r m e

pub unwanted : {A E : Type 0} (r : Result A E) → IfOk r (λ x. Unit {0})
unwanted (Ok x) = tt
unwanted (Err h) = tt

-- the same, where the answer tells what the move depends on
module _ {W : Type 0} {ghosts : Ghosts W} {g : Given} {p : Piece} {old new : Whole} {w w' : W} {on : List Piece
    → List Piece} {then_ : Bool → List Piece → List Piece} where
  rests_told-at : (val : Value) (r : Result Bool Halt) → IfOk r (λ b. IsTruthOf new.0.numbers b val)
      → Meets ghosts (base g) (Agreeing g) used g p (λ b. on) old w r new w' →
      ((b : Bool) → b ≡ truth new.0.numbers val → (k : List Piece) (hid : Hidden) (c : Course) → Agreeing g new hid c
      → advance g (on k) (seen (base g new hid) c) ≡ Goes (then_ b k) (seen (base g new hid) c)) →
      Meets ghosts (base g) (Agreeing g) used g p then_ old w r new w'
  rests_told-at val (Ok b) is m e = done (quietly (part b (at_once p old w) m refl) (e b is))
  rests_told-at val (Err h) is m e = stop h (λ k. refl) (at_once p old w) m refl

  pub rests_told : (val : Value) {r : Result Bool Halt} → IfOk r (λ b. IsTruthOf new.0.numbers b val)
      → Meets ghosts (base g) (Agreeing g) used g p (λ b. on) old w r new w' →
      ((b : Bool) → b ≡ truth new.0.numbers val → (k : List Piece) (hid : Hidden) (c : Course) → Agreeing g new hid c
      → advance g (on k) (seen (base g new hid) c) ≡ Goes (then_ b k) (seen (base g new hid) c)) →
      Meets ghosts (base g) (Agreeing g) used g p then_ old w r new w'
  rests_told val {r = r} is m e = rests_told-at val r is m e

truth_is : (numbers : Numbers) (b : Bool) → b ≡ truth numbers (of_truth b)
truth_is numbers true = refl
truth_is numbers false = refl

-- a comparison that holds tells of its value that it is true
module _ {W : Type 0} {ghosts : Ghosts W} {cx : Context} {p : Given → Piece} {old new : Whole} {w w' : W} where
  as_truth-at : (r : Result Bool Halt) → Does ghosts cx p (λ g b. give (of_truth b)) old w r new w'
      → Yields ghosts cx p IsTruthOf old w r new w'
  as_truth-at (Ok b) h = record {
    val = of_truth b;
    is = truth_is new.0.numbers b;
    does =
        record { plays = λ g is. done (part b (at_once (p g) old w) (h.plays g is) refl); owns = h.owns };
  }
  as_truth-at (Err e) h = record {
    val = v.Unset;
    is = tt;
    does =
        record { plays = λ g is. stop e (λ k. refl) (at_once (p g) old w) (h.plays g is) refl; owns = h.owns };
  }

  pub as_truth : {r : Result Bool Halt} → Does ghosts cx p (λ g b. give (of_truth b)) old w r new w'
      → Yields ghosts cx p IsTruthOf old w r new w'
  as_truth {r = r} h = as_truth-at r h

-- ---- what was done once the record was split

pub failed_not : {r : Result Bool Halt} {h : Halt} → r ≡ Err h → ¬ (r ≡ Ok true)
failed_not {r} {h} was held = absurd (let e : ◌≡◌ {A = Result Bool Halt} (Err h) (Ok true) = sym was ∙ held in cc)

pub false_not : {r : Result Bool Halt} (b : Bool) → r ≡ Ok b → b ≡ false → ¬ (r ≡ Ok true)
false_not {r} b was is held = absurd (let e : ◌≡◌ {A = Result Bool Halt} (Ok b) (Ok true) = sym was ∙ held in cc)
