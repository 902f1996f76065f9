-- What the machine does once the arguments of a built-in function are there.
use Rattle.std.proofs.Common.{◌≡◌, refl, sym, ap, subst, ◌∙◌, List, ◌∷◌, length, reverse}
use Rattle.std.specs.Prelude.{Result, Ok, Err, Option}
use Rattle.awk_numbers.specs.declared.number.Number.{Number}
use Rattle.awk_numbers.specs.declared.number.NumberFault.{NumberFault}
use Rattle.awk_numbers.specs.declared.random.Random.{Random}
use Rattle.awk_numbers.specs.Random.{reseeded, seed_of}
use Rattle.awk_text.specs.Values.{of_number}
use Rattle.awk_text.specs.declared.fault.Fault.{Fault}
use Rattle.awk_text.specs.declared.place.Place.{Place}
use Rattle.awk_text.specs.declared.value.Value.{Value}
use Rattle.box_world.specs.declared.world.World.{Ghosts}
use Rattle.awk_program.specs.Program as p
use Rattle.awk_program.specs.Program.{Expressions}
use Rattle.awk_program.specs.declared.builtins.Builtin.{Builtin}
use Rattle.awk_program.specs.declared.builtins.Builtin.TheVariants as b
use Rattle.awk_machine.specs.Advances.{advance, held}
use Rattle.awk_machine.specs.Builtins.{Effect, Gives, Leaves, Turns, gives, called, effect, taking, argument}
use Rattle.awk_machine.specs.Builtins.{of_one, seed_in, seeds, text_at}
use Rattle.awk_machine.specs.Flushing.{flush}
use Rattle.awk_machine.specs.Forms.{listed}
use Rattle.awk_machine.specs.Pieces.{Piece, Task, At, Do, Value_of, give}
use Rattle.awk_machine.specs.State.{Course, Given, State}
use Rattle.awk_machine.specs.Streams.{seen}
use Rattle.awk_streams.specs.Chains.{Leads, result_at}
use Rattle.awk_streams.specs.Tables.{open_of}
use Rattle.awk_streams.proofs.Chain.{at_once, quiet}
use Rattle.awk_store.specs.Acts.{Acts}
use Rattle.awk_store.specs.Changes.{with_random}
use Rattle.awk_store.specs.Kept.{Kept}
use Rattle.awk_store.specs.States.{Hidden}
use Rattle.awk_store.specs.Wholes.{Whole, Agreeing, base, used}
use Rattle.awk_store.proofs.Acting.{alters, at_rest, done}
use Rattle.awk_builtins.proofs.Granted.{Grants, given_so}
use Rattle.awk_builtins.proofs.Listed.{all_there}
use Rattle.awk_builtins.proofs.Making.{gives_so}

module _ (g : Given) (w : Whole) (place : Place) (which : Builtin) (xs : Expressions) (vs : List Value)
    (count : length (listed xs) ≡ length vs) where
  abbrev pub calling : Piece
  calling = At (Value_of (p.builtin place which xs)) (reverse vs)

  first : (k : List Piece) (s : State)
      → advance g (calling ∷ k) s ≡ held g s (taking place (effect place which vs s) k s)
  first k s = ap (held g s) (all_there (listed xs) (Value_of (p.builtin place which xs)) (called place which) vs k s
      count)

  comes : (e : Effect) (k : List Piece) (s : State) → effect place which vs s ≡ e
      → advance g (calling ∷ k) s ≡ held g s (taking place e k s)
  comes e k s is = first k s ∙ ap (λ f. held g s (taking place f k s)) is

  -- what is made, or its fault
  pub grants_made : (made : Result Value Fault)
      → ((s : State) → s.numbers ≡ w.0.numbers → effect place which vs s ≡ Gives made)
      → Grants g w calling place give made
  grants_made made is k hid c a = comes (Gives made) k (seen (base g w hid) c) (is (seen (base g w hid) c) refl)

  -- the same, by what the state agrees with
  pub grants_by : (made : Result Value Fault)
      → ((hid : Hidden) (c : Course) → Agreeing g w hid c → effect place which vs (seen (base g w hid) c) ≡ Gives made)
      → Grants g w calling place give made
  grants_by made is k hid c a = comes (Gives made) k (seen (base g w hid) c) (is hid c a)

  pub gives_made : (made : Result Value Fault)
      → ((s : State) → s.numbers ≡ w.0.numbers → effect place which vs s ≡ Gives made)
      → Acts g calling give w (result_at place made) w
  gives_made made is = given_so g w calling place give made (grants_made made is)

  -- what a function of one number gives
  pub gives_of_one : (f : Number → Result Number NumberFault)
      → ((s : State) → effect place which vs s ≡ Gives (of_one f s.numbers (argument vs 0)))
      → Acts g calling give w (result_at place (of_one f w.0.numbers (argument vs 0))) w
  gives_of_one f is = gives_made (of_one f w.0.numbers (argument vs 0)) (λ s same. is s
      ∙ ap (λ numbers. Gives (of_one f numbers (argument vs 0))) same)

  -- a value
  pub gives_value : (x : Value) → ((s : State) → effect place which vs s ≡ gives x) → Acts g calling give w (Ok x) w
  gives_value x is = gives_so g w calling give x (λ k hid c a. comes (gives x) k (seen (base g w hid) c)
      (is (seen (base g w hid) c)))

  -- a value, and the sequence of random numbers behind it
  pub turns : (x : Value) (random : Random) (new : Kept) → new ≡ with_random random w.0
      → ((s : State) → s.numbers ≡ w.0.numbers → s.random ≡ w.0.random → effect place which vs s ≡ Turns x random)
      → Acts g calling give w (Ok x) (new, w.1)
  turns x random new same is =
      subst (λ (k : Kept). Acts g calling give w (Ok x) (k, w.1)) (sym same)
      (done (alters refl (at_rest _ w) (λ k hid c a. (
        hid,
        record { tells = a.tells; row = a.row; cells = a.cells; sound = a.sound },
        comes (Turns x random) k (seen (base g w hid) c) (is (seen (base g w hid) c) refl refl),
      ))))

  -- a task is left
  pub leaves_task : {W : Type 0} {ghosts : Ghosts W} (task : Task) (world : W)
      → ((s : State) → effect place which vs s ≡ Leaves task) →
      Leads ghosts (base g) (Agreeing g) used g calling w world (λ k. Do task ∷ k) w world
  leaves_task task world is = quiet (at_once calling w world) (λ k hid c. comes (Leaves task) k (seen (base g w hid) c)
      (is (seen (base g w hid) c)))

-- whether an output is open is told by the table of streams
pub flushes : (g : Given) (w : Whole) (place : Place) (xs : Expressions) (vs : List Value) (count : length (listed xs)
    ≡ length vs) (x : Value) → x ≡ flush (text_at vs 0) (open_of w.1) →
    Acts g (calling g w place b.Fflush xs vs count) give w (Ok x) w
flushes g w place xs vs count x is =
    gives_so g w (calling g w place b.Fflush xs vs count) give x (λ k hid c a.
    comes g w place b.Fflush xs vs count (gives x) k (seen (base g w hid) c)
    (ap (λ streams. gives (flush (text_at vs 0) streams)) a.tells.streams ∙ ap gives (sym is)))

-- ---- srand

module _ (g : Given) (w : Whole) (place : Place) (xs : Expressions) (vs : List Value)
    (count : length (listed xs) ≡ length vs) where
  pub reseeds : (seed : Option Number) (new : Kept) → seed_in w.0.numbers vs ≡ Ok seed
      → new ≡ with_random (reseeded seed w.0.random) w.0
      → Acts g (calling g w place b.Srand xs vs count) give w (Ok (of_number (seed_of w.0.random))) (new, w.1)
  reseeds seed new is same =
      turns g w place b.Srand xs vs count (of_number (seed_of w.0.random)) (reseeded seed w.0.random) new same
      (λ s of_ random. ap (λ numbers. seeds (seed_in numbers vs) s.random) of_ ∙ ap (λ made. seeds made s.random) is
      ∙ ap (λ r. Turns (of_number (seed_of r)) (reseeded seed r)) random)

  pub seeds_not : (fault : Fault) → seed_in w.0.numbers vs ≡ Err fault
      → Acts g (calling g w place b.Srand xs vs count) give w (result_at place (Err fault)) w
  seeds_not fault is = gives_made g w place b.Srand xs vs count (Err fault)
      (λ s of_. ap (λ numbers. seeds (seed_in numbers vs) s.random) of_ ∙ ap (λ made. seeds made s.random) is)
