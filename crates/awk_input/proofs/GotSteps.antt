-- A record is set and counted.
use Rattle.std.proofs.Common.{◌≡◌, refl, sym, ap, ◌∙◌, true, false, true≢false, List, [], ◌∷◌}
use Rattle.std.specs.Prelude.{Result, Ok, Err, pos}
use Rattle.awk_text.specs.declared.place.Place.{Place}
use Rattle.awk_text.specs.declared.value.Value.{Value}
use Rattle.awk_text.specs.declared.value.Value.TheVariants as v
use Rattle.awk_program.specs.Slots.{Text}
use Rattle.awk_machine.specs.Advances.{held}
use Rattle.awk_machine.specs.Getline.{counting, got}
use Rattle.awk_machine.specs.Pieces.{Piece, Target, Do, Set, Count, Give, Goes, give}
use Rattle.awk_machine.specs.State.{State, Given}
use Rattle.awk_machine.specs.Streams.{seen}
use Rattle.awk_streams.specs.Tasks.{goes_on}
use Rattle.awk_streams.specs.declared.halt.Halt.{Halt}
use Rattle.awk_store.specs.Acts.{Acts, Passes}
use Rattle.awk_store.specs.Wholes.{Whole, base}
use Rattle.awk_store.proofs.Acting.{at_rest, moves, doing, done, stop}
use Rattle.awk_input.specs.Gots.{Counts, IsGot, is_record}

-- ---- counters

module _ (g : Given) (p : Piece) (old mid new : Whole) (place : Place) (to : List Piece → List Piece) (name : Text)
    (names : List Text) (h : Passes g p old (λ k. counting place (name ∷ names) (to k)) mid) where
  pub counts_next : (r : Result (Unit {0}) Halt) → Acts g (Do (Count place name)) goes_on mid r new → r ≡ Ok (tt {0})
      → Passes g p old (λ k. counting place names (to k)) new
  counts_next r task is = doing tt h task is

  pub counts_not : (r : Result (Unit {0}) Halt) (e : Halt) → Acts g (Do (Count place name)) goes_on mid r new
      → r ≡ Err e → Acts g p (goes_on {A = Unit {0}}) old (Err e) new
  counts_not r e task is = stop e h task is

pub counts_last : (g : Given) (p : Piece) (old mid new : Whole) (place : Place) (to : List Piece → List Piece)
    (name : Text) → Passes g p old (λ k. counting place (name ∷ []) (to k)) mid →
    (r : Result (Unit {0}) Halt) → Acts g (Do (Count place name)) goes_on mid r new → Counts g p old to r new
counts_last g p old mid new place to name h (Ok tt) task = doing tt h task refl
counts_last g p old mid new place to name h (Err e) task = stop e h task refl

-- ---- the record

got_other : (place : Place) (target : Target) (names : List Text) (x : Value) (k : List Piece) (s : State)
    → is_record x ≡ false → got place target names x k s ≡ Goes (give x k) s
got_other place target names (v.Input text) k s e = absurd (true≢false e)
got_other place target names v.Unset k s e = refl
got_other place target names (v.Num n) k s e = refl
got_other place target names (v.Real y) k s e = refl
got_other place target names (v.Text text) k s e = refl

got_record : (place : Place) (target : Target) (names : List Text) (x : Value) (k : List Piece) (s : State)
    → is_record x ≡ true →
    got place target names x k s ≡ Goes (Do (Set target place x) ∷ counting place names (Do (Give (v.Num (pos 1))) ∷ k))
    s
got_record place target names (v.Input text) k s e = refl
got_record place target names v.Unset k s e = absurd (true≢false (sym e))
got_record place target names (v.Num n) k s e = absurd (true≢false (sym e))
got_record place target names (v.Real y) k s e = absurd (true≢false (sym e))
got_record place target names (v.Text text) k s e = absurd (true≢false (sym e))

module _ (g : Given) (p : Piece) (place : Place) (target : Target) (names : List Text) (x : Value) (to : List Piece
    → List Piece) (is : IsGot g p place target names x to) where
  pub gives_other : (w : Whole) → is_record x ≡ false → Acts g p (λ v k. give v (to k)) w (Ok x) w
  gives_other w e = done
      (moves (at_rest p w) (λ k hid c a. ap (held g (seen (base g w hid) c)) (is k (seen (base g w hid) c)
      ∙ got_other place target names x (to k) (seen (base g w hid) c) e)))

  pub before_set : (w : Whole) → is_record x ≡ true
      → Passes g p w (λ k. Do (Set target place x) ∷ counting place names (Do (Give (v.Num (pos 1))) ∷ to k)) w
  before_set w e = moves (at_rest p w) (λ k hid c a. ap (held g (seen (base g w hid) c)) (is k (seen (base g w hid) c)
      ∙ got_record place target names x (to k) (seen (base g w hid) c) e))

  module _ (old mid : Whole) (e : is_record x ≡ true) where
    pub not_set : {A B : Type 0} {last : B → List Piece → List Piece} (r : Result A Halt) (h : Halt)
        → Acts g (Do (Set target place x)) (goes_on {A = A}) old r mid → r ≡ Err h → Acts g p last old (Err h) mid
    not_set r h task is_err = stop h (before_set old e) task is_err

    pub is_set : {A : Type 0} (r : Result A Halt) (y : A) → Acts g (Do (Set target place x)) (goes_on {A = A}) old r mid
        → r ≡ Ok y → Passes g p old (λ k. counting place names (Do (Give (v.Num (pos 1))) ∷ to k)) mid
    is_set r y task is_ok = doing y (before_set old e) task is_ok

pub gives_one : (g : Given) (p : Piece) (to : List Piece → List Piece) (old new : Whole)
    → Passes g p old (λ k. Do (Give (v.Num (pos 1))) ∷ to k) new
    → Acts g p (λ v k. give v (to k)) old (Ok (v.Num (pos 1))) new
gives_one g p to old new h = done (moves h (λ k hid c a. refl))

-- what is halted is halted whatever was to come
pub halts_as : {A B : Type 0} {last : B → List Piece → List Piece} {on : A → List Piece → List Piece} (g : Given)
    (p : Piece) (old new : Whole) (h : Halt) → Acts g p on old (Err h) new → Acts g p last old (Err h) new
halts_as g p old new h x = record { same = x.same; settles = λ k hid c a. x.settles k hid c a }

pub counts_so : (g : Given) (p : Piece) (old new : Whole) (to : Unit {0} → List Piece → List Piece)
    (r : Result (Unit {0}) Halt) → Counts g p old (to (tt {0})) r new → Acts g p to old r new
counts_so g p old new to (Ok tt) h = done h
counts_so g p old new to (Err e) h = halts_as g p old new e h
