-- Several pieces of the store, one after the other.
use Rattle.std.proofs.Common.{◌≡◌, refl, subst, ◌∙◌, List, ◌∷◌}
use Rattle.std.specs.Prelude.{Result, Ok, Err, MatchResult}
use Rattle.awk_machine.specs.Pieces.{Piece}
use Rattle.awk_machine.specs.Plays.{Reaches, here}
use Rattle.awk_machine.specs.State.{Course, Given}
use Rattle.awk_machine.specs.Streams.{seen}
use Rattle.awk_store.specs.States.{Hidden, Sound}
use Rattle.awk_streams.specs.declared.halt.Halt.{Halt}
use Rattle.awk_streams.specs.declared.halt.Halt.TheVariants as halt
use Rattle.awk_streams.specs.Tasks.{goes_on}
use Rattle.awk_streams.proofs.Chain.{join}
use Rattle.awk_store.specs.Acts.{Acts, HaltsSo, Settles}
use Rattle.awk_store.specs.Wholes.{Whole, base, names_in, used}
use Rattle.awk_run.specs.Starts.{Prepared, Prepares}

module _ {g : Given} where
  halted_so : (h : Halt) (from l : List Piece) (old mid new : Whole) (hid hid' : Hidden) (c : Course)
      → Reaches g from (seen (base g old hid) c) c l (seen (base g mid hid') c) c → HaltsSo g l mid hid' c new h
      → HaltsSo g from old hid c new h
  halted_so halt.Memory from l old mid new hid hid' c x y = tt
  halted_so (halt.Fault e place) from l old mid new hid hid' c x y = record {
    hidden = y.hidden;
    agrees = y.agrees;
    chain = join x y.chain;
  }
  halted_so halt.Cut from l old mid new hid hid' c x y = y
  halted_so halt.Next from l old mid new hid hid' c x y = y
  halted_so halt.Exit from l old mid new hid hid' c x y = y
  halted_so (halt.Log place) from l old mid new hid hid' c x y = y

  -- nothing is done yet
  pub unprepared : (from : List Piece) (old : Whole) → Prepared g from from old old
  unprepared from old = record { same = refl; settles = λ hid c a. record { hidden = hid; agrees = a; chain = here } }

  module _ {from k : List Piece} {old mid new : Whole} {r : Result (Unit {0}) Halt} where
    -- a piece is done
    pub prepared : {q : Piece} → Prepared g from (q ∷ k) old mid → Acts g q (goes_on {A = Unit {0}}) mid r new
        → r ≡ Ok (tt {0}) → Prepared g from k old new
    prepared {q = q} h m e = record {
      same = m.same ∙ h.same;
      settles = λ hid c a. let y = h.settles hid c a in let z : Settles g (q ∷ k) mid y.hidden c k new =
          rw e at (m.settles k y.hidden c y.agrees) in
          record { hidden = z.hidden; agrees = z.agrees; chain = join y.chain z.chain };
    }

    -- it is halted
    pub prepares_not : {q : Piece} {to : List Piece} (h : Halt) → Prepared g from (q ∷ k) old mid
        → Acts g q (goes_on {A = Unit {0}}) mid r new → r ≡ Err h → Prepares g from to old (Err h) new
    prepares_not {q = q} h x m e = record {
      same = m.same ∙ x.same;
      settles = λ hid c a. let y = x.settles hid c a in let z : HaltsSo g (q ∷ k) mid y.hidden c new h =
          rw e at (m.settles k y.hidden c y.agrees) in
          halted_so h from (q ∷ k) old mid new hid y.hidden c y.chain z;
    }

    -- several are done, or halted
    pub prepared_all : {to : List Piece} → Prepared g from k old mid → Prepares g k to mid r new → r ≡ Ok (tt {0})
        → Prepared g from to old new
    prepared_all {to = to} h m e = record {
      same = m.same ∙ h.same;
      settles = λ hid c a. let y = h.settles hid c a in
          let z : Settles g k mid y.hidden c to new = rw e at (m.settles y.hidden c y.agrees) in
          record { hidden = z.hidden; agrees = z.agrees; chain = join y.chain z.chain };
    }

    pub prepares_none : {to last : List Piece} (h : Halt) → Prepared g from k old mid → Prepares g k to mid r new
        → r ≡ Err h → Prepares g from last old (Err h) new
    prepares_none h x m e = record {
      same = m.same ∙ x.same;
      settles = λ hid c a. let y = x.settles hid c a in
          let z : HaltsSo g k mid y.hidden c new h = rw e at (m.settles y.hidden c y.agrees) in
          halted_so h from k old mid new hid y.hidden c y.chain z;
    }

  pub ready : {from to : List Piece} {old new : Whole} → Prepared g from to old new
      → Prepares g from to old (Ok (tt {0})) new
  ready h = record { same = h.same; settles = λ hid c a. h.settles hid c a }

  -- memory is refused
  pub no_memory : {from to : List Piece} {old mid : Whole} → used mid ≡ used old
      → Prepares g from to old (Err halt.Memory) mid
  no_memory same = record { same = same; settles = λ hid c a. tt }

  -- the last piece, or the last pieces
  last_by : {from k : List Piece} {q : Piece} {old mid new : Whole} (r : Result (Unit {0}) Halt)
      → Prepared g from (q ∷ k) old mid → Acts g q (goes_on {A = Unit {0}}) mid r new → Prepares g from k old r new
  last_by (Ok u) h m = ready (prepared h m refl)
  last_by (Err h) x m = prepares_not h x m refl

  pub prepares_last : {from k : List Piece} {q : Piece} {old mid new : Whole} {r : Result (Unit {0}) Halt}
      → Prepared g from (q ∷ k) old mid → Acts g q (goes_on {A = Unit {0}}) mid r new → Prepares g from k old r new
  prepares_last {r = r} h m = last_by r h m

  rest_by : {from k to : List Piece} {old mid new : Whole} (r : Result (Unit {0}) Halt) → Prepared g from k old mid
      → Prepares g k to mid r new → Prepares g from to old r new
  rest_by (Ok u) h m = ready (prepared_all h m refl)
  rest_by (Err h) x m = prepares_none h x m refl

  pub prepares_rest : {from k to : List Piece} {old mid new : Whole} {r : Result (Unit {0}) Halt}
      → Prepared g from k old mid → Prepares g k to mid r new → Prepares g from to old r new
  prepares_rest {r = r} h m = rest_by r h m

-- ---- a piece said in other words, as far as the names are sound

sound_by : (g : Given) (p q : Piece) (old new : Whole) (hid : Hidden) (c : Course) (k : List Piece)
    (r : Result (Unit {0}) Halt) → p ≡ q →
    MatchResult r (λ x. Settles g (p ∷ k) old hid c (goes_on x k) new) (λ h. HaltsSo g (p ∷ k) old hid c new h)
    → MatchResult r (λ x. Settles g (q ∷ k) old hid c (goes_on x k) new) (λ h. HaltsSo g (q ∷ k) old hid c new h)
sound_by g p q old new hid c k r e x =
    subst (λ z. MatchResult r (λ u. Settles g (z ∷ k) old hid c (goes_on u k) new)
    (λ h. HaltsSo g (z ∷ k) old hid c new h)) e x

pub where_sound : {g : Given} {p q : Piece} {old new : Whole} {r : Result (Unit {0}) Halt}
    → (Sound (names_in g) → p ≡ q) → Acts g p goes_on old r new → Acts g q goes_on old r new
where_sound {g = g} {p = p} {q = q} {old = old} {new = new} {r = r} same m =
    record {
      same = m.same;
      settles = λ k hid c a. sound_by g p q old new hid c k r (same a.sound) (m.settles k hid c a);
    }
