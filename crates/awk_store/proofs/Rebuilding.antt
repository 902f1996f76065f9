-- The record's text is made of its fields again.
use Rattle.std.proofs.Common.{◌≡◌, ◌<◌, refl, ℕ, Bool, true, false, List, ◌∷◌, length, arith}
use Rattle.std.proofs.lemmas.Bool.Decides.{nat_tests}
use Rattle.std.specs.Prelude.{Err, ◌≤◌, nat_le}
use Rattle.awk_fields.specs.Rows as row
use Rattle.awk_fields.specs.Rows.{Field, Row, IsKept, known}
use Rattle.awk_fields.proofs.Alone.{kept_again}
use Rattle.awk_text.specs.Limits.{most_bytes}
use Rattle.awk_text.specs.declared.fault.Fault.TheVariants as fault
use Rattle.awk_text.specs.declared.place.Place.{Place}
use Rattle.awk_program.specs.declared.variables.Own.TheVariants as own
use Rattle.awk_machine.specs.Advances.{advance}
use Rattle.awk_machine.specs.Operators.{limited}
use Rattle.awk_machine.specs.Pieces.{Piece, Do, Rebuild, Goes, ends, Faulted}
use Rattle.awk_machine.specs.State.{Course, Given}
use Rattle.awk_machine.specs.Streams.{seen}
use Rattle.awk_store.specs.Changes as changes
use Rattle.awk_store.specs.Kept as kept
use Rattle.awk_store.specs.States.{Hidden}
use Rattle.awk_store.proofs.Limited.{limited_ok}
use Rattle.awk_store.specs.Wholes.{Whole, Agreeing, base}
use Rattle.awk_store.proofs.Agreeing.{own-text-so}

limited_by : (b : Bool) (text : List ℕ) → nat_le (length text) most_bytes ≡ b → most_bytes < length text
    → limited text ≡ Err fault.TextTooLong
limited_by true text e h = absurd (grind (arith, nat_tests))
limited_by false text e h = rw e refl

pub limited_err : (text : List ℕ) → most_bytes < length text → limited text ≡ Err fault.TextTooLong
limited_err text h = limited_by (nat_le (length text) most_bytes) text refl h

-- the record of these fields, with OFS between their texts
abbrev pub rebuilt : Whole → List Field → Row
rebuilt old fs = record { whole = row.rebuilt (kept.own_text old.0 own.Ofs) fs; fields = known fs }

module _ (g : Given) (old : Whole) where
  -- the store's record has its fields now
  pub agreeing_row : (new : Row) → IsKept old.0.row new → (hid : Hidden) (c : Course) → Agreeing g old hid c
      → Agreeing g (changes.with_row new old.0, old.1) hid c
  agreeing_row new is hid c a = record {
    tells = a.tells;
    row = kept_again hid.row old.0.row new a.row is;
    cells =
        a.cells;
    sound = a.sound;
  }

  pub rebuild_moves : (place : Place) (fs : List Field)
      → length (row.rebuilt (kept.own_text old.0 own.Ofs) fs) ≤ most_bytes
      → (k : List Piece) (hid : Hidden) (c : Course) → Agreeing g old hid c →
      advance g (Do (Rebuild place fs) ∷ k) (seen (base g old hid) c)
      ≡ Goes k (seen (base g old (record hid { row = rebuilt old fs })) c)
  rebuild_moves place fs fits k hid c a = rw (
    own-text-so g old hid c a own.Ofs,
    limited_ok (row.rebuilt (kept.own_text old.0 own.Ofs) fs) fits,
  ) refl

  pub rebuild_faults : (place : Place) (fs : List Field)
      → most_bytes < length (row.rebuilt (kept.own_text old.0 own.Ofs) fs)
      → (k : List Piece) (hid : Hidden) (c : Course) → Agreeing g old hid c →
      advance g (Do (Rebuild place fs) ∷ k) (seen (base g old hid) c) ≡ Goes (ends (Faulted fault.TextTooLong place))
      (seen (base g old hid) c)
  rebuild_faults place fs over k hid c a = rw (
    own-text-so g old hid c a own.Ofs,
    limited_err (row.rebuilt (kept.own_text old.0 own.Ofs) fs) over,
  ) refl
