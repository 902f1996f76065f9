-- The moves of a reading that need no request: a record is taken, the end has come, or the text is too long.
use Rattle.std.proofs.Common.{◌≡◌, refl, sym, ◌∙◌, ap, ℕ, List, ◌∷◌, ◌-◌, drop, length}
use Rattle.std.specs.Prelude.{Some, codes, if◌then◌else◌}
use Rattle.awk_text.specs.declared.place.Place.{Place}
use Rattle.awk_text.specs.declared.fault.Fault.TheVariants.{TextTooLong}
use Rattle.awk_fields.specs.Heads.{Head, head, taken, done, too_long}
use Rattle.awk_fields.specs.Takes.{Input}
use Rattle.box_world.specs.Events.{Key}
use Rattle.box_world.specs.declared.world.World.{Ghosts}
use Rattle.awk_program.specs.Slots.{Text}
use Rattle.awk_machine.specs.Advances.{advance, held}
use Rattle.awk_machine.specs.Getline.{first_record}
use Rattle.awk_machine.specs.Pieces.{Piece, Faulted, ends}
use Rattle.awk_machine.specs.State.{State, Course, Given}
use Rattle.awk_machine.specs.Streams.{came, has_ended, same_key, seen}
use Rattle.awk_machine.specs.Variables.{own_text}
use Rattle.awk_streams.specs.Chains.{Leads}
use Rattle.awk_streams.specs.declared.getline.NextRecord.{NextRecord}
use Rattle.awk_streams.specs.declared.getline.NextRecord.TheVariants as found
use Rattle.awk_streams.specs.Readings.{IsReading}
use Rattle.awk_streams.specs.Tables.{Table}
use Rattle.awk_streams.specs.Tasks.{IsTable, IsReadAt, beside, input_at}
use Rattle.awk_streams.proofs.Chain.{changes}
use Rattle.awk_streams.proofs.Reading.{tells_taken}

module _ {W : Type 0} (ghosts : Ghosts W) (g : Given) (s : State) (place : Place) (key : Key) (rs : Text)
    (rs_is : own_text s (codes "RS") ≡ rs) (mid : Table) (before : Input)
    (live : input_at key mid ≡ Some before) where
  -- the machine's first record is the reader's
  pub head_is : (k : Key → ℕ) (c : Course) → IsTable mid k c → first_record key (seen (beside s mid k) c)
      ≡ head rs before.unread before.ended
  head_is k c a =
      let x = a.inputs key before live in
      ap (λ r. head r (drop (k key) (came key c.events)) (has_ended key c.events)) rs_is
      ∙ ap (λ u. head rs u (has_ended key c.events)) (sym x.unread) ∙ ap (head rs before.unread) (sym x.ended)

  module _ {p q : Piece} {to : NextRecord → List Piece → List Piece} (form : IsReading g s q place key to) {old : Table}
      {first w : W} (lead : Leads ghosts (beside s) IsTable (λ t. s.course.used) g p old first (λ k. q ∷ k) mid w) where
    -- the machine's move, where this stands first
    pub head_moves : (h : Head) → head rs before.unread before.ended ≡ h → (k : List Piece) (t : Key → ℕ) (c : Course)
        → IsTable mid t c →
        advance g (q ∷ k) (seen (beside s mid t) c) ≡ held g (seen (beside s mid t) c)
        (form.by_head h k (seen (beside s mid t) c))
    head_moves h e k t c a = ap (held g (seen (beside s mid t) c)) (form.moves k mid t c
        ∙ ap (λ x. form.by_head x k (seen (beside s mid t) c)) (head_is t c a ∙ e))

    pub reads_record : (text rest : Text) (m : ℕ) (new : Table) → head rs before.unread before.ended ≡ taken text rest
        → rest ≡ drop m before.unread → IsReadAt key (record { unread = rest; ended = before.ended }) mid new →
        Leads ghosts (beside s) IsTable (λ t. s.course.used) g p old first (λ k. to (found.Record text) k) new w
    reads_record text rest m new h is r =
        changes refl lead (λ k t c a. (
          λ other. if same_key key other then length (came key c.events) - length rest else t other,
          tells_taken key mid new t c before rest m a live is r,
          head_moves (taken text rest) h k t c a ∙ ap (held g (seen (beside s mid t) c))
              (form.takes text rest k (seen (beside s mid t) c)),
        ))

    pub reads_end : head rs before.unread before.ended ≡ done
        → Leads ghosts (beside s) IsTable (λ t. s.course.used) g p old first (λ k. to found.End k) mid w
    reads_end h = changes refl lead (λ k t c a. (
      t,
      a,
      head_moves done h k t c a ∙ ap (held g (seen (beside s mid t) c))
          (form.ends k (seen (beside s mid t) c)),
    ))

    pub reads_long : head rs before.unread before.ended ≡ too_long
        → Leads ghosts (beside s) IsTable (λ t. s.course.used) g p old first (λ k. ends (Faulted TextTooLong place))
        mid w
    reads_long h = changes refl lead
        (λ k t c a. (
          t,
          a,
          head_moves too_long h k t c a ∙ ap (held g (seen (beside s mid t) c))
              (form.faults k (seen (beside s mid t) c)),
        ))
