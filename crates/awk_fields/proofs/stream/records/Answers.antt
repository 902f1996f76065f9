use Rattle.std.proofs.Common.{◌≡◌, ◌+◌, ◌<◌, ◌⊎◌, inl, inr, ◌∷◌, ◌++◌, [], ℕ, List, true, false, Result, Ok, Err}
use Rattle.std.proofs.Common.{length, take, drop, get_or, sym, ap, subst, ◌∙◌, arith}
use Rattle.std.specs.Result.{IfErr, IsErrAnd}
use Rattle.std.specs.List.{flat_map}
use Rattle.std.proofs.lemmas.List.{take_more, take_all, take-append-drop, flat_map_more}
use Rattle.std.proofs.lemmas.Grind.{flat_map-append}
use Rattle.awk_text.specs.declared.fault.Fault.{Fault}
use Rattle.awk_text.specs.declared.fault.Fault.TheVariants.{Memory, TextTooLong}
use Rattle.awk_fields.specs.Heads.{FirstRecords, Records, IsStopped, IsTooLong, head}
use Rattle.awk_fields.proofs.StreamLemmas.{stream_step, stream_end, stream_long, stream_end_long}
use Rattle.awk_fields.proofs.stream.records.Goals as goal

-- the error e is memory's, or tells of a record that is too long
abbrev FailsTooLong : Fault → Type 0 → Type 0
FailsTooLong e long = (e ≡ Memory) ⊎ ((e ≡ TextTooLong) × long)

passed_on : {T : Type 0} (r : Result T Fault) (e : Fault) (P : Fault → Type 0) → IsErrAnd r (λ x. x ≡ e) → P e
    → IfErr r P
passed_on (Ok x) e P is h = tt
passed_on (Err x) e P is h = subst P (sym is) h

with_later : (pieces : List (List ℕ)) (i : ℕ) (piece : List ℕ) → i < length pieces → piece ≡ get_or pieces i piece
    → flat_map (λ (p : List ℕ). p) (take i pieces) ++ piece ++ flat_map (λ (p : List ℕ). p) (drop (i + 1) pieces)
    ≡ flat_map (λ (p : List ℕ). p) pieces
with_later pieces i piece lt is =
    let f = λ (p : List ℕ). p in
    ap (λ x. x ++ flat_map f (drop (i + 1) pieces)) (flat_map_more f [] (take i pieces) piece ∙ ap (flat_map f)
    (ap (λ x. take i pieces ++ x ∷ []) is ∙ sym (take_more pieces i piece lt)))
    ∙ (sym (flat_map-append f (take (i + 1) pieces) (drop (i + 1) pieces)) ∙ ap (flat_map f)
    (take-append-drop (i + 1) pieces))

pub loop-piece-preserved : goal.loop-piece-preserved
loop-piece-preserved c =
    let rs = c.args.rs.now in
    let pieces = c.args.pieces.now in
    let i = c.loop-piece.piece-index in
    let u = c.loop-piece.reader.input.unread in
    let piece = c.bytes.result.now in
    let rest = c.take_all.new.reader.input.unread in
    let pushed = c.in_ok-push.ensures.ok in
    let texts = c.in_ok-take_all.ensures.taken in
    let lt : i < length pieces = omega arith in
    let item : piece ≡ get_or pieces i piece = subst (λ x. x ≡ get_or pieces i x) (sym c.bytes.ensures) c.piece-item.is
    in
    let whole : flat_map (λ (p : List ℕ). p) (take i pieces) ++ piece ≡ flat_map (λ (p : List ℕ). p)
    (take (i + 1) pieces) =
    flat_map_more (λ (p : List ℕ). p) [] (take i pieces) piece ∙ ap (flat_map (λ (p : List ℕ). p))
    (ap (λ x. take i pieces ++ x ∷ []) item ∙ sym (take_more pieces i piece lt)) in
    let more : FirstRecords rs false (u ++ piece) texts.0 rest =
    subst (λ r. FirstRecords rs r.ended r.unread texts.0 rest) pushed texts.2 in
    record {
      open_still = c.in_ok-take_all.ensures.ended ∙ ap (λ r. r.ended) pushed;
      found_are = λ later.
          subst (λ f. FirstRecords rs true (flat_map (λ (p : List ℕ). p) (take (i + 1) pieces) ++ later) f
          (rest ++ later)) (sym texts.1)
          (subst (λ w. FirstRecords rs true (w ++ later) (c.loop-piece.found.items ++ texts.0) (rest ++ later)) whole
          (stream_step rs (flat_map (λ (p : List ℕ). p) (take i pieces)) u piece c.loop-piece.found.items texts.0 rest
          c.loop-piece.invariant.found_are more later));
    }

pub returns-clause-ok : goal.returns-clause-ok
returns-clause-ok c =
    let rs = c.args.rs.now in
    let pieces = c.args.pieces.now in
    let i = c.loop-piece.piece-index in
    let u = c.loop-piece.reader.input.unread in
    let rest = c.take_all-2.new.reader.input.unread in
    let finished = c.finish.ensures.input in
    let texts = c.in_ok-take_all-2.ensures.taken in
    let all : take i pieces ≡ pieces = take_all i pieces (omega arith) in
    let more : FirstRecords rs true u texts.0 rest = subst (λ r. FirstRecords rs r.ended r.unread texts.0 rest) finished
    texts.2 in
    let ended : c.take_all-2.new.reader.input.ended ≡ true = c.in_ok-take_all-2.ensures.ended
    ∙ ap (λ r. r.ended) finished in
    subst (Records rs (flat_map (λ (p : List ℕ). p) pieces)) (sym texts.1)
    (subst (λ ps. Records rs (flat_map (λ (p : List ℕ). p) ps) (c.loop-piece.found.items ++ texts.0)) all
    (stream_end rs (flat_map (λ (p : List ℕ). p) (take i pieces)) u c.loop-piece.found.items texts.0 rest
    c.loop-piece.invariant.found_are more
    (subst (λ e. IsStopped (head rs rest e)) ended c.in_ok-take_all-2.ensures.stopped)))

pub returns-in_err-take_all-clause-fault : goal.returns-in_err-take_all-clause-fault
returns-in_err-take_all-clause-fault c =
    let rs = c.args.rs.now in
    let pieces = c.args.pieces.now in
    let i = c.loop-piece.piece-index in
    let u = c.loop-piece.reader.input.unread in
    let piece = c.bytes.result.now in
    let so_far = flat_map (λ (p : List ℕ). p) (take i pieces) in
    let later = flat_map (λ (p : List ℕ). p) (drop (i + 1) pieces) in
    let pushed = c.in_ok-push.ensures.ok in
    let item : piece ≡ get_or pieces i piece = subst (λ x. x ≡ get_or pieces i x) (sym c.bytes.ensures) c.piece-item.is
    in
    let whole : so_far ++ piece ++ later ≡ flat_map (λ (p : List ℕ). p) pieces =
    with_later pieces i piece (omega arith) item in
    let fault : FailsTooLong c.in_err-take_all.field-0.0 (IsTooLong rs true (flat_map (λ (p : List ℕ). p) pieces)) =
    elim c.in_err-take_all.ensures.fault [
      | inl memory ↦ inl memory
      | inr long ↦ inr (
        long.0,
        subst (IsTooLong rs true) whole
            (stream_long rs so_far u piece later c.loop-piece.found.items c.loop-piece.invariant.found_are
            (subst (λ r. IsTooLong rs r.ended r.unread) pushed long.1)),
      )
    ] in
    passed_on c.from_residual-in_err-take_all.result c.in_err-take_all.field-0.0
    (λ e. FailsTooLong e (IsTooLong rs true (flat_map (λ (p : List ℕ). p) pieces)))
    c.from_residual-in_err-take_all.ensures.1 fault

pub returns-in_err-take_all-2-clause-fault : goal.returns-in_err-take_all-2-clause-fault
returns-in_err-take_all-2-clause-fault c =
    let rs = c.args.rs.now in
    let pieces = c.args.pieces.now in
    let i = c.loop-piece.piece-index in
    let u = c.loop-piece.reader.input.unread in
    let so_far = flat_map (λ (p : List ℕ). p) (take i pieces) in
    let whole : so_far ≡ flat_map (λ (p : List ℕ). p) pieces = ap (flat_map (λ (p : List ℕ). p))
    (take_all i pieces (omega arith)) in
    let fault : FailsTooLong c.in_err-take_all-2.field-0.0 (IsTooLong rs true (flat_map (λ (p : List ℕ). p) pieces)) =
    elim c.in_err-take_all-2.ensures.fault [
      | inl memory ↦ inl memory
      | inr long ↦ inr (
        long.0,
        subst (IsTooLong rs true) whole (stream_end_long rs so_far u c.loop-piece.found.items
            c.loop-piece.invariant.found_are (subst (λ r. IsTooLong rs r.ended r.unread) c.finish.ensures.input
            long.1)),
      )
    ] in
    passed_on c.from_residual-in_err-take_all-2.result c.in_err-take_all-2.field-0.0
    (λ e. FailsTooLong e (IsTooLong rs true (flat_map (λ (p : List ℕ). p) pieces)))
    c.from_residual-in_err-take_all-2.ensures.1 fault
