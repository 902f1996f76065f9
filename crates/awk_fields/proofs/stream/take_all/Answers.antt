use Rattle.std.proofs.Common.{◌≡◌, ◌∷◌, ◌++◌, [], sym, ap, subst, refl, ◌∙◌, append_assoc}
use Rattle.awk_fields.specs.Heads.{head, taken}
use Rattle.awk_fields.specs.Takes.{Takes}
use Rattle.awk_fields.proofs.StreamLemmas.{first_append, takes_record}
use Rattle.awk_fields.proofs.stream.take_all.Goals as goal

pub loop-room-preserved : goal.loop-room-preserved
loop-room-preserved c =
    let rs = c.args.rs.now in
    let old = c.loop-room.reader.input in
    let new = c.take.new.self.input in
    let text = c.in-Record.text in
    let start = c.args.reader.now.input in
    let so_far = c.loop-room.invariant.texts in
    let here = takes_record (head rs old.unread old.ended) text old new
    (subst (λ a. Takes (head rs old.unread old.ended) a old new) c.in-Record.is c.in_ok-text.ensures.ok) in
    let first : head rs old.unread start.ended ≡ taken text new.unread =
    ap (head rs old.unread) (sym c.loop-room.invariant.ended) ∙ here.0 in
    record {
      texts = (
        so_far.0 ++ text ∷ [],
        c.in_ok-push.ensures.items ∙ (ap (λ xs. xs ++ text ∷ []) so_far.1 ∙ append_assoc c.args.found.now.items so_far.0
            (text ∷ [])),
        first_append rs start.ended start.unread so_far.0 (text ∷ []) old.unread new.unread so_far.2 (
          new.unread,
          first,
          refl,
        ),
      );
      ended = here.1 ∙ c.loop-room.invariant.ended;
    }
