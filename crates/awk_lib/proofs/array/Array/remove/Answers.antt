use Rattle.std.proofs.Common.{ap, ◌∙◌, sym, arith}
use Rattle.awk_lib.specs.Kept.{rows_of}
use Rattle.awk_lib.specs.Numbering.{shown}
use Rattle.awk_lib.proofs.Keeping.{some_count, missing_element, removed_kept, emptied}
use Rattle.awk_lib.proofs.Rows.{none_without, shown_gone}
use Rattle.awk_lib.proofs.array.Array.remove.Goals as goal

pub returns-in_default : goal.returns-in_default
returns-in_default g c =
    let es = c.self.inside.elements in
    let key = c.args.key.now in
    rw (← c.self.view_is)
    (sym (none_without key (shown (rows_of es)) (missing_element es key c.self.invariant.numbered.keys
    (c.find.ensures.none c.in_default.is))))

pub remove-requires-clause-some : goal.remove-requires-clause-some
remove-requires-clause-some g c =
    let h = c.in-Some.ensures.some in some_count c.self.inside.elements c.in-Some.place h.0 h.1 c.self.invariant.count

pub invariant_of-self : goal.invariant_of-self
invariant_of-self g c =
    let h = c.in-Some.ensures.some in
    let now = c.remove in
    removed_kept c.self.inside.settled c.self.inside.next c.self.inside.elements now.new.self h.0 c.self.invariant
    (now.ensures.gone h.0 h.1) now.ensures.apart now.ensures.count now.ensures.rising

pub invariant_of-self-else-self-eq0 : goal.invariant_of-self-else-self-eq0
invariant_of-self-else-self-eq0 g c =
    let h = c.in-Some.ensures.some in
    let now = c.remove in
    removed_kept c.self.inside.settled c.self.inside.next c.self.inside.elements now.new.self h.0 c.self.invariant
    (now.ensures.gone h.0 h.1) now.ensures.apart now.ensures.count now.ensures.rising

pub returns-then-self-eq0 : goal.returns-then-self-eq0
returns-then-self-eq0 g c =
    let h = c.in-Some.ensures.some in
    let a = c.self.invariant in
    let es = c.self.inside.elements in
    let fs = c.remove.new.self in
    let gone = c.remove.ensures.gone h.0 h.1 in
    let empty = emptied c.self.inside.settled c.self.inside.next es fs h.0 a gone c.remove.ensures.count
    (omega (arith, c.if-self-eq0.true)) in
    rw (← c.self.view_is) (c.clear.ensures ∙ sym (ap shown empty) ∙ shown_gone c.self.inside.settled c.self.inside.next
    (rows_of es) h.0 (rows_of fs) c.args.key.now a.numbered gone h.2)

pub returns-else-self-eq0 : goal.returns-else-self-eq0
returns-else-self-eq0 g c =
    let h = c.in-Some.ensures.some in
    rw (← c.self.view_is) (shown_gone c.self.inside.settled c.self.inside.next (rows_of c.self.inside.elements) h.0
    (rows_of c.remove.new.self) c.args.key.now c.self.invariant.numbered (c.remove.ensures.gone h.0 h.1) h.2)
