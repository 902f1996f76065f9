use Rattle.std.proofs.Common.{ap, ◌∙◌, Ok, inr, refl, sym}
use Rattle.std.specs.Fmt.{decimal}
use Rattle.awk_lib.specs.Kept.{rows_of}
use Rattle.awk_lib.specs.Numbering.{shown}
use Rattle.awk_lib.proofs.Keeping.{none_from, no_room, room, few, count_shown, missing_element, added_kept, added_shown}
use Rattle.awk_lib.proofs.array.Array.insert_number.Goals as goal

pub returns-then-self-ge-MOST_ELEMENTS-clause-err : goal.returns-then-self-ge-MOST_ELEMENTS-clause-err
returns-then-self-ge-MOST_ELEMENTS-clause-err g c =
    let es = c.self.inside.elements in
    let a = c.self.invariant in
    let key = decimal c.args.number in
    let none = none_from es key c.args.self.now a.numbered.keys c.self.view_is c.requires in (
      refl,
      inr (rw (← c.self.view_is) (no_room (shown (rows_of es)) key c.args.value es.count
          (count_shown c.self.inside.settled c.self.inside.next es a) c.if-self-ge-MOST_ELEMENTS.true
          (missing_element es key a.numbered.keys none))),
    )

pub add_number-requires-clause-absent : goal.add_number-requires-clause-absent
add_number-requires-clause-absent g c = none_from c.self.inside.elements (decimal c.args.number) c.args.self.now
    c.self.invariant.numbered.keys c.self.view_is c.requires

pub invariant_of-self-2 : goal.invariant_of-self-2
invariant_of-self-2 g c =
    let es = c.self.inside.elements in
    let a = c.self.invariant in
    let key = decimal c.args.number in
    let none = none_from es key c.args.self.now a.numbered.keys c.self.view_is c.requires in
    added_kept c.self.inside.settled c.self.inside.next es c.add_number.new.self key c.args.value a none
    c.in_ok-added.ensures.added
    c.in_ok-added.added.is_last c.in-Some.next c.in_ok-added.ensures.last c.add_number.ensures.apart
    c.in_ok-added.ensures.count c.in-Some.ensures.1

pub returns-clause-ok : goal.returns-clause-ok
returns-clause-ok g c =
    let es = c.self.inside.elements in
    let a = c.self.invariant in
    let key = decimal c.args.number in
    let none = none_from es key c.args.self.now a.numbered.keys c.self.view_is c.requires in
    rw (← c.self.view_is) (room (shown (rows_of es)) key c.args.value es.count
    (count_shown c.self.inside.settled c.self.inside.next es a) (few es.count c.if-self-ge-MOST_ELEMENTS.false)
    ∙ ap Ok (sym (added_shown c.self.inside.settled c.self.inside.next es c.add_number.new.self key c.args.value a none
    c.in_ok-added.ensures.added)))
