use Rattle.std.proofs.Common.{refl, sym, ap, ap₂, ◌∙◌, ◌&&◌}
use Rattle.std.specs.Str.{bytes_eq}
use Rattle.std.specs.Option.{option_map}
use Rattle.std.specs.Map.Iter.{deref_pair}
use Rattle.awk_streams.proofs.Scans.{first_here, first_next, first_none, first_past}
use Rattle.awk_streams.proofs.streams.Streams.first_of.Goals as goal
use Rattle.awk_streams.proofs.streams.Streams.first_of.Goals.{in-Some+else-is_closed}
use Rattle.awk_streams.proofs.streams.Streams.first_of.Goals.{else-is_closed-via-then-is_closed+else-eq}
use Rattle.awk_streams.proofs.streams.Streams.first_of.Goals.{else-is_closed-via-else-is_closed, in_default}

pub loop-i-init : goal.loop-i-init
loop-i-init c = refl

pub returns-then-eq : goal.returns-then-eq
returns-then-eq c =
    let n = c.in-Some.name.now in
    let at = sym c.get_index.ensures.entry ∙ ap (option_map deref_pair) c.in-Some.is in
    let i = rw (← c.self.view_is) at c.loop-i.invariant in
    let b = ap₂ (λ x y. x && y) (sym c.is_closed.ensures ∙ c.if-is_closed.true)
    (ap (bytes_eq c.args.text.now) (sym c.as_slice.ensures.value) ∙ sym c.eq.ensures ∙ c.if-eq.true) in
    rw (← c.self.view_is) (sym (i ∙ first_here c.args.text.now c.self.inside.table.entries c.loop-i.i _ at b))

pub loop-i-preserved : goal.loop-i-preserved
loop-i-preserved c =
    let i = rw (← c.self.view_is) at c.loop-i.invariant in
    elim c.match-get_index.branch [
      | in-Some+else-is_closed w ↦
          let at = sym c.get_index.ensures.entry ∙ ap (option_map deref_pair) w.in-Some.is in
          elim w.else-is_closed.branch [
            | else-is_closed-via-then-is_closed+else-eq u ↦
                let b = ap₂ (λ x y. x && y) (sym w.is_closed.ensures ∙ u.if-is_closed.true)
                (ap (bytes_eq c.args.text.now) (sym u.as_slice.ensures.value) ∙ sym u.eq.ensures ∙ u.if-eq.false) in
                rw (← c.self.view_is) (i ∙ first_next c.args.text.now c.self.inside.table.entries c.loop-i.i _ at b)
            | else-is_closed-via-else-is_closed u ↦
                let b = ap (λ x. x && bytes_eq c.args.text.now w.in-Some.name.now.text.items) (sym w.is_closed.ensures
                ∙ u.if-is_closed.false) in
                rw (← c.self.view_is) (i ∙ first_next c.args.text.now c.self.inside.table.entries c.loop-i.i _ at b)
          ]
      | in_default w ↦
          let at = sym c.get_index.ensures.entry ∙ ap (option_map deref_pair) w.in_default.is in
          rw (← c.self.view_is) (i ∙ first_none c.args.text.now c.self.inside.table.entries c.loop-i.i at)
    ]

pub returns : goal.returns
returns c =
    let i = rw (← c.self.view_is) at c.loop-i.invariant in
    let e = c.len-i-end.ensures.len in
    let l = rw e at c.loop-i-test.false in
    rw (← c.self.view_is) (sym (i ∙ first_past c.args.text.now c.self.inside.table.entries c.loop-i.i l))
