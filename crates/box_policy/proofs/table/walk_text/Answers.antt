use Rattle.std.proofs.Common.{rules, refl, arith, ◌∙◌, ◌≡◌, ◌<◌, ◌*◌, ◌+◌, true, length, map, drop}
use Rattle.std.specs.List.{list_all}
use Rattle.std.specs.Prelude.{◌==◌}
use Rattle.box_policy.specs.declared.tokens.Token.TheVariants.{Byte}
use Rattle.box_policy.proofs.TablesLemmas.{walk_byte, walk_dead}
use Rattle.box_policy.proofs.table.walk_text.Goals as goal

pub returns-then-is_none_reached-clause-places : goal.returns-then-is_none_reached-clause-places
returns-then-is_none_reached-clause-places c = λ symbols rest table room.
    let dead : list_all (λ word. word == 0) c.step.new.reached ≡ true = search rules in
    walk_dead symbols c.step.new.reached _ rest dead
    ∙ walk_byte c.args.sort c.args.blocks.now symbols c.args.text.now c.loop-byte.byte-index _ rest c.loop-byte.reached
    c.step.new.reached _ _
    (search rules) refl c.is_in_class.ensures table (omega (arith, c.loop-byte.invariant.len, room))
    c.step.ensures.places (c.loop-byte.invariant.whole symbols rest table room)

pub loop-byte-preserved : goal.loop-byte-preserved
loop-byte-preserved c = record {
  len = c.step.ensures.len ∙ c.loop-byte.invariant.len;
  whole = λ symbols rest table room.
      walk_byte c.args.sort c.args.blocks.now symbols c.args.text.now c.loop-byte.byte-index _ rest c.loop-byte.reached
      c.step.new.reached _ _
      (search rules) refl c.is_in_class.ensures table (omega (arith, c.loop-byte.invariant.len, room))
      c.step.ensures.places (c.loop-byte.invariant.whole symbols rest table room);
}
