use Rattle.std.proofs.Common.{◌≡◌, suc, ◌-◌, length, set, sym, ◌∙◌, arith}
use Rattle.std.proofs.lemmas.List.{length-set, take_rest}
use Rattle.awk_format.proofs.Radix.{last, room, room_left, room_step, start, step}
use Rattle.awk_format.proofs.digits.digits.Goals as goal

pub loop-left-init : goal.loop-left-init
loop-left-init c = record {
  length_is = c.told-buffer;
  room = room c.args.base c.args.number c.requires.least (omega arith);
  some = omega arith;
  within = omega arith;
  whole = start c.args.base c.args.number c.args.upper c.args.buffer.now c.told-buffer;
}

pub loop-left-preserved : goal.loop-left-preserved
loop-left-preserved c =
    let l = c.loop-left in
    let k = l.at - 1 in
    let e : l.at ≡ suc k = omega arith in
    let room = room_step c.args.base l.left k c.requires.least (rw e at l.invariant.room) in
    record {
      length_is = length-set l.buffer k c.glyph.result ∙ l.invariant.length_is;
      room = room;
      some = room_left c.args.base _ k room c.if-left-eq0.false;
      within = omega arith;
      whole = step c.args.base l.left l.at k c.glyph.result c.args.upper l.buffer _ e c.glyph.ensures
          (omega arith) l.invariant.whole c.if-left-eq0.false;
    }

pub returns : goal.returns
returns c =
    let l = c.loop-left in
    let k = l.at - 1 in
    let e : l.at ≡ suc k = omega arith in
    let shown = last c.args.base l.left l.at k c.glyph.result c.args.upper l.buffer _ e c.glyph.ensures
    (omega arith) l.invariant.whole c.if-left-eq0.true in
    let now = set l.buffer k c.glyph.result in
    let len : 22 ≡ length now = sym (length-set l.buffer k c.glyph.result ∙ l.invariant.length_is) in
    rw len (take_rest now k) ∙ shown
