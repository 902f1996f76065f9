use Rattle.std.proofs.Common.{rules, refl, arith, length-set, ◌∙◌, ◌≡◌, ◌<◌, length}
use Rattle.box_policy.proofs.TablesLemmas.{step_more}
use Rattle.box_policy.proofs.table.step.Goals as goal

pub loop-i-preserved : goal.loop-i-preserved
loop-i-preserved c =
    let within : c.loop-i.i < length c.loop-i.reached = search rules in
    let more = step_more c.args.token c.args.in_class c.args.blocks.now _ c.args.reached.now c.loop-i.reached c.loop-i.i
    _ c.loop-i.carry c.leads.result c.loops.result
    c.led_from-led.result c.next_word.result c.carried-carry.result (omega (
      arith,
      c.requires,
      c.loop-i.invariant.len,
      within,
    )) within refl c.leads.ensures c.loops.ensures c.led_from-led.ensures
    c.next_word.ensures.first c.next_word.ensures.others c.carried-carry.ensures.last c.loop-i.invariant.over
    c.loop-i.invariant.done c.loop-i.invariant.kept in
    record {
      len = length-set c.loop-i.reached c.loop-i.i c.next_word.result ∙ c.loop-i.invariant.len;
      small = c.carried-carry.ensures.small;
      over = more.0;
      done = more.1;
      kept = more.2;
    }
