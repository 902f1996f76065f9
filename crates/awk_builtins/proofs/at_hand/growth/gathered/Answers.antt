use Rattle.std.proofs.Common.{map, arith}
use Rattle.awk_program.specs.Program.{joins_of}
use Rattle.awk_program.specs.View.{view_joined}
use Rattle.awk_store.specs.Wholes.{names_in}
use Rattle.awk_builtins.proofs.Grown.{joins_first, joins_at, joins_done}
use Rattle.awk_builtins.proofs.at_hand.growth.gathered.Goals as goal

pub loop-next-init : goal.loop-next-init
loop-next-init c = record {
  within = rw c.clear.ensures.items (omega arith);
  joined = λ g t text fits. joins_first g (c.args.store.now, t)
      (joins_of (map (view_joined (names_in g)) c.args.rest.now)) text c.clear.new.self.items c.clear.ensures.items;
}

pub loop-next-preserved : goal.loop-next-preserved
loop-next-preserved c =
    let added = c.in_ok-add_text.ensures.text c.if-not-branch.false in
    let within = c.in_ok-add_text.ensures.room c.if-not-branch.false in
    record {
      within = within;
      joined = λ g t text fits. joins_at g (c.args.store.now, t) c.args.rest.now c.loop-next.next-index text
          c.next-item.result c.args.room c.loop-next.texts.items added.0 c.add_text.new.texts.items
          c.loop-next-test.true c.next-item.is added.1 fits within (added.2 g t)
          (c.loop-next.invariant.joined g t text fits);
    }

pub returns : goal.returns
returns c = λ yes g t text fits. joins_done g (c.args.store.now, t) c.args.rest.now c.loop-next.next-index text
    c.loop-next.texts.items c.loop-next-test.false (c.loop-next.invariant.joined g t text fits)
