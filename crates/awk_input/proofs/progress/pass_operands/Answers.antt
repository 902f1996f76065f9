use Rattle.std.proofs.Common.{sym, ap, ◌∙◌, true}
use Rattle.std.specs.Prelude.{Some, if◌then◌else◌}
use Rattle.box_world.specs.Events.{Standard}
use Rattle.awk_machine.specs.State.{Main}
use Rattle.awk_store.specs.Changes.{with_main}
use Rattle.awk_input.proofs.progress.pass_operands.Goals as goal

pub returns-then-main : goal.returns-then-main
returns-then-main c =
    let s = c.args.store.now in
    let e = sym (ap (λ (m : Main). m.named) c.main.ensures) ∙ c.if-main.true in
    c.end.ensures ∙ sym (ap (λ b. with_main (if b then record s.main { ended = true } else record s.main {
      current =
          Some (Standard 0);
    }) s) e)

pub returns-else-main : goal.returns-else-main
returns-else-main c =
    let s = c.args.store.now in
    let e = sym (ap (λ (m : Main). m.named) c.main.ensures) ∙ c.if-main.false in
    c.begin_standard.ensures
    ∙ sym (ap (λ b. with_main (if b then record s.main { ended = true } else record s.main {
      current =
          Some (Standard 0);
    }) s) e)
