use Rattle.std.proofs.Common.{refl, ◌∙◌, ap, [], ◌++◌, ℕ, map, arith}
use Rattle.std.proofs.lemmas.List.{length-append}
use Rattle.awk_lib.specs.Written.{written}
use Rattle.awk_program.specs.Program.{joins_of}
use Rattle.awk_program.specs.View.{view, view_joined}
use Rattle.awk_store.specs.Wholes.{names_in}
use Rattle.awk_text.specs.Values.{text_of}
use Rattle.awk_text.specs.declared.value.Value.TheVariants as v
use Rattle.awk_builtins.proofs.Lines.{written_held}
use Rattle.awk_builtins.proofs.Grown.{operands_at, operands_done, operands_first}
use Rattle.awk_builtins.proofs.at_hand.texts.join_operands.Goals as goal

pub loop-next-init : goal.loop-next-init
loop-next-init c =
    let n = c.add_item.ensures c.if-not-add_item.false in
    record {
      val = n.0;
      line_is = n.1 ∙ ap (λ l. written l (text_of n.0)) c.clear.ensures ∙ written_held [] (text_of n.0);
      along = λ g t fits. operands_first g (c.args.store.now, t) (view (names_in g) c.args.first.now)
          (joins_of (map (view_joined (names_in g)) c.args.rest.now)) n.0 (n.2 g t);
      is_text = λ more. absurd (omega (arith, more));
    }

pub loop-next-preserved : goal.loop-next-preserved
loop-next-preserved c =
    let l = c.loop-next.invariant in
    let n = c.add_item-in-loop-next.ensures c.if-not-add_item-2.false in
    record {
      val = v.Text (text_of l.val ++ text_of n.0);
      line_is = n.1 ∙ ap (λ line. written line (text_of n.0)) l.line_is ∙ written_held (text_of l.val) (text_of n.0);
      along = λ g t fits. operands_at g (c.args.store.now, t) c.args.rest.now c.loop-next.next-index l.val
          c.next-item.result n.0 c.loop-next-test.true c.next-item.is fits (n.2 g t)
          (l.along g t (let sum = length-append {A = ℕ} (text_of l.val) (text_of n.0) in omega (arith, sum, fits)));
      is_text = λ more. refl;
    }

pub returns : goal.returns
returns c = λ yes.
    let l = c.loop-next.invariant in
    record {
      val = l.val;
      line_is = l.line_is;
      there = λ fits g t. operands_done g (c.args.store.now, t) c.args.rest.now
          c.loop-next.next-index l.val c.loop-next-test.false (l.along g t fits);
      is_text =
          λ more. l.is_text (omega (arith, more, c.loop-next-test.false));
    }
