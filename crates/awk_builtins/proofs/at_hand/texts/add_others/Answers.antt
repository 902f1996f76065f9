use Rattle.std.proofs.Common.{sym, ap, ◌∙◌, [], ◌∷◌, ◌++◌, take}
use Rattle.std.proofs.lemmas.List.{take_more}
use Rattle.awk_lib.specs.Written.{written}
use Rattle.awk_text.specs.Values.{text_of}
use Rattle.awk_builtins.proofs.Lines.{joined_add}
use Rattle.awk_builtins.proofs.Printed.{there_more}
use Rattle.awk_builtins.proofs.at_hand.texts.add_others.Goals as goal

pub loop-x-preserved : goal.loop-x-preserved
loop-x-preserved c = λ first start.
    let h = c.loop-x.invariant first start in
    let n = c.add_next.ensures c.if-not-add_next.false in
    let xs = c.args.xs.now in
    let i = c.loop-x.x-index in
    let sep = c.args.separator.now in
    record {
      vals = h.vals ++ n.0 ∷ [];
      there = rw (take_more xs i c.x-item.result c.loop-x-test.true ∙ ap (λ z. take i xs ++ z ∷ []) (sym c.x-item.is))
          (there_more c.args.store.now (take i xs) h.vals c.x-item.result n.0 h.there n.2);
      line_is = n.1 ∙ ap (λ l. written (written l sep) (text_of n.0)) h.line_is ∙ joined_add sep first h.vals n.0;
    }
