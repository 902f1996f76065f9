use Rattle.awk_store.proofs.Acting.{passes}
use Rattle.awk_builtins.proofs.SplitSteps.{split_first}
use Rattle.awk_text.specs.Values.{text_of}
use Rattle.awk_builtins.proofs.splits.split_into.Goals as goal

pub returns : goal.returns
returns c = λ g t.
    passes (split_first g (c.args.store.now, t) c.args.splitting.array c.args.splitting.at_name c.args.splitter.now
    (text_of c.args.splitting.text.now) c.in-Ok.parts.items c.in-Ok.ensures.ok) (c.fill.ensures g t)
