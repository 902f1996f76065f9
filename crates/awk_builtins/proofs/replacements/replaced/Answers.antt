use Rattle.awk_text.specs.Values.{text_of}
use Rattle.awk_builtins.proofs.SearchSteps.{replaces_result}
use Rattle.awk_builtins.proofs.replacements.replaced.Goals as goal

pub returns : goal.returns
returns c = λ g w to.
    rw c.at.ensures (replaces_result g w c.args.place to c.args.ere.now (text_of c.args.new.now) c.args.old.now
    c.args.all c.replaced_text.result c.replaced_text.ensures.ok c.replaced_text.ensures.err)
