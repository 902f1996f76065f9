use Rattle.awk_builtins.proofs.WholeArrays.{empties_so}
use Rattle.awk_builtins.proofs.arrays.remove_all.Goals as goal

pub returns : goal.returns
returns c = λ g t. empties_so g (c.args.store.now, t) c.args.array c.clear.new.self c.clear.ensures
