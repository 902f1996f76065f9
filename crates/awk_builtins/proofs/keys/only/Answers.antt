use Rattle.awk_builtins.proofs.Rests.{just_one}
use Rattle.awk_builtins.proofs.keys.only.Goals as goal

pub returns-in-len1 : goal.returns-in-len1
returns-in-len1 c = just_one c.args.subscripts.now c.one-item.result c.in-len1.len_at_least c.in-len1.len_below
    c.one-item.is
