use Rattle.box_policy.proofs.BlocksLemmas.{is_set-and}
use Rattle.box_policy.proofs.table.led_from.Goals as goal

pub returns : goal.returns
returns c = is_set-and c.args.reached c.args.leading
