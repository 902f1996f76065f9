use Rattle.box_policy.proofs.TablesLemmas.{word_first, word_more}
use Rattle.box_policy.proofs.table.next_word.Goals as goal

pub returns-clause-first : goal.returns-clause-first
returns-clause-first c = word_first c.args.reached c.args.looping c.args.led c.args.carry

pub returns-clause-others : goal.returns-clause-others
returns-clause-others c = word_more c.args.reached c.args.looping c.args.led c.args.carry c.requires
