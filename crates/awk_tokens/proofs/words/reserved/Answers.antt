use Rattle.std.proofs.Common.{◌∙◌, arith}
use Rattle.awk_tokens.proofs.WordLemmas.{listed_at, listed_none}
use Rattle.awk_tokens.proofs.words.reserved.Goals as goal

pub returns-in-2 : goal.returns-in-2
returns-in-2 c = c.lookup.ensures ∙ listed_at 2 c.args.word.now c.in-2.is

pub returns-in-3 : goal.returns-in-3
returns-in-3 c = c.lookup-in-3.ensures ∙ listed_at 3 c.args.word.now c.in-3.is

pub returns-in-4 : goal.returns-in-4
returns-in-4 c = c.lookup-in-4.ensures ∙ listed_at 4 c.args.word.now c.in-4.is

pub returns-in-5 : goal.returns-in-5
returns-in-5 c = c.lookup-in-5.ensures ∙ listed_at 5 c.args.word.now c.in-5.is

pub returns-in-6 : goal.returns-in-6
returns-in-6 c = c.lookup-in-6.ensures ∙ listed_at 6 c.args.word.now c.in-6.is

pub returns-in-7 : goal.returns-in-7
returns-in-7 c = c.lookup-in-7.ensures ∙ listed_at 7 c.args.word.now c.in-7.is

pub returns-in-8 : goal.returns-in-8
returns-in-8 c = c.lookup-in-8.ensures ∙ listed_at 8 c.args.word.now c.in-8.is

pub returns-in_default : goal.returns-in_default
returns-in_default c =
    listed_none c.args.word.now (omega arith) (omega arith) (omega arith) (omega arith) (omega arith) (omega arith)
    (omega arith)
