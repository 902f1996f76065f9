use Rattle.std.proofs.Common.{arith}
use Rattle.box_advice.proofs.QuotesLemmas.{bytes_from}
use Rattle.box_advice.proofs.quotes.quotes.Goals as goal

pub returns-in-Ok-clause-bytes : goal.returns-in-Ok-clause-bytes
returns-in-Ok-clause-bytes c = bytes_from c.args.text.now (λ k. omega (arith, c.type_inv.text k))
