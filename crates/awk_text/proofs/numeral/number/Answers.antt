use Rattle.awk_text.proofs.Readings.{number_reads}
use Rattle.awk_text.proofs.numeral.number.Goals as goal

pub returns-clause-reading : goal.returns-clause-reading
returns-clause-reading c = number_reads c.args.text.now
