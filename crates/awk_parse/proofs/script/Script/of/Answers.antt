use Rattle.std.proofs.lemmas.Result.{err_from_is_err_and}
use Rattle.awk_parse.specs.Flaws.{memory}
use Rattle.awk_parse.proofs.script.Script.of.Goals as goal

pub returns-in_err-parts-clause-flawed : goal.returns-in_err-parts-clause-flawed
returns-in_err-parts-clause-flawed c =
    let p = err_from_is_err_and c.from_residual.result c.from_residual.ensures.1 in rw (p.1, p.2) memory
