use Rattle.std.proofs.lemmas.Result.{err_from_is_err_and}
use Rattle.awk_parse.specs.Flaws.{memory}
use Rattle.awk_parse.proofs.Making.{made}
use Rattle.awk_parse.proofs.script.Script.of_parts.Goals as goal

pub returns-in_err-program-clause-flawed : goal.returns-in_err-program-clause-flawed
returns-in_err-program-clause-flawed c =
    let p = err_from_is_err_and c.from_residual-in_err-program.result c.from_residual-in_err-program.ensures.1 in
    rw (p.1, p.2) memory

pub returns-clause-script : goal.returns-clause-script
returns-clause-script c =
    let program = rw c.as_slice.ensures at c.in_ok-program.ensures.program in
    made c.args.items c.args.parts.now _ c.requires
    c.in_ok-kinds.ensures.faultless c.in_ok-kinds.ensures.kinds c.new.ensures program c.in_ok-program.ensures.sound
    c.names_environ.ensures c.reads_main.ensures
