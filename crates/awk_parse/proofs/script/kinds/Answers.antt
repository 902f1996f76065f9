use Rattle.std.proofs.lemmas.Result.{err_from_is_err_and}
use Rattle.awk_text.specs.declared.place.Place.{Place}
use Rattle.awk_resolve.specs.Faults.{Misplaced, Misdefined}
use Rattle.awk_resolve.specs.Kinds.{Clashes, NotAfter}
use Rattle.awk_parse.specs.Flaws.{ArePlaced, AreDefined, memory, word, function, kind}
use Rattle.awk_parse.proofs.script.kinds.Goals as goal

pub returns-in-Some-clause-flawed : goal.returns-in-Some-clause-flawed
returns-in-Some-clause-flawed c =
    let stands : Misplaced c.args.parts.now c.in-Some.place = rw c.in-Some.is at c.misplaced.ensures.stands in
    word c.in-Some.place stands

pub returns-in_err-place-clause-flawed : goal.returns-in_err-place-clause-flawed
returns-in_err-place-clause-flawed c =
    let p = err_from_is_err_and c.from_residual.result c.from_residual.ensures.1 in rw (p.1, p.2) memory

pub returns-in-Some-2-clause-flawed : goal.returns-in-Some-2-clause-flawed
returns-in-Some-2-clause-flawed c =
    let placed : ArePlaced c.args.parts.now = rw c.in_default.is at c.misplaced.ensures.none in
    let stands : Misdefined c.args.parts.now c.in-Some-2.place = rw c.in-Some-2.is at c.in_ok-place.ensures.stands in
    function c.in-Some-2.place placed stands

pub returns-in_err-kinds-clause-flawed : goal.returns-in_err-kinds-clause-flawed
returns-in_err-kinds-clause-flawed c =
    let p = err_from_is_err_and c.from_residual-in_err-kinds.result c.from_residual-in_err-kinds.ensures.1 in
    rw (p.1, p.2) memory

pub returns-in-Err-clause-flawed : goal.returns-in-Err-clause-flawed
returns-in-Err-clause-flawed c =
    let placed : ArePlaced c.args.parts.now = rw c.in_default.is at c.misplaced.ensures.none in
    let defined : AreDefined c.args.parts.now = rw c.in_default-2.is at c.in_ok-place.ensures.none in
    let clash : Clashes c.args.parts.now c.in-Err.place = rw c.in-Err.is at c.in_ok-kinds.ensures.clash in
    let first : (other : Place) → Clashes c.args.parts.now other → NotAfter c.in-Err.place other =
    rw c.in-Err.is at c.in_ok-kinds.ensures.first in
    kind c.in-Err.place placed defined clash first
