use Rattle.std.proofs.Common.{◌≡◌, ◌<◌, Some, length, arith}
use Rattle.std.proofs.lemmas.Bool.Decides.{nat_tests}
use Rattle.std.proofs.lemmas.Option.{slice_get-get_or}
use Rattle.std.specs.List.{slice_get}
use Rattle.awk_ere.proofs.Gathering.{gained_nowhere, gained_there}
use Rattle.awk_ere.proofs.closure.push_target.Goals as goal

pub returns-in-None-target : goal.returns-in-None-target
returns-in-None-target c =
    let within : c.args.at < length c.args.program.now = grind (arith, nat_tests, c.in-Some.ensures.lookup.0) in
    let at : slice_get c.args.program.now c.args.at ≡ Some c.in-Some.step.now =
    rw c.in-Some.ensures.lookup.1 (slice_get-get_or _ _ _ within) in
    gained_nowhere _ _ _ _ c.in-Some.step.now _ at (cc (c.target.ensures, c.in-None-target.is))

pub returns-in_ok-push-in-Some-target : goal.returns-in_ok-push-in-Some-target
returns-in_ok-push-in-Some-target c =
    let within : c.args.at < length c.args.program.now = grind (arith, nat_tests, c.in-Some.ensures.lookup.0) in
    let at : slice_get c.args.program.now c.args.at ≡ Some c.in-Some.step.now =
    rw c.in-Some.ensures.lookup.1 (slice_get-get_or _ _ _ within) in
    gained_there _ _ _ _ c.in-Some.step.now c.in-Some-target.to _ _ at (cc (c.target.ensures, c.in-Some-target.is))
    c.in_ok-push-in-Some-target.ensures.items
