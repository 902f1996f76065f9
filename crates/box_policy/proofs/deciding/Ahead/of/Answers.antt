use Rattle.std.proofs.Common.{◌≡◌, ◌∙◌, true, false, None, Some, rules}
use Rattle.box_policy.specs.Files.{is_of_files}
use Rattle.box_policy.proofs.CoversLemmas.{none_rooted, none_under, none_left, first_under}
use Rattle.box_policy.proofs.deciding.Ahead.of.Goals as goal

pub returns-then-not-is_of_files-clause-rooted : goal.returns-then-not-is_of_files-clause-rooted
returns-then-not-is_of_files-clause-rooted c =
    let none : is_of_files c.args.target.kind ≡ false = search rules in
    λ book indexed. none_rooted c.args.target book none

pub returns-then-not-is_of_files-clause-under : goal.returns-then-not-is_of_files-clause-under
returns-then-not-is_of_files-clause-under c =
    let none : is_of_files c.args.target.kind ≡ false = search rules in
    λ book indexed. none_under c.args.target book none

pub returns-in-Some-clause-under : goal.returns-in-Some-clause-under
returns-in-Some-clause-under c =
    let files : is_of_files c.args.target.kind ≡ true = search rules in
    let some : c.args.target.left ≡ Some c.in-Some.left = search rules in
    λ book indexed. c.first_ahead-under.ensures book indexed ∙ first_under c.args.target book c.in-Some.left files some

pub returns-in-None-clause-under : goal.returns-in-None-clause-under
returns-in-None-clause-under c =
    let files : is_of_files c.args.target.kind ≡ true = search rules in
    let none : c.args.target.left ≡ None = search rules in
    λ book indexed. none_left c.args.target book files none
