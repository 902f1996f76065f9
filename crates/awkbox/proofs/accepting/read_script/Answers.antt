use Rattle.std.proofs.Common.{IfOk, IfErr, inl}
use Rattle.std.proofs.lemmas.Result.{err_from_is_err_and}
use Rattle.awk_parse.specs.Scripts.{IsSpelled, IsRefused}
use Rattle.awkbox.proofs.Spelling.{read, refused, spelled, told}
use Rattle.awkbox.proofs.accepting.read_script.Goals as goal

pub returns-in_err-tokens-clause-refused : goal.returns-in_err-tokens-clause-refused
returns-in_err-tokens-clause-refused c =
    let e = err_from_is_err_and c.from_residual.result c.from_residual.ensures.1 in
    rw (e.1, e.2) (inl c.in_err-tokens.ensures.refused)

pub returns-in_err-tokens-clause-told : goal.returns-in_err-tokens-clause-told
returns-in_err-tokens-clause-told c =
    let e = err_from_is_err_and c.from_residual.result c.from_residual.ensures.1 in
    rw (e.1, e.2) (λ ne. inl (c.in_err-tokens.ensures.refused ne))

pub returns-clause-ok : goal.returns-clause-ok
returns-clause-ok c =
    let is : IfOk c.parse.result (λ s. IsSpelled c.in_ok-tokens.tokens.items s) =
    rw c.as_slice.ensures.value at c.parse.ensures.spelled in
    read c.args.numbers c.args.script.now c.in_ok-tokens.tokens.items c.parse.result c.in_ok-tokens.ensures.read
    c.parse.ensures.profile is

pub returns-clause-spells : goal.returns-clause-spells
returns-clause-spells c =
    let is : IfOk c.parse.result (λ s. IsSpelled c.in_ok-tokens.tokens.items s) =
    rw c.as_slice.ensures.value at c.parse.ensures.spelled in
    spelled c.args.numbers c.args.script.now c.in_ok-tokens.tokens.items c.parse.result c.in_ok-tokens.ensures.read
    c.parse.ensures.profile is

pub returns-clause-refused : goal.returns-clause-refused
returns-clause-refused c =
    let why : IfErr c.parse.result (λ e. IsRefused c.in_ok-tokens.tokens.items e) =
    rw c.as_slice.ensures.value at c.parse.ensures.refused in
    refused c.args.numbers c.args.script.now c.in_ok-tokens.tokens.items c.parse.result c.in_ok-tokens.ensures.read why

pub returns-clause-told : goal.returns-clause-told
returns-clause-told c =
    let why : IfErr c.parse.result (λ e. IsRefused c.in_ok-tokens.tokens.items e) =
    rw c.as_slice.ensures.value at c.parse.ensures.refused in
    told c.args.numbers c.args.script.now c.in_ok-tokens.tokens.items c.parse.result c.in_ok-tokens.ensures.read why
