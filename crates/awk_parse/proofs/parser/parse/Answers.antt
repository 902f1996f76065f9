use Rattle.std.proofs.Common.{◌≡◌, ◌≢◌, [], map, Ok, Err}
use Rattle.awk_tree.specs.declared.fault.ParseError.TheVariants as fault
use Rattle.awk_tree.specs.Statements as grammar
use Rattle.awk_tree.specs.View.{view_item}
use Rattle.awk_parse.proofs.Laws.{scripts_are_spelled}
use Rattle.awk_resolve.specs.Mentions.{part}
use Rattle.awk_parse.specs.Flaws.{Flawed}
use Rattle.awk_parse.specs.Scripts.{IsScriptOf, by_flaw}
use Rattle.awk_parse.proofs.Flawless.{refused}
use Rattle.awk_parse.proofs.Again.{same_tree, same_flaw, same_fault}
use Rattle.awk_parse.proofs.parser.parse.Goals as goal

pub returns-in-Err-clause-refused : goal.returns-in-Err-clause-refused
returns-in-Err-clause-refused c = rw c.refusal.ensures (refused c.args.tokens.now c.in-Err.fault c.in-Err.ensures)

pub returns-in-Err-clause-again : goal.returns-in-Err-clause-again
returns-in-Err-clause-again c =
    λ s is e.
    let h : c.in-Err.fault ≢ fault.Memory → grammar.script c.args.tokens.now ≡ Err c.in-Err.fault = c.in-Err.ensures in
    rw c.refusal.ensures (same_fault c.args.tokens.now is.0 s is.1.0 c.in-Err.fault is.1.1 is.1.2 e h)

pub returns-in-Err-of-clause-refused : goal.returns-in-Err-of-clause-refused
returns-in-Err-of-clause-refused c =
    let read : grammar.script c.args.tokens.now ≡ Ok (map view_item c.in-Ok.items, []) = c.in-Ok.ensures in
    let flawed : Flawed (map part (map view_item c.in-Ok.items)) c.in-Err-of.flaw = c.in-Err-of.ensures.flawed in
    rw c.refusal-in-Err-of.ensures (by_flaw (map view_item c.in-Ok.items) c.in-Err-of.flaw
    (scripts_are_spelled c.args.tokens.now (map view_item c.in-Ok.items) read) flawed)

pub returns-in-Err-of-clause-again : goal.returns-in-Err-of-clause-again
returns-in-Err-of-clause-again c =
    λ s is e.
    let read : grammar.script c.args.tokens.now ≡ Ok (map view_item c.in-Ok.items, []) = c.in-Ok.ensures in
    let flawed : Flawed (map part (map view_item c.in-Ok.items)) c.in-Err-of.flaw = c.in-Err-of.ensures.flawed in
    rw c.refusal-in-Err-of.ensures (same_flaw c.args.tokens.now is.0 s is.1.0 (map view_item c.in-Ok.items)
    c.in-Err-of.flaw is.1.1 is.1.2 e read flawed)

pub returns-in-Ok-of-clause-again : goal.returns-in-Ok-of-clause-again
returns-in-Ok-of-clause-again c =
    λ s is e.
    let read : grammar.script c.args.tokens.now ≡ Ok (map view_item c.in-Ok.items, []) = c.in-Ok.ensures in
    let of : IsScriptOf (map view_item c.in-Ok.items) c.in-Ok-of.script = c.in-Ok-of.ensures.script in
    same_tree c.args.tokens.now is.0 s c.in-Ok-of.script is.1.0 (map view_item c.in-Ok.items) is.1.1 is.1.2 e read of
