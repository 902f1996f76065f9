-- The laws that the functions of this crate state.
use Rattle.std.proofs.Common.{◌≡◌, List, [], map, Ok, Err, refl, sym, subst, ◌∙◌}
use Rattle.std.proofs.lemmas.List.{append-nil}
use Rattle.std.specs.List.{flat_map}
use Rattle.awk_tokens.specs.declared.token.Token.{Token}
use Rattle.awk_tokens.proofs.Restriction.{restricts}
use Rattle.awk_tree.specs.declared.fault.ParseError.{ParseError}
use Rattle.awk_tree.specs.Tree.{Entry}
use Rattle.awk_tree.specs.Terminals.{terminal_of}
use Rattle.awk_tree.specs.Expressions.{expression, expr}
use Rattle.awk_tree.specs.Statements.{simple, script}
use Rattle.awk_tree.specs.Canon.{bare_statement, end, canon_entry, canon_script, bare_entry}
use Rattle.awk_parse.specs.Laws.{ExpressionsAreSpelled, ExpressionsAreReadAgain, SimpleStatementsAreSpelled}
use Rattle.awk_parse.specs.Laws.{SimpleStatementsAreReadAgain, ScriptsAreWhole, ScriptsAreSpelled, ScriptsAreReadAgain}
use Rattle.awk_parse.specs.Laws.{ExpressionsAreRead, SimpleStatementsAreRead, ScriptsAreRead, ExpressionsHaveOneTree}
use Rattle.awk_parse.specs.Laws.{ScriptsHaveOneTree, ScriptsOfWholeAreRead}
use Rattle.awk_parse.specs.SpellsScripts.{SpellsScript}
use Rattle.awk_parse.proofs.Depths.{expression_again, at_depth}
use Rattle.awk_parse.proofs.EndLaws.{with_end}
use Rattle.awk_parse.proofs.Fitting.{none_refused}
use Rattle.awk_parse.proofs.PrintLaws.{simple_law}
use Rattle.awk_parse.proofs.ItemLaws.{script_law}
use Rattle.awk_parse.proofs.Law.{done_is}
use Rattle.awk_parse.proofs.ReadDepths.{expression_reads, reaches}
use Rattle.awk_parse.proofs.ReadSimple.{simple_reads}
use Rattle.awk_parse.proofs.ReadItems.{script_reads}

pub expressions_are_spelled : ExpressionsAreSpelled
expressions_are_spelled p ts x h = let q = expression_again p ts x h in q.0

pub expressions_are_read_again : ExpressionsAreReadAgain
expressions_are_read_again p ts x h = let q = expression_again p ts x h in q.1

pub simple_statements_are_spelled : SimpleStatementsAreSpelled
simple_statements_are_spelled ts r s h =
    let q = simple_law 0 200 (expr 200) (at_depth 0 200 refl) ts s r h in (q.used, q.parts, q.spelled)

pub simple_statements_are_read_again : SimpleStatementsAreReadAgain
unfolding terminal_of
simple_statements_are_read_again ts rest s h ended =
    let q = simple_law 0 200 (expr 200) (at_depth 0 200 refl) ts s rest h in
    subst (λ (m : List Token). simple 200 (expr 200) m ≡ Ok (bare_statement s, end))
    (sym (with_end 0 q.used s rest q.spelled)) (q.reads end ended)

pub scripts_are_whole : ScriptsAreWhole
scripts_are_whole ts rest items h = let q = script_law ts items rest h in let spelled = q.spelled in spelled.0

pub scripts_are_spelled : ScriptsAreSpelled
scripts_are_spelled ts items h =
    let q = script_law ts items [] h in
    let spelled = q.spelled in
    subst (λ (m : List Token). SpellsScript m items) (sym (q.parts ∙ append-nil q.used)) spelled.1

pub expressions_are_read : ExpressionsAreRead
expressions_are_read p ts x h =
    subst (λ (m : List Token). expression 200 (expr 200) p m ≡ Ok (x, [])) (append-nil ts)
    (expression_reads 0 200 (expr 200) (reaches 0 200 refl) p ts x [] h refl)

pub simple_statements_are_read : SimpleStatementsAreRead
simple_statements_are_read us rest s h ended = simple_reads 0 200 (expr 200) (reaches 0 200 refl) us s rest h ended

pub scripts_are_read : ScriptsAreRead
scripts_are_read ts items h = script_reads ts items h

pub scripts_are_read_again : ScriptsAreReadAgain
unfolding canon_script
scripts_are_read_again items (ts, h) =
    let q = script_law ts items [] (scripts_are_read ts items h) in
    subst (λ (m : List Token). script m ≡ Ok (map bare_entry items, [])) (append-nil (flat_map canon_entry items))
    (q.reads [] (refl, refl))

pub expressions_have_one_tree : ExpressionsHaveOneTree
expressions_have_one_tree p ts x y h k =
    (done_is x y [] [] (sym (expressions_are_read p ts x h) ∙ expressions_are_read p ts y k)).0

pub scripts_have_one_tree : ScriptsHaveOneTree
scripts_have_one_tree ts items others h k =
    (done_is items others [] [] (sym (scripts_are_read ts items h) ∙ scripts_are_read ts others k)).0

-- where the rules refuse, nothing is spelled
pub none_spelled : (ts : List Token) (e : ParseError) → script ts ≡ Err e → (items : List Entry) → SpellsScript ts items
    → ⊥
none_spelled ts e h items k = let read = scripts_are_read ts items k in absurd cc

pub scripts_of_whole_are_read : ScriptsOfWholeAreRead
scripts_of_whole_are_read text ts items h k = restricts text ts (none_refused ts items k) h
