use Rattle.std.proofs.Common.{rules, ◌≡◌, ◌∙◌, ◌+◌, ◌<◌, ◌++◌, List, [], ◌∷◌, refl, sym, ap, arith, map, option_map}
use Rattle.std.proofs.Common.{append-nil, append_assoc}
use Rattle.awk_tree.specs.Tree.{trees_of, perhaps_of, terms_of, pipes_of}
use Rattle.awk_tree.specs.View.{view, view_term, view_piped}
use Rattle.awk_tree.proofs.Views.{view-Number, view-Quoted, view-Pattern, view-Name, view-Element, view-Field}
use Rattle.awk_tree.proofs.Views.{view-Paren, view-Call, view-Length, view-Builtin, view-Split, view-Substitute}
use Rattle.awk_tree.proofs.Views.{view-Getline, view-Before, view-After, view-Signed, view-Power, view-Product}
use Rattle.awk_tree.proofs.Views.{view-Sum, view-Concat, view-Pipe, view-Compare, view-Match, view-Group, view-In}
use Rattle.awk_tree.proofs.Views.{view-And, view-Or, view-Choice, view-Assign}
use Rattle.awk_canon.proofs.Weight.{weight, weights, weight_perhaps, weight_terms, weight_pipes, item_weight}
use Rattle.awk_canon.proofs.Weight.{term_weight, piped_weight}
use Rattle.awk_canon.proofs.Lists.{drop_here, and_is, or_is, list_from}
use Rattle.awk_canon.proofs.expressions.+expression.Goals as goal

pub expression-returns-in-Number : goal.expression-returns-in-Number
expression-returns-in-Number t c =
    rw (c.in-Number.is, view-Number) c.push_kept.ensures

pub expression-returns-in-Quoted : goal.expression-returns-in-Quoted
expression-returns-in-Quoted t c =
    rw (c.in-Quoted.is, view-Quoted) c.push_kept-in-Quoted.ensures

pub expression-returns-in-Pattern : goal.expression-returns-in-Pattern
expression-returns-in-Pattern t c =
    rw (c.in-Pattern.is, view-Pattern) c.push_kept-in-Pattern.ensures

pub expression-returns-in-Name : goal.expression-returns-in-Name
expression-returns-in-Name t c =
    rw (c.in-Name.is, view-Name) c.push_name.ensures

pub expression-enclosed-requires : goal.expression-enclosed-requires
expression-enclosed-requires t c =
    let smaller : 4 + weights (trees_of (map view c.as_slice.result.now)) < weight (view c.args.e.now) =
    rw (c.as_slice.ensures, c.in-Element.is, view-Element) (omega arith) in
    search rules

pub expression-returns-in_ok-push_name-in-Element : goal.expression-returns-in_ok-push_name-in-Element
expression-returns-in_ok-push_name-in-Element t c =
    let h = rw (c.as_slice.ensures, c.in_ok-push_name-in-Element.ensures, append_assoc) at c.enclosed.ensures in
    rw (c.in-Element.is, view-Element) h

pub expression-prefixed-requires : goal.expression-prefixed-requires
expression-prefixed-requires t c =
    let smaller : 1 + weight (view c.get.result.now) < weight (view c.args.e.now) =
    rw (c.get.ensures, c.in-Field.is, view-Field) (omega arith) in
    search rules

pub expression-returns-in-Field : goal.expression-returns-in-Field
expression-returns-in-Field t c =
    let h = rw (c.get.ensures) at c.prefixed.ensures in rw (c.in-Field.is, view-Field) h

pub expression-paren-requires : goal.expression-paren-requires
expression-paren-requires t c =
    let smaller : 2 + weight (view c.get-in-Paren.result.now) < weight (view c.args.e.now) =
    rw (c.get-in-Paren.ensures, c.in-Paren.is, view-Paren) (omega arith) in
    search rules

pub expression-returns-in-Paren : goal.expression-returns-in-Paren
expression-returns-in-Paren t c =
    let h = rw (c.get-in-Paren.ensures) at c.paren.ensures in rw (c.in-Paren.is, view-Paren) h

pub expression-enclosed-requires-in-Call : goal.expression-enclosed-requires-in-Call
expression-enclosed-requires-in-Call t c =
    let smaller : 4 + weights (trees_of (map view c.as_slice-in-Call.result.now)) < weight (view c.args.e.now) =
    rw (c.as_slice-in-Call.ensures, c.in-Call.is, view-Call) (omega arith) in
    search rules

pub expression-returns-in_ok-push_kept-in-Call : goal.expression-returns-in_ok-push_kept-in-Call
expression-returns-in_ok-push_kept-in-Call t c =
    let h = rw (c.as_slice-in-Call.ensures, c.in_ok-push_kept-in-Call.ensures, append_assoc) at
    c.enclosed-in-Call.ensures in
    rw (c.in-Call.is, view-Call) h

pub expression-returns-in-Length : goal.expression-returns-in-Length
expression-returns-in-Length t c =
    rw (c.in-Length.is, view-Length) c.push_builtin.ensures

pub expression-enclosed-requires-in-Builtin : goal.expression-enclosed-requires-in-Builtin
expression-enclosed-requires-in-Builtin t c =
    let smaller : 4 + weights (trees_of (map view c.as_slice-in-Builtin.result.now)) < weight (view c.args.e.now) =
    rw (c.as_slice-in-Builtin.ensures, c.in-Builtin.is, view-Builtin) (omega arith) in
    search rules

pub expression-returns-in_ok-push_builtin-in-Builtin : goal.expression-returns-in_ok-push_builtin-in-Builtin
expression-returns-in_ok-push_builtin-in-Builtin t c =
    let h = rw (c.as_slice-in-Builtin.ensures, c.in_ok-push_builtin-in-Builtin.ensures, append_assoc) at
    c.enclosed-in-Builtin.ensures in
    rw (c.in-Builtin.is, view-Builtin) h

pub expression-split-requires : goal.expression-split-requires
expression-split-requires t c =
    let smaller : 5 + (weight (view c.get-in-Split.result.now) + weight_perhaps
    (perhaps_of (option_map view c.in-Split.y))) < weight (view c.args.e.now) =
    rw (c.get-in-Split.ensures, c.in-Split.is, view-Split) (omega arith) in
    search rules

pub expression-returns-in-Split : goal.expression-returns-in-Split
expression-returns-in-Split t c =
    let h = rw (c.get-in-Split.ensures) at c.split.ensures in rw (c.in-Split.is, view-Split) h

pub expression-substitute-requires : goal.expression-substitute-requires
expression-substitute-requires t c =
    let smaller : 5 + (weight (view c.get-in-Substitute.result.now) + weight (view c.get-in-Substitute-2.result.now) +
    weight_perhaps (perhaps_of (option_map view c.in-Substitute.z))) < weight (view c.args.e.now) =
    rw (c.get-in-Substitute.ensures, c.get-in-Substitute-2.ensures, c.in-Substitute.is, view-Substitute)
    (omega arith) in
    search rules

pub expression-returns-in-Substitute : goal.expression-returns-in-Substitute
expression-returns-in-Substitute t c =
    let h = rw (c.get-in-Substitute.ensures, c.get-in-Substitute-2.ensures) at c.substitute.ensures in
    rw (c.in-Substitute.is, view-Substitute) h

pub expression-getline-requires : goal.expression-getline-requires
expression-getline-requires t c =
    let smaller : 5 + (weight_perhaps (perhaps_of (option_map view c.in-Getline.x)) + weight_perhaps
    (perhaps_of (option_map view c.in-Getline.y))) < weight (view c.args.e.now) = rw (c.in-Getline.is, view-Getline)
    (omega arith) in
    search rules

pub expression-returns-in-Getline : goal.expression-returns-in-Getline
expression-returns-in-Getline t c =
    rw (c.in-Getline.is, view-Getline) c.getline.ensures

pub expression-prefixed-requires-in-Before : goal.expression-prefixed-requires-in-Before
expression-prefixed-requires-in-Before t c =
    let smaller : 1 + weight (view c.get-in-Before.result.now) < weight (view c.args.e.now) =
    rw (c.get-in-Before.ensures, c.in-Before.is, view-Before) (omega arith) in
    search rules

pub expression-returns-in-Before : goal.expression-returns-in-Before
expression-returns-in-Before t c =
    let h = rw (c.step_text.ensures, c.get-in-Before.ensures) at c.prefixed-in-Before.ensures in
    rw (c.in-Before.is, view-Before) h

pub expression-suffixed-requires : goal.expression-suffixed-requires
expression-suffixed-requires t c =
    let smaller : 1 + weight (view c.get-in-After.result.now) < weight (view c.args.e.now) =
    rw (c.get-in-After.ensures, c.in-After.is, view-After) (omega arith) in
    search rules

pub expression-returns-in-After : goal.expression-returns-in-After
expression-returns-in-After t c =
    let h = rw (c.step_text-in-After.ensures, c.get-in-After.ensures) at c.suffixed.ensures in
    rw (c.in-After.is, view-After) h

pub expression-prefixed-requires-in-Signed : goal.expression-prefixed-requires-in-Signed
expression-prefixed-requires-in-Signed t c =
    let smaller : 1 + weight (view c.get-in-Signed.result.now) < weight (view c.args.e.now) =
    rw (c.get-in-Signed.ensures, c.in-Signed.is, view-Signed) (omega arith) in
    search rules

pub expression-returns-in-Signed : goal.expression-returns-in-Signed
expression-returns-in-Signed t c =
    let h = rw (c.sign_text.ensures, c.get-in-Signed.ensures) at c.prefixed-in-Signed.ensures in
    rw (c.in-Signed.is, view-Signed) h

pub expression-between-requires : goal.expression-between-requires
expression-between-requires t c =
    let smaller : 2 + (weight (view c.get-in-Power.result.now) + weight (view c.get-in-Power-2.result.now)) < weight
    (view c.args.e.now) = rw (c.get-in-Power.ensures, c.get-in-Power-2.ensures, c.in-Power.is, view-Power)
    (omega arith) in
    search rules

pub expression-returns-in-Power : goal.expression-returns-in-Power
expression-returns-in-Power t c =
    let h = rw (c.get-in-Power.ensures, c.get-in-Power-2.ensures) at c.between.ensures in
    rw (c.in-Power.is, view-Power) h

pub expression-chain-requires : goal.expression-chain-requires
expression-chain-requires t c =
    let smaller : 4 + (weight (view c.get-in-Product.result.now) + weight_terms
    (terms_of (map view_term c.as_slice-in-Product.result.now))) < weight (view c.args.e.now) =
    rw (c.get-in-Product.ensures, c.as_slice-in-Product.ensures, c.in-Product.is, view-Product) (omega arith) in
    search rules

pub expression-returns-in-Product : goal.expression-returns-in-Product
expression-returns-in-Product t c =
    let h = rw (c.get-in-Product.ensures, c.as_slice-in-Product.ensures) at c.chain.ensures in
    rw (c.in-Product.is, view-Product) h

pub expression-chain-requires-in-Sum : goal.expression-chain-requires-in-Sum
expression-chain-requires-in-Sum t c =
    let smaller : 4 + (weight (view c.get-in-Sum.result.now) + weight_terms
    (terms_of (map view_term c.as_slice-in-Sum.result.now))) < weight (view c.args.e.now) =
    rw (c.get-in-Sum.ensures, c.as_slice-in-Sum.ensures, c.in-Sum.is, view-Sum) (omega arith) in
    search rules

pub expression-returns-in-Sum : goal.expression-returns-in-Sum
expression-returns-in-Sum t c =
    let h = rw (c.get-in-Sum.ensures, c.as_slice-in-Sum.ensures) at c.chain-in-Sum.ensures in
    rw (c.in-Sum.is, view-Sum) h

pub expression-expression-requires : goal.expression-expression-requires
expression-expression-requires t c =
    let smaller : weight (view c.get-in-Concat.result.now) < weight (view c.args.e.now) =
    rw (c.get-in-Concat.ensures, c.in-Concat.is, view-Concat) (omega arith) in
    search rules

pub expression-parts-requires : goal.expression-parts-requires
expression-parts-requires t c =
    let smaller : 1 + weights (trees_of (map view c.as_slice-in-Concat.result.now)) < weight (view c.args.e.now) =
    rw (c.as_slice-in-Concat.ensures, c.in-Concat.is, view-Concat) (omega arith) in
    search rules

pub expression-returns-in_ok-expression-in-Concat : goal.expression-returns-in_ok-expression-in-Concat
expression-returns-in_ok-expression-in-Concat t c =
    let h = rw (
      c.as_slice-in-Concat.ensures,
      c.in_ok-expression-in-Concat.ensures,
      c.get-in-Concat.ensures,
      append_assoc,
    ) at c.parts.ensures in
    rw (c.in-Concat.is, view-Concat) h

pub expression-expression-requires-in-Pipe : goal.expression-expression-requires-in-Pipe
expression-expression-requires-in-Pipe t c =
    let smaller : weight (view c.get-in-Pipe.result.now) < weight (view c.args.e.now) =
    rw (c.get-in-Pipe.ensures, c.in-Pipe.is, view-Pipe) (omega arith) in
    search rules

pub expression-pipes-requires : goal.expression-pipes-requires
expression-pipes-requires t c =
    let smaller : 3 + weight_pipes (pipes_of (map view_piped c.as_slice-in-Pipe.result.now)) < weight
    (view c.args.e.now) = rw (c.as_slice-in-Pipe.ensures, c.in-Pipe.is, view-Pipe) (omega arith) in
    search rules

pub expression-returns-in_ok-expression-in-Pipe : goal.expression-returns-in_ok-expression-in-Pipe
expression-returns-in_ok-expression-in-Pipe t c =
    let h = rw (c.as_slice-in-Pipe.ensures, c.in_ok-expression-in-Pipe.ensures, c.get-in-Pipe.ensures, append_assoc) at
    c.pipes.ensures in
    rw (c.in-Pipe.is, view-Pipe) h

pub expression-between-requires-in-Compare : goal.expression-between-requires-in-Compare
expression-between-requires-in-Compare t c =
    let smaller : 2 + (weight (view c.get-in-Compare.result.now) + weight (view c.get-in-Compare-2.result.now)) < weight
    (view c.args.e.now) = rw (c.get-in-Compare.ensures, c.get-in-Compare-2.ensures, c.in-Compare.is, view-Compare)
    (omega arith) in
    search rules

pub expression-returns-in-Compare : goal.expression-returns-in-Compare
expression-returns-in-Compare t c =
    let h = rw (c.get-in-Compare.ensures, c.get-in-Compare-2.ensures, c.comparison_text.ensures) at
    c.between-in-Compare.ensures in
    rw (c.in-Compare.is, view-Compare) h

pub expression-between-requires-in-Match : goal.expression-between-requires-in-Match
expression-between-requires-in-Match t c =
    let smaller : 2 + (weight (view c.get-in-Match.result.now) + weight (view c.get-in-Match-2.result.now)) < weight
    (view c.args.e.now) = rw (c.get-in-Match.ensures, c.get-in-Match-2.ensures, c.in-Match.is, view-Match)
    (omega arith) in
    search rules

pub expression-returns-in-Match : goal.expression-returns-in-Match
expression-returns-in-Match t c =
    let h = rw (c.get-in-Match.ensures, c.get-in-Match-2.ensures, c.match_text.ensures) at c.between-in-Match.ensures in
    rw (c.in-Match.is, view-Match) h

pub expression-enclosed-requires-in-Group : goal.expression-enclosed-requires-in-Group
expression-enclosed-requires-in-Group t c =
    let smaller : 4 + weights (trees_of (map view c.as_slice-in-Group.result.now)) < weight (view c.args.e.now) =
    rw (c.as_slice-in-Group.ensures, c.in-Group.is, view-Group) (omega arith) in
    search rules

pub expression-returns-in_ok-enclosed-in-Group : goal.expression-returns-in_ok-enclosed-in-Group
expression-returns-in_ok-enclosed-in-Group t c =
    let h = rw (
      c.as_slice-in-Group-2.ensures,
      c.in_ok-enclosed-in-Group.ensures,
      c.as_slice-in-Group.ensures,
      append_assoc,
      append_assoc,
    ) at c.push_members.ensures in
    rw (c.in-Group.is, view-Group) h

pub expression-expression-requires-in-In : goal.expression-expression-requires-in-In
expression-expression-requires-in-In t c =
    let smaller : weight (view c.get-in-In.result.now) < weight (view c.args.e.now) =
    rw (c.get-in-In.ensures, c.in-In.is, view-In) (omega arith) in
    search rules

pub expression-returns-in_ok-expression-in-In : goal.expression-returns-in_ok-expression-in-In
expression-returns-in_ok-expression-in-In t c =
    let h = rw (c.as_slice-in-In.ensures, c.in_ok-expression-in-In.ensures, c.get-in-In.ensures, append_assoc) at
    c.push_members-in-In.ensures in
    rw (c.in-In.is, view-In) h

pub expression-expression-requires-in-And : goal.expression-expression-requires-in-And
expression-expression-requires-in-And t c =
    let smaller : weight (view c.get-in-And.result.now) < weight (view c.args.e.now) =
    rw (c.get-in-And.ensures, c.in-And.is, view-And) (omega arith) in
    search rules

pub expression-behind-requires : goal.expression-behind-requires
expression-behind-requires t c =
    let smaller : 2 + weights (trees_of (map view c.as_slice-in-And.result.now)) < weight (view c.args.e.now) =
    rw (c.as_slice-in-And.ensures, c.in-And.is, view-And) (omega arith) in
    search rules

pub expression-returns-in_ok-expression-in-And : goal.expression-returns-in_ok-expression-in-And
expression-returns-in_ok-expression-in-And t c =
    let h = rw (c.as_slice-in-And.ensures, c.in_ok-expression-in-And.ensures, c.get-in-And.ensures, append_assoc) at
    c.behind.ensures in
    rw (c.in-And.is, view-And, and_is) h

pub expression-expression-requires-in-Or : goal.expression-expression-requires-in-Or
expression-expression-requires-in-Or t c =
    let smaller : weight (view c.get-in-Or.result.now) < weight (view c.args.e.now) =
    rw (c.get-in-Or.ensures, c.in-Or.is, view-Or) (omega arith) in
    search rules

pub expression-behind-requires-in-Or : goal.expression-behind-requires-in-Or
expression-behind-requires-in-Or t c =
    let smaller : 2 + weights (trees_of (map view c.as_slice-in-Or.result.now)) < weight (view c.args.e.now) =
    rw (c.as_slice-in-Or.ensures, c.in-Or.is, view-Or) (omega arith) in
    search rules

pub expression-returns-in_ok-expression-in-Or : goal.expression-returns-in_ok-expression-in-Or
expression-returns-in_ok-expression-in-Or t c =
    let h = rw (c.as_slice-in-Or.ensures, c.in_ok-expression-in-Or.ensures, c.get-in-Or.ensures, append_assoc) at
    c.behind-in-Or.ensures in
    rw (c.in-Or.is, view-Or, or_is) h

pub expression-choice-requires : goal.expression-choice-requires
expression-choice-requires t c =
    let smaller : 4 + (weight (view c.get-in-Choice.result.now) + weight (view c.get-in-Choice-2.result.now) + weight
    (view c.get-in-Choice-3.result.now)) < weight (view c.args.e.now) =
    rw (c.get-in-Choice.ensures, c.get-in-Choice-2.ensures, c.get-in-Choice-3.ensures, c.in-Choice.is, view-Choice)
    (omega arith) in
    search rules

pub expression-returns-in-Choice : goal.expression-returns-in-Choice
expression-returns-in-Choice t c =
    let h = rw (c.get-in-Choice.ensures, c.get-in-Choice-2.ensures, c.get-in-Choice-3.ensures) at c.choice.ensures in
    rw (c.in-Choice.is, view-Choice) h

pub expression-between-requires-in-Assign : goal.expression-between-requires-in-Assign
expression-between-requires-in-Assign t c =
    let smaller : 2 + (weight (view c.get-in-Assign.result.now) + weight (view c.get-in-Assign-2.result.now)) < weight
    (view c.args.e.now) = rw (c.get-in-Assign.ensures, c.get-in-Assign-2.ensures, c.in-Assign.is, view-Assign)
    (omega arith) in
    search rules

pub expression-returns-in-Assign : goal.expression-returns-in-Assign
expression-returns-in-Assign t c =
    let h = rw (c.get-in-Assign.ensures, c.get-in-Assign-2.ensures, c.assignment_text.ensures) at
    c.between-in-Assign.ensures in
    rw (c.in-Assign.is, view-Assign) h

pub behind-prefixed-requires : goal.behind-prefixed-requires
behind-prefixed-requires t c =
    let smaller : 1 + weight (view c.x-item.result) < 2 + weights (trees_of (map view c.args.xs.now)) =
    rw c.x-item.is (omega (arith, item_weight c.args.xs.now c.loop-x.x-index c.x-item.result (omega arith))) in
    search rules

pub behind-loop-x-preserved : goal.behind-loop-x-preserved
behind-loop-x-preserved t c =
    let here = drop_here c.args.xs.now c.loop-x.x-index c.x-item.result (omega arith) c.x-item.is in
    rw (c.in_ok-prefixed.ensures, append_assoc, c.loop-x.invariant, here) refl

pub parts-expression-requires : goal.parts-expression-requires
parts-expression-requires t c =
    let smaller : weight (view c.x-item.result) < 1 + weights (trees_of (map view c.args.xs.now)) =
    rw c.x-item.is (omega (arith, item_weight c.args.xs.now c.loop-x.x-index c.x-item.result (omega arith))) in
    search rules

pub parts-loop-x-preserved : goal.parts-loop-x-preserved
parts-loop-x-preserved t c =
    let here = drop_here c.args.xs.now c.loop-x.x-index c.x-item.result (omega arith) c.x-item.is in
    rw (c.in_ok-expression.ensures, append_assoc, c.loop-x.invariant, here) refl

pub terms-term-requires : goal.terms-term-requires
terms-term-requires t c =
    let smaller : 2 + weight (view c.x-item.result.operand) < 3 + weight_terms (terms_of (map view_term c.args.ts.now))
    = rw c.x-item.is (omega (arith, term_weight c.args.ts.now c.loop-x.x-index c.x-item.result (omega arith))) in
    search rules

pub terms-loop-x-preserved : goal.terms-loop-x-preserved
terms-loop-x-preserved t c =
    let here = drop_here c.args.ts.now c.loop-x.x-index c.x-item.result (omega arith) c.x-item.is in
    rw (c.in_ok-term.ensures, append_assoc, c.loop-x.invariant, here) refl

pub pipes-piped-requires : goal.pipes-piped-requires
pipes-piped-requires t c =
    let smaller : 2 + weight_perhaps (perhaps_of (option_map view c.x-item.result.target)) < 3 + weight_pipes
    (pipes_of (map view_piped c.args.ps.now)) =
    rw c.x-item.is (omega (arith, piped_weight c.args.ps.now c.loop-x.x-index c.x-item.result (omega arith))) in
    search rules

pub pipes-loop-x-preserved : goal.pipes-loop-x-preserved
pipes-loop-x-preserved t c =
    let here = drop_here c.args.ps.now c.loop-x.x-index c.x-item.result (omega arith) c.x-item.is in
    rw (c.in_ok-piped.ensures, append_assoc, c.loop-x.invariant, here) refl

pub list-returns-in_ok-expression-in-len1-up : goal.list-returns-in_ok-expression-in-len1-up
list-returns-in_ok-expression-in-len1-up t c =
    let h = rw (c.in_ok-expression-in-len1-up.ensures, append_assoc) at c.behind.ensures in
    rw (list_from c.args.xs.now c.first-item.result c.in-len1-up.len_at_least c.first-item.is) h
