use Rattle.std.proofs.Common.{rules, ◌+◌, ◌*◌, ◌<◌, refl, arith, map, option_map, append-nil, append_assoc}
use Rattle.awk_tree.specs.Tree.{trees_of, perhaps_of, terms_of, pipes_of}
use Rattle.awk_tree.specs.View.{view, view_term, view_piped}
use Rattle.awk_tree.proofs.Views.{view-Number, view-Quoted, view-Pattern, view-Length, view-Name, view-Element}
use Rattle.awk_tree.proofs.Views.{view-Field, view-Paren, view-Call, view-Builtin, view-Split, view-Substitute}
use Rattle.awk_tree.proofs.Views.{view-Getline, view-Before, view-After, view-Signed, view-Power, view-Product}
use Rattle.awk_tree.proofs.Views.{view-Sum, view-Concat, view-Pipe, view-Compare, view-Match, view-Group, view-In}
use Rattle.awk_tree.proofs.Views.{view-And, view-Or, view-Choice, view-Assign}
use Rattle.awk_resolve.proofs.Weight.{weight, weights, weight_perhaps, weight_terms, weight_pipes, item_weight}
use Rattle.awk_resolve.proofs.Weight.{term_weight, piped_weight}
use Rattle.awk_resolve.proofs.Lists.{drop_here}
use Rattle.awk_resolve.proofs.expressions.+expression.Goals as goal

pub expression-returns-in-Number : goal.expression-returns-in-Number
expression-returns-in-Number t c =
    rw (c.in-Number.is, view-Number, append-nil) refl

pub expression-returns-in-Quoted : goal.expression-returns-in-Quoted
expression-returns-in-Quoted t c =
    rw (c.in-Quoted.is, view-Quoted, append-nil) refl

pub expression-returns-in-Pattern : goal.expression-returns-in-Pattern
expression-returns-in-Pattern t c =
    rw (c.in-Pattern.is, view-Pattern, append-nil) refl

pub expression-returns-in-Length : goal.expression-returns-in-Length
expression-returns-in-Length t c =
    rw (c.in-Length.is, view-Length, append-nil) refl

pub expression-returns-in-Name : goal.expression-returns-in-Name
expression-returns-in-Name t c =
    rw (c.in-Name.is, view-Name) c.scalar.ensures

pub expression-each-requires : goal.expression-each-requires
expression-each-requires t c =
    let smaller : 2 + 2 * weights (trees_of (map view c.as_slice.result.now)) < 2 * weight (view c.args.e.now) =
    rw (c.as_slice.ensures, c.in-Element.is, view-Element) (omega arith) in
    search rules

pub expression-returns-in_ok-array-in-Element : goal.expression-returns-in_ok-array-in-Element
expression-returns-in_ok-array-in-Element t c =
    let h = rw (c.as_slice.ensures, c.in_ok-array-in-Element.ensures, append_assoc) at c.each.ensures in
    rw (c.in-Element.is, view-Element) h

pub expression-expression-requires : goal.expression-expression-requires
expression-expression-requires t c =
    let smaller : 2 * weight (view c.get.result.now) < 2 * weight (view c.args.e.now) =
    rw (c.get.ensures, c.in-Field.is, view-Field) (omega arith) in
    search rules

pub expression-returns-in-Field : goal.expression-returns-in-Field
expression-returns-in-Field t c =
    let h = rw (c.get.ensures) at c.expression.ensures in rw (c.in-Field.is, view-Field) h

pub expression-expression-requires-in-Paren : goal.expression-expression-requires-in-Paren
expression-expression-requires-in-Paren t c =
    let smaller : 2 * weight (view c.get-in-Paren.result.now) < 2 * weight (view c.args.e.now) =
    rw (c.get-in-Paren.ensures, c.in-Paren.is, view-Paren) (omega arith) in
    search rules

pub expression-returns-in-Paren : goal.expression-returns-in-Paren
expression-returns-in-Paren t c =
    let h = rw (c.get-in-Paren.ensures) at c.expression-in-Paren.ensures in rw (c.in-Paren.is, view-Paren) h

pub expression-arguments-requires : goal.expression-arguments-requires
expression-arguments-requires t c =
    let smaller : 2 + 2 * weights (trees_of (map view c.as_slice-in-Call-2.result.now)) < 2 * weight (view c.args.e.now)
    = rw (c.as_slice-in-Call-2.ensures, c.in-Call.is, view-Call) (omega arith) in
    search rules

pub expression-returns-in_ok-call-in-Call : goal.expression-returns-in_ok-call-in-Call
expression-returns-in_ok-call-in-Call t c =
    let h = rw (c.as_slice-in-Call-2.ensures, c.in_ok-call-in-Call.ensures, c.as_slice-in-Call.ensures, append_assoc) at
    c.arguments.ensures in
    rw (c.in-Call.is, view-Call) h

pub expression-builtin-requires : goal.expression-builtin-requires
expression-builtin-requires t c =
    let smaller : 3 + 2 * weights (trees_of (map view c.as_slice-in-Builtin.result.now)) < 2 * weight
    (view c.args.e.now) = rw (c.as_slice-in-Builtin.ensures, c.in-Builtin.is, view-Builtin) (omega arith) in
    search rules

pub expression-returns-in-Builtin : goal.expression-returns-in-Builtin
expression-returns-in-Builtin t c =
    let h = rw (c.as_slice-in-Builtin.ensures) at c.builtin.ensures in rw (c.in-Builtin.is, view-Builtin) h

pub builtin-returns-in-Some : goal.builtin-returns-in-Some
builtin-returns-in-Some t c = rw (← c.in-Some.ensures) c.length.ensures

pub builtin-returns-in-None : goal.builtin-returns-in-None
builtin-returns-in-None t c = rw (← c.in-None.ensures) c.each.ensures

pub expression-expression-requires-in-Split : goal.expression-expression-requires-in-Split
expression-expression-requires-in-Split t c =
    let smaller : 2 * weight (view c.get-in-Split.result.now) < 2 * weight (view c.args.e.now) =
    rw (c.get-in-Split.ensures, c.in-Split.is, view-Split) (omega arith) in
    search rules

pub expression-perhaps-requires : goal.expression-perhaps-requires
expression-perhaps-requires t c =
    let smaller : 1 + 2 * weight_perhaps (perhaps_of (option_map view c.in-Split.separator)) < 2 * weight
    (view c.args.e.now) = rw (c.in-Split.is, view-Split) (omega arith) in
    search rules

pub expression-returns-in_ok-array-in-Split : goal.expression-returns-in_ok-array-in-Split
expression-returns-in_ok-array-in-Split t c =
    let h = rw (
      c.in_ok-array-in-Split.ensures,
      c.in_ok-expression-in-Split.ensures,
      c.get-in-Split.ensures,
      append_assoc,
      append_assoc,
    ) at c.perhaps.ensures in
    rw (c.in-Split.is, view-Split) h

pub expression-expression-requires-in-Substitute : goal.expression-expression-requires-in-Substitute
expression-expression-requires-in-Substitute t c =
    let smaller : 2 * weight (view c.get-in-Substitute.result.now) < 2 * weight (view c.args.e.now) =
    rw (c.get-in-Substitute.ensures, c.in-Substitute.is, view-Substitute) (omega arith) in
    search rules

pub expression-expression-requires-in-Substitute-2 : goal.expression-expression-requires-in-Substitute-2
expression-expression-requires-in-Substitute-2 t c =
    let smaller : 2 * weight (view c.get-in-Substitute-2.result.now) < 2 * weight (view c.args.e.now) =
    rw (c.get-in-Substitute-2.ensures, c.in-Substitute.is, view-Substitute) (omega arith) in
    search rules

pub expression-perhaps-requires-in-Substitute : goal.expression-perhaps-requires-in-Substitute
expression-perhaps-requires-in-Substitute t c =
    let smaller : 1 + 2 * weight_perhaps (perhaps_of (option_map view c.in-Substitute.lvalue)) < 2 * weight
    (view c.args.e.now) = rw (c.in-Substitute.is, view-Substitute) (omega arith) in
    search rules

pub expression-returns-in_ok-expression-in-Substitute-2 : goal.expression-returns-in_ok-expression-in-Substitute-2
expression-returns-in_ok-expression-in-Substitute-2 t c =
    let h = rw (
      c.in_ok-expression-in-Substitute-2.ensures,
      c.get-in-Substitute-2.ensures,
      c.in_ok-expression-in-Substitute.ensures,
      c.get-in-Substitute.ensures,
      append_assoc,
      append_assoc,
    ) at
    c.perhaps-in-Substitute.ensures in
    rw (c.in-Substitute.is, view-Substitute) h

pub expression-perhaps-requires-in-Getline : goal.expression-perhaps-requires-in-Getline
expression-perhaps-requires-in-Getline t c =
    let smaller : 1 + 2 * weight_perhaps (perhaps_of (option_map view c.in-Getline.lvalue)) < 2 * weight
    (view c.args.e.now) = rw (c.in-Getline.is, view-Getline) (omega arith) in
    search rules

pub expression-perhaps-requires-in-Getline-2 : goal.expression-perhaps-requires-in-Getline-2
expression-perhaps-requires-in-Getline-2 t c =
    let smaller : 1 + 2 * weight_perhaps (perhaps_of (option_map view c.in-Getline.file)) < 2 * weight
    (view c.args.e.now) = rw (c.in-Getline.is, view-Getline) (omega arith) in
    search rules

pub expression-returns-in_ok-perhaps-in-Getline : goal.expression-returns-in_ok-perhaps-in-Getline
expression-returns-in_ok-perhaps-in-Getline t c =
    let h = rw (c.in_ok-perhaps-in-Getline.ensures, c.in_ok-source-in-Getline.ensures, append_assoc, append_assoc) at
    c.perhaps-in-Getline-2.ensures in
    rw (c.in-Getline.is, view-Getline) h

pub expression-expression-requires-in-Before : goal.expression-expression-requires-in-Before
expression-expression-requires-in-Before t c =
    let smaller : 2 * weight (view c.get-in-Before.result.now) < 2 * weight (view c.args.e.now) =
    rw (c.get-in-Before.ensures, c.in-Before.is, view-Before) (omega arith) in
    search rules

pub expression-returns-in-Before : goal.expression-returns-in-Before
expression-returns-in-Before t c =
    let h = rw (c.get-in-Before.ensures) at c.expression-in-Before.ensures in rw (c.in-Before.is, view-Before) h

pub expression-expression-requires-in-After : goal.expression-expression-requires-in-After
expression-expression-requires-in-After t c =
    let smaller : 2 * weight (view c.get-in-After.result.now) < 2 * weight (view c.args.e.now) =
    rw (c.get-in-After.ensures, c.in-After.is, view-After) (omega arith) in
    search rules

pub expression-returns-in-After : goal.expression-returns-in-After
expression-returns-in-After t c =
    let h = rw (c.get-in-After.ensures) at c.expression-in-After.ensures in rw (c.in-After.is, view-After) h

pub expression-expression-requires-in-Signed : goal.expression-expression-requires-in-Signed
expression-expression-requires-in-Signed t c =
    let smaller : 2 * weight (view c.get-in-Signed.result.now) < 2 * weight (view c.args.e.now) =
    rw (c.get-in-Signed.ensures, c.in-Signed.is, view-Signed) (omega arith) in
    search rules

pub expression-returns-in-Signed : goal.expression-returns-in-Signed
expression-returns-in-Signed t c =
    let h = rw (c.get-in-Signed.ensures) at c.expression-in-Signed.ensures in rw (c.in-Signed.is, view-Signed) h

pub expression-two-requires : goal.expression-two-requires
expression-two-requires t c =
    let smaller : 1 + 2 * (weight (view c.get-in-Power.result.now) + weight (view c.get-in-Power-2.result.now)) < 2 *
    weight (view c.args.e.now) = rw (c.get-in-Power.ensures, c.get-in-Power-2.ensures, c.in-Power.is, view-Power)
    (omega arith) in
    search rules

pub expression-returns-in-Power : goal.expression-returns-in-Power
expression-returns-in-Power t c =
    let h = rw (c.get-in-Power.ensures, c.get-in-Power-2.ensures) at c.two.ensures in rw (c.in-Power.is, view-Power) h

pub expression-expression-requires-in-Product : goal.expression-expression-requires-in-Product
expression-expression-requires-in-Product t c =
    let smaller : 2 * weight (view c.get-in-Product.result.now) < 2 * weight (view c.args.e.now) =
    rw (c.get-in-Product.ensures, c.in-Product.is, view-Product) (omega arith) in
    search rules

pub expression-terms-requires : goal.expression-terms-requires
expression-terms-requires t c =
    let smaller : 2 + 2 * weight_terms (terms_of (map view_term c.as_slice-in-Product.result.now)) < 2 * weight
    (view c.args.e.now) = rw (c.as_slice-in-Product.ensures, c.in-Product.is, view-Product) (omega arith) in
    search rules

pub expression-returns-in_ok-expression-in-Product : goal.expression-returns-in_ok-expression-in-Product
expression-returns-in_ok-expression-in-Product t c =
    let h = rw (
      c.as_slice-in-Product.ensures,
      c.in_ok-expression-in-Product.ensures,
      c.get-in-Product.ensures,
      append_assoc,
    ) at c.terms.ensures in
    rw (c.in-Product.is, view-Product) h

pub expression-expression-requires-in-Sum : goal.expression-expression-requires-in-Sum
expression-expression-requires-in-Sum t c =
    let smaller : 2 * weight (view c.get-in-Sum.result.now) < 2 * weight (view c.args.e.now) =
    rw (c.get-in-Sum.ensures, c.in-Sum.is, view-Sum) (omega arith) in
    search rules

pub expression-terms-requires-in-Sum : goal.expression-terms-requires-in-Sum
expression-terms-requires-in-Sum t c =
    let smaller : 2 + 2 * weight_terms (terms_of (map view_term c.as_slice-in-Sum.result.now)) < 2 * weight
    (view c.args.e.now) = rw (c.as_slice-in-Sum.ensures, c.in-Sum.is, view-Sum) (omega arith) in
    search rules

pub expression-returns-in_ok-expression-in-Sum : goal.expression-returns-in_ok-expression-in-Sum
expression-returns-in_ok-expression-in-Sum t c =
    let h = rw (c.as_slice-in-Sum.ensures, c.in_ok-expression-in-Sum.ensures, c.get-in-Sum.ensures, append_assoc) at
    c.terms-in-Sum.ensures in
    rw (c.in-Sum.is, view-Sum) h

pub expression-first_and_each-requires : goal.expression-first_and_each-requires
expression-first_and_each-requires t c =
    let smaller : 3 + 2 * (weight (view c.get-in-Concat.result.now) + weights
    (trees_of (map view c.as_slice-in-Concat.result.now))) < 2 * weight (view c.args.e.now) =
    rw (c.get-in-Concat.ensures, c.as_slice-in-Concat.ensures, c.in-Concat.is, view-Concat) (omega arith) in
    search rules

pub expression-returns-in-Concat : goal.expression-returns-in-Concat
expression-returns-in-Concat t c =
    let h = rw (c.get-in-Concat.ensures, c.as_slice-in-Concat.ensures) at c.first_and_each.ensures in
    rw (c.in-Concat.is, view-Concat) h

pub expression-expression-requires-in-Pipe : goal.expression-expression-requires-in-Pipe
expression-expression-requires-in-Pipe t c =
    let smaller : 2 * weight (view c.get-in-Pipe.result.now) < 2 * weight (view c.args.e.now) =
    rw (c.get-in-Pipe.ensures, c.in-Pipe.is, view-Pipe) (omega arith) in
    search rules

pub expression-pipes-requires : goal.expression-pipes-requires
expression-pipes-requires t c =
    let smaller : 2 + 2 * weight_pipes (pipes_of (map view_piped c.as_slice-in-Pipe.result.now)) < 2 * weight
    (view c.args.e.now) = rw (c.as_slice-in-Pipe.ensures, c.in-Pipe.is, view-Pipe) (omega arith) in
    search rules

pub expression-returns-in_ok-expression-in-Pipe : goal.expression-returns-in_ok-expression-in-Pipe
expression-returns-in_ok-expression-in-Pipe t c =
    let h = rw (c.as_slice-in-Pipe.ensures, c.in_ok-expression-in-Pipe.ensures, c.get-in-Pipe.ensures, append_assoc) at
    c.pipes.ensures in
    rw (c.in-Pipe.is, view-Pipe) h

pub expression-two-requires-in-Compare : goal.expression-two-requires-in-Compare
expression-two-requires-in-Compare t c =
    let smaller : 1 + 2 * (weight (view c.get-in-Compare.result.now) + weight (view c.get-in-Compare-2.result.now)) < 2
    * weight (view c.args.e.now) = rw (
      c.get-in-Compare.ensures,
      c.get-in-Compare-2.ensures,
      c.in-Compare.is,
      view-Compare,
    ) (omega arith) in
    search rules

pub expression-returns-in-Compare : goal.expression-returns-in-Compare
expression-returns-in-Compare t c =
    let h = rw (c.get-in-Compare.ensures, c.get-in-Compare-2.ensures) at c.two-in-Compare.ensures in
    rw (c.in-Compare.is, view-Compare) h

pub expression-two-requires-in-Match : goal.expression-two-requires-in-Match
expression-two-requires-in-Match t c =
    let smaller : 1 + 2 * (weight (view c.get-in-Match.result.now) + weight (view c.get-in-Match-2.result.now)) < 2 *
    weight (view c.args.e.now) = rw (c.get-in-Match.ensures, c.get-in-Match-2.ensures, c.in-Match.is, view-Match)
    (omega arith) in
    search rules

pub expression-returns-in-Match : goal.expression-returns-in-Match
expression-returns-in-Match t c =
    let h = rw (c.get-in-Match.ensures, c.get-in-Match-2.ensures) at c.two-in-Match.ensures in
    rw (c.in-Match.is, view-Match) h

pub expression-each-requires-in-Group : goal.expression-each-requires-in-Group
expression-each-requires-in-Group t c =
    let smaller : 2 + 2 * weights (trees_of (map view c.as_slice-in-Group.result.now)) < 2 * weight (view c.args.e.now)
    = rw (c.as_slice-in-Group.ensures, c.in-Group.is, view-Group) (omega arith) in
    search rules

pub expression-returns-in_ok-each-in-Group : goal.expression-returns-in_ok-each-in-Group
expression-returns-in_ok-each-in-Group t c =
    let h = rw (c.as_slice-in-Group-2.ensures, c.in_ok-each-in-Group.ensures, c.as_slice-in-Group.ensures, append_assoc)
    at c.members.ensures in
    rw (c.in-Group.is, view-Group) h

pub expression-expression-requires-in-In : goal.expression-expression-requires-in-In
expression-expression-requires-in-In t c =
    let smaller : 2 * weight (view c.get-in-In.result.now) < 2 * weight (view c.args.e.now) =
    rw (c.get-in-In.ensures, c.in-In.is, view-In) (omega arith) in
    search rules

pub expression-returns-in_ok-expression-in-In : goal.expression-returns-in_ok-expression-in-In
expression-returns-in_ok-expression-in-In t c =
    let h = rw (c.as_slice-in-In.ensures, c.in_ok-expression-in-In.ensures, c.get-in-In.ensures, append_assoc) at
    c.members-in-In.ensures in
    rw (c.in-In.is, view-In) h

pub expression-first_and_each-requires-in-And : goal.expression-first_and_each-requires-in-And
expression-first_and_each-requires-in-And t c =
    let smaller : 3 + 2 * (weight (view c.get-in-And.result.now) + weights
    (trees_of (map view c.as_slice-in-And.result.now))) < 2 * weight (view c.args.e.now) =
    rw (c.get-in-And.ensures, c.as_slice-in-And.ensures, c.in-And.is, view-And) (omega arith) in
    search rules

pub expression-returns-in-And : goal.expression-returns-in-And
expression-returns-in-And t c =
    let h = rw (c.get-in-And.ensures, c.as_slice-in-And.ensures) at c.first_and_each-in-And.ensures in
    rw (c.in-And.is, view-And) h

pub expression-first_and_each-requires-in-Or : goal.expression-first_and_each-requires-in-Or
expression-first_and_each-requires-in-Or t c =
    let smaller : 3 + 2 * (weight (view c.get-in-Or.result.now) + weights
    (trees_of (map view c.as_slice-in-Or.result.now))) < 2 * weight (view c.args.e.now) =
    rw (c.get-in-Or.ensures, c.as_slice-in-Or.ensures, c.in-Or.is, view-Or) (omega arith) in
    search rules

pub expression-returns-in-Or : goal.expression-returns-in-Or
expression-returns-in-Or t c =
    let h = rw (c.get-in-Or.ensures, c.as_slice-in-Or.ensures) at c.first_and_each-in-Or.ensures in
    rw (c.in-Or.is, view-Or) h

pub expression-two-requires-in-Choice : goal.expression-two-requires-in-Choice
expression-two-requires-in-Choice t c =
    let smaller : 1 + 2 * (weight (view c.get-in-Choice.result.now) + weight (view c.get-in-Choice-2.result.now)) < 2 *
    weight (view c.args.e.now) = rw (
      c.get-in-Choice.ensures,
      c.get-in-Choice-2.ensures,
      c.in-Choice.is,
      view-Choice,
    ) (omega arith) in
    search rules

pub expression-expression-requires-in-Choice : goal.expression-expression-requires-in-Choice
expression-expression-requires-in-Choice t c =
    let smaller : 2 * weight (view c.get-in-Choice-3.result.now) < 2 * weight (view c.args.e.now) =
    rw (c.get-in-Choice-3.ensures, c.in-Choice.is, view-Choice) (omega arith) in
    search rules

pub expression-returns-in_ok-two-in-Choice : goal.expression-returns-in_ok-two-in-Choice
expression-returns-in_ok-two-in-Choice t c =
    let h = rw (
      c.get-in-Choice-3.ensures,
      c.in_ok-two-in-Choice.ensures,
      c.get-in-Choice.ensures,
      c.get-in-Choice-2.ensures,
      append_assoc,
      append_assoc,
    ) at c.expression-in-Choice.ensures in
    rw (c.in-Choice.is, view-Choice) h

pub expression-two-requires-in-Assign : goal.expression-two-requires-in-Assign
expression-two-requires-in-Assign t c =
    let smaller : 1 + 2 * (weight (view c.get-in-Assign.result.now) + weight (view c.get-in-Assign-2.result.now)) < 2 *
    weight (view c.args.e.now) = rw (
      c.get-in-Assign.ensures,
      c.get-in-Assign-2.ensures,
      c.in-Assign.is,
      view-Assign,
    ) (omega arith) in
    search rules

pub expression-returns-in-Assign : goal.expression-returns-in-Assign
expression-returns-in-Assign t c =
    let h = rw (c.get-in-Assign.ensures, c.get-in-Assign-2.ensures) at c.two-in-Assign.ensures in
    rw (c.in-Assign.is, view-Assign) h

pub each-expression-requires : goal.each-expression-requires
each-expression-requires t c =
    let smaller : 2 * weight (view c.x-item.result) < 2 + 2 * weights (trees_of (map view c.args.xs.now)) =
    rw c.x-item.is (omega (arith, item_weight c.args.xs.now c.loop-x.x-index c.x-item.result (omega arith))) in
    search rules

pub each-loop-x-preserved : goal.each-loop-x-preserved
each-loop-x-preserved t c =
    let here = drop_here c.args.xs.now c.loop-x.x-index c.x-item.result (omega arith) c.x-item.is in
    rw (c.in_ok-expression.ensures, append_assoc, c.loop-x.invariant, here) refl

pub arguments-argument-requires : goal.arguments-argument-requires
arguments-argument-requires t c =
    let smaller : 1 + 2 * weight (view c.x-item.result) < 2 + 2 * weights (trees_of (map view c.args.xs.now)) =
    rw c.x-item.is (omega (arith, item_weight c.args.xs.now c.loop-x.x-index c.x-item.result (omega arith))) in
    search rules

pub arguments-loop-x-preserved : goal.arguments-loop-x-preserved
arguments-loop-x-preserved t c =
    let here = drop_here c.args.xs.now c.loop-x.x-index c.x-item.result (omega arith) c.x-item.is in
    rw (c.in_ok-argument.ensures, append_assoc, c.loop-x.invariant, here) refl

pub terms-expression-requires : goal.terms-expression-requires
terms-expression-requires t c =
    let smaller : 2 * weight (view c.term-item.result.operand) < 2 + 2 * weight_terms
    (terms_of (map view_term c.args.ts.now)) =
    rw c.term-item.is (omega (
      arith,
      term_weight c.args.ts.now c.loop-term.term-index c.term-item.result
          (omega arith),
    )) in
    search rules

pub terms-loop-term-preserved : goal.terms-loop-term-preserved
terms-loop-term-preserved t c =
    let here = drop_here c.args.ts.now c.loop-term.term-index c.term-item.result (omega arith) c.term-item.is in
    rw (c.in_ok-expression.ensures, append_assoc, c.loop-term.invariant, here) refl

pub pipes-optional-requires : goal.pipes-optional-requires
pipes-optional-requires t c =
    let smaller : 1 + 2 * weight_perhaps (perhaps_of (option_map view c.piped-item.result.target)) < 2 + 2 *
    weight_pipes (pipes_of (map view_piped c.args.ps.now)) =
    rw c.piped-item.is (omega (
      arith,
      piped_weight c.args.ps.now c.loop-piped.piped-index c.piped-item.result
          (omega arith),
    )) in
    search rules

pub pipes-loop-piped-preserved : goal.pipes-loop-piped-preserved
pipes-loop-piped-preserved t c =
    let here = drop_here c.args.ps.now c.loop-piped.piped-index c.piped-item.result (omega arith) c.piped-item.is in
    rw (c.in_ok-optional.ensures, append_assoc, c.loop-piped.invariant, here) refl
