use Rattle.std.proofs.Common.{arith, ◌∙◌, sym, map}
use Rattle.std.proofs.lemmas.List.{drop_all}
use Rattle.awk_tree.specs.Tree.{trees_of}
use Rattle.awk_tree.specs.View.{view, view_term}
use Rattle.awk_tree.proofs.Views.{view-Number, view-Quoted, view-Pattern, view-Name, view-Element, view-Field}
use Rattle.awk_tree.proofs.Views.{view-Paren, view-Call, view-Builtin, view-Length, view-Split, view-Substitute}
use Rattle.awk_tree.proofs.Views.{view-Getline, view-Before, view-After, view-Signed, view-Power, view-Product}
use Rattle.awk_tree.proofs.Views.{view-Sum, view-Concat, view-Pipe, view-Compare, view-Match, view-Group, view-In}
use Rattle.awk_tree.proofs.Views.{view-And, view-Or, view-Choice, view-Assign}
use Rattle.awk_program.specs.View as code
use Rattle.awk_lowering.specs.Lowered.{lowered, lowered_text, lowered_list}
use Rattle.awk_lowering.specs.OneByOne.{lowered_term, lowered_join}
use Rattle.awk_lowering.specs.Made.{names_in, scope_in}
use Rattle.awk_lowering.specs.Texts.{texts_wanted}
use Rattle.awk_lowering.proofs.Carried.{boxed_is, turned, whole, whole_as, none_left, just_two}
use Rattle.awk_lowering.proofs.Lists.{called_some, plainly, located_else, terms_are, joins_are, pipes_end}
use Rattle.awk_lowering.proofs.Lists.{pipes_turn, arguments_end, arguments_turn}
use Rattle.awk_lowering.proofs.Wanted.{list_is, texts_are, first_none, firsts_split, rest_behind}
use Rattle.awk_lowering.proofs.expressions.+expression.Goals as goal

pub expression-returns-in-Number : goal.expression-returns-in-Number
expression-returns-in-Number t c =
    rw (c.in-Number.is, view-Number) (c.number.ensures _)

pub expression-returns-in-Quoted : goal.expression-returns-in-Quoted
expression-returns-in-Quoted t c =
    rw (c.in-Quoted.is, view-Quoted) (c.quoted.ensures _)

pub expression-returns-in-Pattern : goal.expression-returns-in-Pattern
expression-returns-in-Pattern t c =
    rw (c.in-Pattern.is, view-Pattern) (c.pattern.ensures _)

pub expression-returns-in-Name : goal.expression-returns-in-Name
expression-returns-in-Name t c =
    let v = rw c.bytes.ensures at c.variable.ensures in
    rw (c.in-Name.is, view-Name) (c.read_of.ensures _ _ (c.variable_of.ensures _ _ v))

pub expression-returns-in-Element : goal.expression-returns-in-Element
expression-returns-in-Element t c =
    let x = rw c.as_slice.ensures at c.element.ensures in
    rw (c.in-Element.is, view-Element) (c.read_of-in-Element.ensures _ _ x)

pub expression-returns-in-Field : goal.expression-returns-in-Field
expression-returns-in-Field t c =
    let x = rw c.get.ensures at c.part.ensures in
    rw (c.in-Field.is, view-Field) (c.read_of-in-Field.ensures _ _ (c.field_of.ensures _ _ x))

pub expression-returns-in-Paren : goal.expression-returns-in-Paren
expression-returns-in-Paren t c =
    let x = rw c.get-in-Paren.ensures at c.expression.ensures in rw (c.in-Paren.is, view-Paren) x

pub expression-returns-in-Call : goal.expression-returns-in-Call
expression-returns-in-Call t c =
    let x = rw c.as_slice-in-Call.ensures at c.call.ensures in rw (c.in-Call.is, view-Call) x

pub expression-returns-in-Builtin : goal.expression-returns-in-Builtin
expression-returns-in-Builtin t c =
    let x = rw c.as_slice-in-Builtin.ensures at c.builtin.ensures in rw (c.in-Builtin.is, view-Builtin) x

pub expression-returns-in-Length : goal.expression-returns-in-Length
expression-returns-in-Length t c =
    rw (c.in-Length.is, view-Length) (c.record_length.ensures _)

pub expression-returns-in-Split : goal.expression-returns-in-Split
expression-returns-in-Split t c =
    let x = rw c.get-in-Split.ensures at c.split.ensures in rw (c.in-Split.is, view-Split) x

pub expression-returns-in-Substitute : goal.expression-returns-in-Substitute
expression-returns-in-Substitute t c =
    let y = rw c.get-in-Substitute.ensures at c.text-y.ensures in
    let x = rw c.get-in-Substitute-2.ensures at c.wanted-x.ensures in
    rw (c.in-Substitute.is, view-Substitute, ← c.extent.ensures)
    (c.substitute_of.ensures _ _ _ _ x y c.target_or_record-target.ensures)

pub expression-returns-in-Getline : goal.expression-returns-in-Getline
expression-returns-in-Getline t c =
    rw (c.in-Getline.is, view-Getline) c.getline.ensures

pub expression-returns-in-Before : goal.expression-returns-in-Before
expression-returns-in-Before t c =
    let x = rw c.get-in-Before.ensures at c.target-x.ensures in
    rw (c.in-Before.is, view-Before, ← c.step.ensures) (c.step_of.ensures _ _ x)

pub expression-returns-in-After : goal.expression-returns-in-After
expression-returns-in-After t c =
    let x = rw c.get-in-After.ensures at c.target-x-in-After.ensures in
    rw (c.in-After.is, view-After, ← c.step-in-After.ensures) (c.step_of-in-After.ensures _ _ x)

pub expression-returns-in-Signed : goal.expression-returns-in-Signed
expression-returns-in-Signed t c =
    let x = rw c.get-in-Signed.ensures at c.part-in-Signed.ensures in
    rw (c.in-Signed.is, view-Signed) (c.signed_of.ensures _ _ x)

pub expression-returns-in-Power : goal.expression-returns-in-Power
expression-returns-in-Power t c =
    let x = rw c.get-in-Power.ensures at c.part-x.ensures in
    let y = rw c.get-in-Power-2.ensures at c.part-in-Power.ensures in
    rw (c.in-Power.is, view-Power) (c.power_of.ensures _ _ _ x y)

pub expression-returns-in-Product : goal.expression-returns-in-Product
expression-returns-in-Product t c =
    let x = rw c.get-in-Product.ensures at c.part-x-in-Product.ensures in
    let xs = rw c.as_slice-in-Product.ensures at c.terms.ensures in
    rw (c.in-Product.is, view-Product, terms_are) (c.chain_of.ensures _ _ _ x xs)

pub expression-returns-in-Sum : goal.expression-returns-in-Sum
expression-returns-in-Sum t c =
    let x = rw c.get-in-Sum.ensures at c.part-x-in-Sum.ensures in
    let xs = rw c.as_slice-in-Sum.ensures at c.terms-in-Sum.ensures in
    rw (c.in-Sum.is, view-Sum, terms_are) (c.chain_of-in-Sum.ensures _ _ _ x xs)

pub expression-returns-in-Concat : goal.expression-returns-in-Concat
expression-returns-in-Concat t c =
    let x = rw c.get-in-Concat.ensures at c.operand-x.ensures in
    let xs = rw c.as_slice-in-Concat.ensures at c.joins.ensures in
    rw (c.in-Concat.is, view-Concat, joins_are) (c.concat_of.ensures _ _ _ x xs)

pub expression-returns-in-Pipe : goal.expression-returns-in-Pipe
expression-returns-in-Pipe t c =
    let x = rw c.get-in-Pipe.ensures at c.operand-x-in-Pipe.ensures in
    let xs = rw c.as_slice-in-Pipe.ensures at c.pipes.ensures in
    rw (c.in-Pipe.is, view-Pipe) (c.pipe_of.ensures _ _ _ x xs)

pub expression-returns-in-Compare : goal.expression-returns-in-Compare
expression-returns-in-Compare t c =
    let x = rw c.get-in-Compare.ensures at c.part-x-in-Compare.ensures in
    let y = rw c.get-in-Compare-2.ensures at c.part-y.ensures in
    rw (c.in-Compare.is, view-Compare, ← c.comparison.ensures) (c.compare_of.ensures _ _ _ x y)

pub expression-returns-in-Match : goal.expression-returns-in-Match
expression-returns-in-Match t c =
    let x = rw c.get-in-Match.ensures at c.text-x.ensures in
    let y = rw c.get-in-Match-2.ensures at c.wanted.ensures in
    rw (c.in-Match.is, view-Match) (c.negated.ensures _ _ (c.match_of-is_like.ensures _ _ _ x y))

pub expression-returns-in-Group : goal.expression-returns-in-Group
expression-returns-in-Group t c =
    let q = rw c.as_slice-in-Group.ensures at c.first_in-place.ensures in
    let xs = rw c.as_slice-in-Group-2.ensures at c.texts-xs.ensures in
    let vs = rw c.as_slice-in-Group-3.ensures at c.arrays_in.ensures in
    rw (c.in-Group.is, view-Group, texts_are (scope_in c.args.context.now), ← q) (c.group_of.ensures _ _ _ xs vs)

pub expression-returns-in-In : goal.expression-returns-in-In
expression-returns-in-In t c =
    let x = rw (c.get-in-In.ensures, c.as_slice-in-In.ensures) at c.key-x.ensures in
    let vs = rw c.as_slice-in-In-2.ensures at c.arrays_in-in-In.ensures in
    rw (c.in-In.is, view-In) (c.member_of.ensures _ _ _ x vs)

pub expression-returns-in-And : goal.expression-returns-in-And
expression-returns-in-And t c =
    let x = rw c.get-in-And.ensures at c.part-x-in-And.ensures in
    let xs = rw c.as_slice-in-And.ensures at c.list.ensures in
    rw (c.in-And.is, view-And, list_is) (c.and_of.ensures _ _ _ x xs)

pub expression-returns-in-Or : goal.expression-returns-in-Or
expression-returns-in-Or t c =
    let x = rw c.get-in-Or.ensures at c.part-x-in-Or.ensures in
    let xs = rw c.as_slice-in-Or.ensures at c.list-in-Or.ensures in
    rw (c.in-Or.is, view-Or, list_is) (c.or_of.ensures _ _ _ x xs)

pub expression-returns-in-Choice : goal.expression-returns-in-Choice
expression-returns-in-Choice t c =
    let x = rw c.get-in-Choice.ensures at c.part-x-in-Choice.ensures in
    let y = rw c.get-in-Choice-2.ensures at c.part-y-in-Choice.ensures in
    let z = rw c.get-in-Choice-3.ensures at c.part-in-Choice.ensures in
    rw (c.in-Choice.is, view-Choice) (c.choose_of.ensures _ _ _ _ x y z)

pub expression-returns-in-Assign : goal.expression-returns-in-Assign
expression-returns-in-Assign t c =
    let x = rw c.get-in-Assign.ensures at c.target-x-in-Assign.ensures in
    let y = rw c.get-in-Assign-2.ensures at c.part-in-Assign.ensures in
    rw (c.in-Assign.is, view-Assign) (c.assign_of.ensures _ _ _ x y)

pub part-returns : goal.part-returns
part-returns t c =
    boxed_is (code.view (names_in c.args.context.now)) _ _ _ c.boxed.ensures c.expression.ensures

pub text-returns : goal.text-returns
text-returns t c = c.text_of.ensures _ c.part.ensures

pub operand-returns : goal.operand-returns
operand-returns t c = c.text_at.ensures _ _ c.start.ensures c.part.ensures

pub key-returns : goal.key-returns
key-returns t c = c.text_at.ensures _ _ c.first_behind-place.ensures c.part.ensures

pub element-returns : goal.element-returns
element-returns t c =
    let v = rw c.bytes.ensures at c.variable-v.ensures in
    rw (texts_are (scope_in c.args.context.now)) (c.element_of.ensures _ _ _ v c.texts.ensures)

pub target-returns-in-Name : goal.target-returns-in-Name
target-returns-in-Name t c =
    let v = rw c.bytes.ensures at c.variable.ensures in rw (c.in-Name.is, view-Name) (c.variable_of.ensures _ _ v)

pub target-returns-in-Element : goal.target-returns-in-Element
target-returns-in-Element t c =
    let x = rw c.as_slice.ensures at c.element.ensures in rw (c.in-Element.is, view-Element) x

pub target-returns-in-Field : goal.target-returns-in-Field
target-returns-in-Field t c =
    let x = rw c.get.ensures at c.part.ensures in rw (c.in-Field.is, view-Field) (c.field_of.ensures _ _ x)

pub target_or_record-returns-in-None : goal.target_or_record-returns-in-None
target_or_record-returns-in-None t c =
    rw c.in-None.is (c.record_of.ensures _)

pub target_or_record-returns-in-Some : goal.target_or_record-returns-in-Some
target_or_record-returns-in-Some t c =
    let x = rw c.get.ensures at c.target.ensures in rw c.in-Some.is x

pub piped_target-returns-in-None : goal.piped_target-returns-in-None
piped_target-returns-in-None t c =
    rw c.in-None.is (c.record_of.ensures _)

pub piped_target-returns-in-Some : goal.piped_target-returns-in-Some
piped_target-returns-in-Some t c =
    rw c.in-Some.is c.target.ensures

pub wanted-returns-in-Some : goal.wanted-returns-in-Some
wanted-returns-in-Some t c =
    rw (← c.constant.ensures, c.in-Some.is) (c.constant_of.ensures _)

pub wanted-returns-in-None : goal.wanted-returns-in-None
wanted-returns-in-None t c =
    rw (← c.constant.ensures, c.in-None.is) (c.computed_of.ensures _ _ c.text.ensures)

pub separator-returns-in-None : goal.separator-returns-in-None
separator-returns-in-None t c =
    rw c.in-None.is c.field_separator.ensures

pub separator-returns-in-Some : goal.separator-returns-in-Some
separator-returns-in-Some t c =
    let y = rw c.get.ensures at c.wanted.ensures in rw c.in-Some.is y

pub split-returns : goal.split-returns
split-returns t c =
    let v = rw c.bytes.ensures at c.variable-v.ensures in
    c.split_of.ensures _ _ _ _ c.text-x.ensures v c.separator.ensures

pub getline-returns-in-None : goal.getline-returns-in-None
getline-returns-in-None t c =
    rw c.in-None.is (c.getline_of.ensures _ _ c.target_or_record-x.ensures)

pub getline-returns-in-Some : goal.getline-returns-in-Some
getline-returns-in-Some t c =
    let y = rw c.get.ensures at c.text.ensures in
    rw c.in-Some.is (c.getline_file_of.ensures _ _ _ c.target_or_record-x.ensures y)

pub call-returns : goal.call-returns
call-returns t c =
    let f = rw c.bytes.ensures at c.function-f.ensures in
    let are = rw c.bytes-2.ensures at c.arrays_of-arrays.ensures in
    let xs = rw are at c.arguments.ensures in c.call_of.ensures _ _ _ f xs

pub builtin-returns-in-Some : goal.builtin-returns-in-Some
builtin-returns-in-Some t c =
    rw (plainly (scope_in c.args.context.now) c.args.place c.args.which c.in-Some.function
    (trees_of (map view c.args.args.now)) (lowered_list (scope_in c.args.context.now)
    (trees_of (map view c.args.args.now))) (sym c.plain_builtin.ensures ∙ c.in-Some.is)) c.plain.ensures

pub builtin-returns-in-Match : goal.builtin-returns-in-Match
builtin-returns-in-Match t c =
    rw c.in-Match.is c.located.ensures

pub plain-returns-in-Some : goal.plain-returns-in-Some
plain-returns-in-Some t c =
    let v = rw c.bytes.ensures at c.variable.ensures in
    rw (← c.counted.ensures, c.in-Some.is) (c.count_of.ensures _ _ v)

pub plain-returns-in-None : goal.plain-returns-in-None
plain-returns-in-None t c = rw (← c.counted.ensures, c.in-None.is) c.called.ensures

pub called-returns-in-empty : goal.called-returns-in-empty
called-returns-in-empty t c =
    rw (none_left c.args.args.now c.in-empty.len_below, first_none) (c.without_arguments.ensures _)

pub called-returns-in-len1-up : goal.called-returns-in-len1-up
called-returns-in-len1-up t c =
    rw (
      called_some (scope_in c.args.context.now) c.args.place c.args.which (texts_wanted c.args.which) c.args.args.now
          c.in-len1-up.len_at_least,
      ← c.texts_wanted.ensures,
    ) (c.builtin_of.ensures _ _ c.first_texts-xs.ensures)

pub located-returns-in-empty : goal.located-returns-in-empty
located-returns-in-empty t c =
    rw (located_else c.args.place c.args.args.now _ (λ two. omega (arith, two, c.in-empty.len_below)))
    (c.zero.ensures _)

pub located-returns-in-len3-up : goal.located-returns-in-len3-up
located-returns-in-len3-up t c =
    rw (located_else c.args.place c.args.args.now _ (λ two. omega (arith, two, c.in-len3-up.len_at_least)))
    (c.zero-in-len3-up.ensures _)

pub located-returns-in-len2 : goal.located-returns-in-len2
located-returns-in-len2 t c =
    rw (just_two c.args.args.now c.x-item.result c.y-item.result c.in-len2.len_at_least c.in-len2.len_below c.x-item.is
    c.y-item.is) (c.locate_of.ensures _ _ _ c.text-x.ensures c.wanted.ensures)

pub fill-loop-x-preserved : goal.fill-loop-x-preserved
fill-loop-x-preserved t c =
    turned (code.view (names_in c.args.context.now)) (lowered (scope_in c.args.context.now)) view _ _ _ _
    c.x-item.result c.args.xs.now c.loop-x.x-index (omega arith) c.x-item.is c.expression.ensures
    c.in_ok-push.ensures c.loop-x.invariant

pub list-returns : goal.list-returns
list-returns t c =
    whole (code.view (names_in c.args.context.now)) _ _ _ _ c.kept.ensures
    (rw c.room-out.ensures at c.fill-filled.ensures)

pub fill_texts-loop-x-preserved : goal.fill_texts-loop-x-preserved
fill_texts-loop-x-preserved t c =
    turned (code.view (names_in c.args.context.now)) (lowered_text (scope_in c.args.context.now) c.args.place) view
    _ _ _ _ c.x-item.result c.args.xs.now c.loop-x.x-index (omega arith) c.x-item.is
    (rw (← c.opened.ensures) at c.text.ensures) c.in_ok-push.ensures c.loop-x.invariant

pub texts-returns : goal.texts-returns
texts-returns t c =
    whole (code.view (names_in c.args.context.now)) _ _ _ _ c.kept.ensures
    (rw c.room-out.ensures at c.fill_texts-filled.ensures)

pub fill_first_texts-returns : goal.fill_first_texts-returns
fill_first_texts-returns t c =
    let split = firsts_split (scope_in c.args.context.now) c.args.place view c.args.count c.args.xs.now _ _ _
    c.min.ensures c.split_at.ensures.front c.split_at.ensures.back in
    rest_behind _ _ _ _ _ _ _ c.in_ok-fill_texts.ensures split c.fill.ensures

pub first_texts-returns : goal.first_texts-returns
first_texts-returns t c =
    whole (code.view (names_in c.args.context.now)) _ _ _ _ c.kept.ensures
    (rw c.room-out.ensures at c.fill_first_texts-filled.ensures)

pub fill_terms-loop-x-preserved : goal.fill_terms-loop-x-preserved
fill_terms-loop-x-preserved t c =
    turned (code.view_term (names_in c.args.context.now)) (lowered_term (scope_in c.args.context.now)) view_term _ _ _ _
    c.x-item.result c.args.xs.now c.loop-x.x-index (omega arith) c.x-item.is
    (c.term_of.ensures _ _ c.part-operand.ensures) c.in_ok-push.ensures c.loop-x.invariant

pub terms-returns : goal.terms-returns
terms-returns t c =
    whole (code.view_term (names_in c.args.context.now)) _ _ _ _ c.kept.ensures
    (rw c.room-out.ensures at c.fill_terms-filled.ensures)

pub fill_joins-loop-x-preserved : goal.fill_joins-loop-x-preserved
fill_joins-loop-x-preserved t c =
    turned (code.view_joined (names_in c.args.context.now)) (lowered_join (scope_in c.args.context.now)) view _ _ _ _
    c.x-item.result c.args.xs.now c.loop-x.x-index (omega arith) c.x-item.is
    (c.join_of.ensures _ _ _ c.start.ensures c.operand-operand.ensures) c.in_ok-push.ensures c.loop-x.invariant

pub joins-returns : goal.joins-returns
joins-returns t c =
    whole (code.view_joined (names_in c.args.context.now)) _ _ _ _ c.kept.ensures
    (rw c.room-out.ensures at c.fill_joins-filled.ensures)

pub fill_pipes-loop-x-preserved : goal.fill_pipes-loop-x-preserved
fill_pipes-loop-x-preserved t c =
    pipes_turn (names_in c.args.context.now) (scope_in c.args.context.now) _ _ _ _ c.x-item.result c.args.xs.now
    c.loop-x.x-index (omega arith) c.x-item.is (c.piped_of.ensures _ _ c.piped_target-target.ensures)
    c.in_ok-push.ensures c.loop-x.invariant

pub fill_pipes-returns : goal.fill_pipes-returns
fill_pipes-returns t c =
    let far = rw (drop_all c.loop-x.x-index c.args.xs.now (omega arith)) at c.loop-x.invariant in
    sym (far ∙ pipes_end _)

pub pipes-returns : goal.pipes-returns
pipes-returns t c =
    whole_as (code.view_pipes (names_in c.args.context.now)) _ _ _ _ c.kept.ensures
    (rw c.room-out.ensures at c.fill_pipes-filled.ensures)

pub fill_arguments-loop-x-preserved : goal.fill_arguments-loop-x-preserved
fill_arguments-loop-x-preserved t c =
    let made = rw (c.takes_array.ensures, c.bare.ensures) at (c.argument_of.ensures _ c.part-value.ensures) in
    rw c.later-rest.ensures (arguments_turn (names_in c.args.context.now) (scope_in c.args.context.now) _ _ _ _
    c.loop-x.rest.now c.x-item.result c.args.xs.now c.loop-x.x-index (omega arith) c.x-item.is made
    c.in_ok-push.ensures c.loop-x.invariant)

pub fill_arguments-returns : goal.fill_arguments-returns
fill_arguments-returns t c =
    let far = rw (drop_all c.loop-x.x-index c.args.xs.now (omega arith)) at c.loop-x.invariant in
    sym (far ∙ arguments_end _)

pub arguments-returns : goal.arguments-returns
arguments-returns t c =
    whole_as (code.view_arguments (names_in c.args.context.now)) _ _ _ _ c.kept.ensures
    (rw c.room-out.ensures at c.fill_arguments-filled.ensures)
