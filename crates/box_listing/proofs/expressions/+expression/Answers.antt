use Rattle.std.proofs.Common.{◌++◌, [], ◌∷◌, option_copied, refl, arith, sym, ap, map, append-nil}
use Rattle.awk_program.specs.Program.{expressions_of, terms_of, joins_of}
use Rattle.awk_program.specs.View.{view, view_target, view_ere, view_term, view_joined, view_pipes, view_arguments}
use Rattle.awk_program.proofs.Views.{view-Number, view-Text, view-Pattern, view-Read, view-Assign, view-Change}
use Rattle.awk_program.proofs.Views.{view-Step, view-Not, view-Signed, view-Chain, view-Concat, view-Compare}
use Rattle.awk_program.proofs.Views.{view-Match, view-In, view-Group, view-And, view-Or, view-Choice, view-Call}
use Rattle.awk_program.proofs.Views.{view-Getline, view-GetlineFile, view-Pipe, view-Builtin, view-Count, view-Locate}
use Rattle.awk_program.proofs.Views.{view-Split, view-Substitute, view-AsText}
use Rattle.box_policy.specs.declared.policy.Kind.TheVariants as kind
use Rattle.box_listing.specs.Sites as spec
use Rattle.box_listing.proofs.Finding.{same, then}
use Rattle.box_listing.proofs.Walking.{argument_first, all_found, turn, turn_pipes, all_pipes}
use Rattle.box_listing.proofs.expressions.+expression.Goals as goal

pub expression-returns-in-Number : goal.expression-returns-in-Number
expression-returns-in-Number t c = λ n. rw (c.in-Number.is, view-Number, append-nil) refl

pub expression-returns-in-Text : goal.expression-returns-in-Text
expression-returns-in-Text t c = λ n. rw (c.in-Text.is, view-Text, append-nil) refl

pub expression-returns-in-Pattern : goal.expression-returns-in-Pattern
expression-returns-in-Pattern t c = λ n. rw (c.in-Pattern.is, view-Pattern, append-nil) refl

pub expression-returns-in-Read : goal.expression-returns-in-Read
expression-returns-in-Read t c = same _ _ _ _ (λ n. spec.value (view n c.args.e.now)) c.target.ensures
    (λ n. rw (c.in-Read.is, view-Read) refl)

pub expression-returns-in-Assign : goal.expression-returns-in-Assign
expression-returns-in-Assign t c = same _ _ _ _ (λ n. spec.value (view n c.args.e.now)) c.target_and.ensures
    (λ n. rw (c.get.ensures, c.in-Assign.is, view-Assign) refl)

pub expression-returns-in-Change : goal.expression-returns-in-Change
expression-returns-in-Change t c = same _ _ _ _ (λ n. spec.value (view n c.args.e.now)) c.target_and-in-Change.ensures
    (λ n. rw (c.get-in-Change.ensures, c.in-Change.is, view-Change) refl)

pub expression-returns-in-Step : goal.expression-returns-in-Step
expression-returns-in-Step t c = same _ _ _ _ (λ n. spec.value (view n c.args.e.now)) c.target-in-Step.ensures
    (λ n. rw (c.in-Step.is, view-Step) refl)

pub expression-returns-in-Not : goal.expression-returns-in-Not
expression-returns-in-Not t c = same _ _ _ _ (λ n. spec.value (view n c.args.e.now)) c.expression.ensures
    (λ n. rw (c.get-in-Not.ensures, c.in-Not.is, view-Not) refl)

pub expression-returns-in-Signed : goal.expression-returns-in-Signed
expression-returns-in-Signed t c = same _ _ _ _ (λ n. spec.value (view n c.args.e.now)) c.expression-in-Signed.ensures
    (λ n. rw (c.get-in-Signed.ensures, c.in-Signed.is, view-Signed) refl)

pub expression-returns-in-AsText : goal.expression-returns-in-AsText
expression-returns-in-AsText t c = same _ _ _ _ (λ n. spec.value (view n c.args.e.now)) c.expression-in-AsText.ensures
    (λ n. rw (c.get-in-AsText.ensures, c.in-AsText.is, view-AsText) refl)

pub expression-returns-in_ok-expression-in-Chain : goal.expression-returns-in_ok-expression-in-Chain
expression-returns-in_ok-expression-in-Chain t c = then _ _ _ _ _ _ (λ n. spec.value (view n c.args.e.now))
    c.in_ok-expression-in-Chain.ensures c.terms.ensures (λ n. rw (
      c.get-in-Chain.ensures,
      c.as_slice.ensures,
      c.in-Chain.is,
      view-Chain,
    ) refl)

pub expression-returns-in_ok-expression-in-Concat : goal.expression-returns-in_ok-expression-in-Concat
expression-returns-in_ok-expression-in-Concat t c = then _ _ _ _ _ _ (λ n. spec.value (view n c.args.e.now))
    c.in_ok-expression-in-Concat.ensures c.joins.ensures
    (λ n. rw (c.get-in-Concat.ensures, c.as_slice-in-Concat.ensures, c.in-Concat.is, view-Concat) refl)

pub expression-returns-in-Compare : goal.expression-returns-in-Compare
expression-returns-in-Compare t c = same _ _ _ _ (λ n. spec.value (view n c.args.e.now)) c.two.ensures
    (λ n. rw (c.get-in-Compare.ensures, c.get-in-Compare-2.ensures, c.in-Compare.is, view-Compare) refl)

pub expression-returns-in-Match : goal.expression-returns-in-Match
expression-returns-in-Match t c = same _ _ _ _ (λ n. spec.value (view n c.args.e.now)) c.value_and_ere.ensures
    (λ n. rw (c.get-in-Match.ensures, c.in-Match.is, view-Match) refl)

pub expression-returns-in-In : goal.expression-returns-in-In
expression-returns-in-In t c = same _ _ _ _ (λ n. spec.value (view n c.args.e.now)) c.expression-in-In.ensures
    (λ n. rw (c.get-in-In.ensures, c.in-In.is, view-In) refl)

pub expression-returns-in-Group : goal.expression-returns-in-Group
expression-returns-in-Group t c = same _ _ _ _ (λ n. spec.value (view n c.args.e.now)) c.each.ensures
    (λ n. rw (c.as_slice-in-Group.ensures, c.in-Group.is, view-Group) refl)

pub expression-returns-in-And : goal.expression-returns-in-And
expression-returns-in-And t c = same _ _ _ _ (λ n. spec.value (view n c.args.e.now)) c.first_and_each.ensures
    (λ n. rw (c.get-in-And.ensures, c.as_slice-in-And.ensures, c.in-And.is, view-And) refl)

pub expression-returns-in-Or : goal.expression-returns-in-Or
expression-returns-in-Or t c = same _ _ _ _ (λ n. spec.value (view n c.args.e.now)) c.first_and_each-in-Or.ensures
    (λ n. rw (c.get-in-Or.ensures, c.as_slice-in-Or.ensures, c.in-Or.is, view-Or) refl)

pub expression-returns-in-Choice : goal.expression-returns-in-Choice
expression-returns-in-Choice t c = same _ _ _ _ (λ n. spec.value (view n c.args.e.now)) c.three.ensures
    (λ n. rw (
      c.get-in-Choice.ensures,
      c.get-in-Choice-2.ensures,
      c.get-in-Choice-3.ensures,
      c.in-Choice.is,
      view-Choice,
    ) refl)

pub expression-returns-in-Call : goal.expression-returns-in-Call
expression-returns-in-Call t c = same _ _ _ _ (λ n. spec.value (view n c.args.e.now)) c.arguments.ensures
    (λ n. rw (c.as_slice-in-Call.ensures, c.in-Call.is, view-Call) refl)

pub expression-returns-in_ok-push-in-Getline : goal.expression-returns-in_ok-push-in-Getline
expression-returns-in_ok-push-in-Getline t c = then _ _ _ _ _ _ (λ n. spec.value (view n c.args.e.now))
    (λ n. c.in_ok-push-in-Getline.ensures.items) c.target-in-Getline.ensures
    (λ n. rw (c.in-Getline.is, view-Getline) refl)

pub expression-returns-in_ok-reading-in-GetlineFile : goal.expression-returns-in_ok-reading-in-GetlineFile
expression-returns-in_ok-reading-in-GetlineFile t c = then _ _ _ _ _ _ (λ n. spec.value (view n c.args.e.now))
    (λ n. c.in_ok-reading-in-GetlineFile.ensures) c.target_and-in-GetlineFile.ensures
    (λ n. rw (
      c.constant.ensures n,
      c.get-in-GetlineFile.ensures,
      c.get-in-GetlineFile-2.ensures,
      c.in-GetlineFile.is,
      view-GetlineFile,
    ) refl)

pub expression-returns-in_ok-expression-in-Pipe : goal.expression-returns-in_ok-expression-in-Pipe
expression-returns-in_ok-expression-in-Pipe t c = then _ _ _ _ _ _ (λ n. spec.value (view n c.args.e.now))
    c.in_ok-expression-in-Pipe.ensures c.pipes.ensures (λ n. rw (
      c.constant-in-Pipe.ensures n,
      c.get-in-Pipe.ensures,
      c.get-in-Pipe-2.ensures,
      c.as_slice-in-Pipe.ensures,
      c.in-Pipe.is,
      view-Pipe,
    ) refl)

pub expression-returns-in-Builtin : goal.expression-returns-in-Builtin
expression-returns-in-Builtin t c = same _ _ _ _ (λ n. spec.value (view n c.args.e.now)) c.builtin.ensures
    (λ n. rw (c.as_slice-in-Builtin.ensures, c.in-Builtin.is, view-Builtin) refl)

pub expression-returns-in-Count : goal.expression-returns-in-Count
expression-returns-in-Count t c = λ n. rw (c.in-Count.is, view-Count, append-nil) refl

pub expression-returns-in-Locate : goal.expression-returns-in-Locate
expression-returns-in-Locate t c = same _ _ _ _ (λ n. spec.value (view n c.args.e.now))
    c.value_and_ere-in-Locate.ensures (λ n. rw (c.get-in-Locate.ensures, c.in-Locate.is, view-Locate) refl)

pub expression-returns-in-Split : goal.expression-returns-in-Split
expression-returns-in-Split t c = same _ _ _ _ (λ n. spec.value (view n c.args.e.now)) c.value_and_ere-in-Split.ensures
    (λ n. rw (c.get-in-Split.ensures, c.in-Split.is, view-Split) refl)

pub expression-returns-in_ok-ere-in-Substitute : goal.expression-returns-in_ok-ere-in-Substitute
expression-returns-in_ok-ere-in-Substitute t c = then _ _ _ _ _ _ (λ n. spec.value (view n c.args.e.now))
    c.in_ok-ere-in-Substitute.ensures c.value_and_target.ensures
    (λ n. rw (c.get-in-Substitute.ensures, c.in-Substitute.is, view-Substitute) refl)

pub builtin-returns : goal.builtin-returns
builtin-returns t c =
    then _ _ _ _ _ _ (λ n. spec.asked c.args.place c.args.which (expressions_of (map (view n) c.args.xs.now))
    ++ spec.each (expressions_of (map (view n) c.args.xs.now))) c.in_ok-asked.ensures c.each.ensures (λ n. refl)

pub two-returns : goal.two-returns
two-returns t c = then _ _ _ _ _ _ (λ n. spec.value (view n c.args.x.now) ++ spec.value (view n c.args.y.now))
    c.in_ok-expression.ensures c.expression-2.ensures (λ n. refl)

pub three-returns : goal.three-returns
three-returns t c = then _ _ _ _ _ _ (λ n. spec.value (view n c.args.x.now) ++ (spec.value (view n c.args.y.now)
    ++ spec.value (view n c.args.z.now))) c.in_ok-expression.ensures c.two.ensures (λ n. refl)

pub first_and_each-returns : goal.first_and_each-returns
first_and_each-returns t c = then _ _ _ _ _ _ (λ n. spec.value (view n c.args.x.now)
    ++ spec.each (expressions_of (map (view n) c.args.xs.now))) c.in_ok-expression.ensures c.each.ensures (λ n. refl)

pub target_and-returns : goal.target_and-returns
target_and-returns t c = then _ _ _ _ _ _ (λ n. spec.target (view_target n c.args.r.now)
    ++ spec.value (view n c.args.x.now)) c.in_ok-target.ensures c.expression.ensures (λ n. refl)

pub value_and_target-returns : goal.value_and_target-returns
value_and_target-returns t c = then _ _ _ _ _ _ (λ n. spec.value (view n c.args.x.now) ++ spec.target
    (view_target n c.args.r.now)) c.in_ok-expression.ensures c.target.ensures (λ n. refl)

pub value_and_ere-returns : goal.value_and_ere-returns
value_and_ere-returns t c = then _ _ _ _ _ _ (λ n. spec.value (view n c.args.x.now)
    ++ spec.ere (view_ere n c.args.y.now)) c.in_ok-expression.ensures c.ere.ensures (λ n. refl)

pub target-returns-in-Variable : goal.target-returns-in-Variable
target-returns-in-Variable t c = λ n. rw (c.in-Variable.is, append-nil) refl

pub target-returns-in-Element : goal.target-returns-in-Element
target-returns-in-Element t c = same _ _ _ _ (λ n. spec.target (view_target n c.args.r.now)) c.each.ensures
    (λ n. rw (c.as_slice.ensures, c.in-Element.is) refl)

pub target-returns-in-Field : goal.target-returns-in-Field
target-returns-in-Field t c = same _ _ _ _ (λ n. spec.target (view_target n c.args.r.now)) c.expression.ensures
    (λ n. rw (c.get.ensures, c.in-Field.is) refl)

pub ere-returns-in-Constant : goal.ere-returns-in-Constant
ere-returns-in-Constant t c = λ n. rw (c.in-Constant.is, append-nil) refl

pub ere-returns-in-Computed : goal.ere-returns-in-Computed
ere-returns-in-Computed t c = same _ _ _ _ (λ n. spec.ere (view_ere n c.args.x.now)) c.expression.ensures
    (λ n. rw (c.get.ensures, c.in-Computed.is) refl)

pub each-loop-x-init : goal.each-loop-x-init
each-loop-x-init t c = λ n. refl

pub each-loop-x-preserved : goal.each-loop-x-preserved
each-loop-x-preserved t c = turn (λ n xs. spec.each (expressions_of (map (view n) xs))) _ _ _ _ c.args.xs.now
    c.loop-x.x-index c.x-item.result (omega arith) c.x-item.is (λ n ys. refl) c.in_ok-expression.ensures
    c.loop-x.invariant

pub each-returns : goal.each-returns
each-returns t c = all_found (λ n xs. spec.each (expressions_of (map (view n) xs))) _ _ c.args.xs.now c.loop-x.x-index
    (omega arith) (λ n. refl) c.loop-x.invariant

pub terms-loop-x-init : goal.terms-loop-x-init
terms-loop-x-init t c = λ n. refl

pub terms-loop-x-preserved : goal.terms-loop-x-preserved
terms-loop-x-preserved t c = turn (λ n xs. spec.terms (terms_of (map (view_term n) xs))) _ _ _ _ c.args.xs.now
    c.loop-x.x-index c.x-item.result (omega arith) c.x-item.is (λ n ys. refl) c.in_ok-expression.ensures
    c.loop-x.invariant

pub terms-returns : goal.terms-returns
terms-returns t c = all_found (λ n xs. spec.terms (terms_of (map (view_term n) xs))) _ _ c.args.xs.now c.loop-x.x-index
    (omega arith) (λ n. refl) c.loop-x.invariant

pub joins-loop-x-init : goal.joins-loop-x-init
joins-loop-x-init t c = λ n. refl

pub joins-loop-x-preserved : goal.joins-loop-x-preserved
joins-loop-x-preserved t c = turn (λ n xs. spec.joins (joins_of (map (view_joined n) xs))) _ _ _ _ c.args.xs.now
    c.loop-x.x-index c.x-item.result (omega arith) c.x-item.is (λ n ys. refl) c.in_ok-expression.ensures
    c.loop-x.invariant

pub joins-returns : goal.joins-returns
joins-returns t c = all_found (λ n xs. spec.joins (joins_of (map (view_joined n) xs))) _ _ c.args.xs.now
    c.loop-x.x-index (omega arith) (λ n. refl) c.loop-x.invariant

pub arguments-loop-x-init : goal.arguments-loop-x-init
arguments-loop-x-init t c = λ n. refl

pub arguments-loop-x-preserved : goal.arguments-loop-x-preserved
arguments-loop-x-preserved t c = turn (λ n xs. spec.arguments (view_arguments n xs)) _ _ _ _ c.args.xs.now
    c.loop-x.x-index c.x-item.result (omega arith) c.x-item.is (λ n ys. argument_first n c.x-item.result ys)
    c.in_ok-argument.ensures c.loop-x.invariant

pub arguments-returns : goal.arguments-returns
arguments-returns t c = all_found (λ n xs. spec.arguments (view_arguments n xs)) _ _ c.args.xs.now c.loop-x.x-index
    (omega arith) (λ n. refl) c.loop-x.invariant

pub pipes-loop-x-init : goal.pipes-loop-x-init
pipes-loop-x-init t c = λ n. refl

pub pipes-loop-x-preserved : goal.pipes-loop-x-preserved
pipes-loop-x-preserved t c =
    turn_pipes _ _ _ _ c.args.xs.now c.loop-x.x-index c.x-item.result (omega arith) c.x-item.is c.in_ok-piped.ensures
    c.loop-x.invariant

pub pipes-returns : goal.pipes-returns
pipes-returns t c = all_pipes _ _ _ _ c.args.xs.now c.loop-x.x-index (omega arith) c.loop-x.invariant

pub argument-returns-in-Value : goal.argument-returns-in-Value
argument-returns-in-Value t c = same _ _ _ _ (λ n. spec.arguments (view_arguments n (c.args.x.now ∷ [])))
    c.expression.ensures (λ n. rw (c.in-Value.is, append-nil) refl)

pub argument-returns-in-Array : goal.argument-returns-in-Array
argument-returns-in-Array t c = λ n. rw (c.in-Array.is, append-nil) refl

pub argument-returns-in-Nothing : goal.argument-returns-in-Nothing
argument-returns-in-Nothing t c = λ n. rw (c.in-Nothing.is, append-nil) refl

pub piped-returns : goal.piped-returns
piped-returns t c = then _ _ _ _ _ _ (λ n. spec.pipes (option_copied c.args.text) (view_pipes n (c.args.x.now ∷ [])))
    (λ n. c.in_ok-site.ensures) c.target.ensures
    (λ n. ap (λ z. spec.site c.args.x.now.place kind.Run (option_copied c.args.text) ++ z) (sym (append-nil _)))
