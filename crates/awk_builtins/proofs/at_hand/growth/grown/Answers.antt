use Rattle.std.proofs.Common.{◌∙◌, ap, refl, map, ◌++◌}
use Rattle.awk_program.specs.Program.{joins_of}
use Rattle.awk_program.specs.View.{view, view_joined}
use Rattle.awk_store.specs.Changes.{with_value}
use Rattle.awk_store.specs.Wholes.{names_in}
use Rattle.awk_text.specs.Values.{text_of}
use Rattle.awk_text.specs.declared.value.Value.TheVariants as v
use Rattle.awk_builtins.proofs.Grown.{assigns, holds_text}
use Rattle.awk_builtins.proofs.at_hand.growth.grown.Goals as goal

pub returns-in-Some-constant-clause-done : goal.returns-in-Some-constant-clause-done
returns-in-Some-constant-clause-done c = λ is.
    let held = c.in-Some.ensures.room in
    let more = c.in-Some-constant.text.now in (
      v.Text (held.0 ++ more),
      λ g t place. assigns g (c.args.store.now, t) place c.args.to c.in-Some.ensures.nf
          (view (names_in g) c.args.first.now) (joins_of (map (view_joined (names_in g)) c.args.rest.now)) held.0 more
          c.in-Some.room c.grow.new.store
          (c.operand_of.ensures c.args.store.now (v.Text held.0) refl (λ m u. holds_text m (c.args.store.now, u) c.args.to
          (view (names_in m) c.operand_of.result.now) held.0 c.in-Some.ensures.nf
          (c.reads_variable.ensures c.if-not-reads_variable.false (names_in m)) held.1) g t)
          held.2 (c.in-Some-constant.ensures g t c.args.store.now c.in-Some.room c.if-room-text.false)
          (c.in_ok-grow.ensures.ok
          ∙ ap (λ text. with_value c.args.to (v.Text text) c.args.store.now) (ap (λ val. text_of val ++ more) held.1)),
    )

pub returns-clause-done : goal.returns-clause-done
returns-clause-done c = λ is.
    let held = c.in-Some.ensures.room in
    let more = c.gathered.new.texts.items in
    let follows = c.in_ok-found.ensures c.if-not-found.false in (
      v.Text (held.0 ++ more),
      λ g t place. assigns g (c.args.store.now, t) place c.args.to c.in-Some.ensures.nf
          (view (names_in g) c.args.first.now) (joins_of (map (view_joined (names_in g)) c.args.rest.now)) held.0 more
          c.in-Some.room c.grow-2.new.store
          (c.operand_of.ensures c.args.store.now (v.Text held.0) refl (λ m u. holds_text m (c.args.store.now, u) c.args.to
          (view (names_in m) c.operand_of.result.now) held.0 c.in-Some.ensures.nf
          (c.reads_variable.ensures c.if-not-reads_variable.false (names_in m)) held.1) g t)
          held.2 (follows g t)
          (c.in_ok-grow-2.ensures.ok
          ∙ ap (λ text. with_value c.args.to (v.Text text) c.args.store.now)
          (ap (λ val. text_of val ++ c.as_slice.result.now) held.1
          ∙ ap (λ m. held.0 ++ m) c.as_slice.ensures.value)),
    )
