use Rattle.std.proofs.Common.{map, refl, sym}
use Rattle.awk_program.specs.Program.{joins_of}
use Rattle.awk_program.specs.View.{view, view_joined}
use Rattle.awk_program.proofs.Views.{view-Concat}
use Rattle.awk_machine.specs.Forms.{value}
use Rattle.awk_machine.specs.Pieces.{give}
use Rattle.awk_store.specs.Acts.{Passes}
use Rattle.awk_store.specs.Wholes.{names_in}
use Rattle.awk_text.specs.declared.value.Value.TheVariants as v
use Rattle.awk_builtins.proofs.Grown.{holds_text, operands_first}
use Rattle.awk_builtins.proofs.at_hand.growth.text_to_grow.Goals as goal

pub returns-clause-begins : goal.returns-clause-begins
returns-clause-begins c = λ g t.
    let holds = c.in_ok-text.ensures.text in
    let read : Passes g (value (view (names_in g) c.get.result.now)) (c.args.store.now, t)
    (give (v.Text c.in_ok-text.text)) (c.args.store.now, t) =
    c.operand_of.ensures c.args.store.now (v.Text c.in_ok-text.text) refl (λ m u. holds_text m (c.args.store.now, u) c.args.to
    (view (names_in m) c.operand_of.result.now) c.in_ok-text.text c.in_ok-text.ensures.nf
    (c.reads_variable.ensures c.if-not-reads_variable.false (names_in m)) holds) g t in
    rw (c.in-Concat.is, view-Concat, sym c.get.ensures, c.as_slice.ensures)
    (operands_first g (c.args.store.now, t) (view (names_in g) c.get.result.now)
    (joins_of (map (view_joined (names_in g)) c.in-Concat.rest)) (v.Text c.in_ok-text.text) read)
