use Rattle.std.proofs.Common.{sym, ap, ◌∙◌}
use Rattle.box_world.specs.Events.{Named, Standard, OperandFile}
use Rattle.awk_machine.specs.State.{Main}
use Rattle.awk_store.specs.Inputs.{key_of}
use Rattle.awk_input.proofs.main_input.takes_line.Goals as goal

pub returns-in-Standard-clause-taken : goal.returns-in-Standard-clause-taken
returns-in-Standard-clause-taken c = λ t.
    record {
      key = Standard 0;
      going = sym (ap (λ (x : Main). x.ended) c.main-main.ensures) ∙ c.if-main.false;
      current = sym (ap (λ (x : Main). x.current) c.main-main.ensures) ∙ ap key_of c.in-Standard.is;
      line = rw c.in-Some.ensures at (c.take_standard_line.ensures.taken t);
    }

pub returns-in-Operand-clause-taken : goal.returns-in-Operand-clause-taken
returns-in-Operand-clause-taken c = λ t.
    record {
      key = Named OperandFile c.in-Operand.text;
      going = sym (ap (λ (x : Main). x.ended) c.main-main.ensures) ∙ c.if-main.false;
      current = sym (ap (λ (x : Main). x.current) c.main-main.ensures) ∙ ap key_of c.in-Operand.is;
      line = rw (c.bytes.ensures, c.in-Some.ensures) at (c.take_line.ensures.taken t);
    }
