use Rattle.std.proofs.Common.{◌≤◌, ◌<◌, ℕ, List, Some, length}
use Rattle.awk_ere.specs.Pattern.{repeat}
use Rattle.awk_ere.specs.Program.{Compiles, Copies, Joins, IsReady}
use Rattle.awk_ere.specs.View.{pattern}
use Rattle.awk_ere.specs.declared.node.Node.{size-Node}
use Rattle.awk_ere.specs.declared.program.Instruction.{Instruction}
use Rattle.awk_ere.proofs.compile.+compile.Given as goal

abbrev pub invariant-compile-loop-rest : goal.invariant-compile-loop-rest
invariant-compile-loop-rest l = record {
  no_deeper : size-Node l.rest ≤ size-Node l.fn.node;
  ready : IsReady l.program.items l.at;
  leads : (new : List Instruction) (e : ℕ) → Compiles l.program.items new e (λ sets. pattern sets l.rest) l.at
      → Compiles l.fn.program.items new e (λ sets. pattern sets l.fn.node) l.fn.next;
}

abbrev pub invariant-compile_before-loop-rest : goal.invariant-compile_before-loop-rest
invariant-compile_before-loop-rest l = record {
  no_deeper : size-Node l.rest ≤ size-Node l.fn.node;
  ready : IsReady l.program.items l.fn.next;
  inside : l.at < length l.program.items;
  leads : (new : List Instruction) (e : ℕ) → Joins l.program.items new e (λ sets. pattern sets l.rest) l.at l.fn.next
      → Joins l.fn.program.items new e (λ sets. pattern sets l.fn.node) l.fn.others l.fn.next;
}

abbrev pub invariant-compile_copies-loop-i : goal.invariant-compile_copies-loop-i
invariant-compile_copies-loop-i l = Copies l.fn.program.items l.program.items l.at (λ sets. pattern sets l.node) l.i
    l.next

abbrev pub invariant-compile_options-loop-i : goal.invariant-compile_options-loop-i
invariant-compile_options-loop-i l = Compiles l.fn.program.items l.program.items l.at
    (λ sets. repeat (pattern sets l.node) 0 (Some l.i)) l.next
