-- How a statement ends that is not halted, and what is left to be done then (POSIX.1-2017 XCU awk, "Actions").
use Rattle.std.specs.Prelude.{List}
use Rattle.awk_text.specs.declared.value.Value.TheVariants as v
use Rattle.awk_machine.specs.Pieces.{Piece}
use Rattle.awk_machine.specs.Statements.{after_break, after_continue, to_leave, leave_with}
use Rattle.awk_streams.specs.declared.flow.Flow.{Flow}
use Rattle.awk_streams.specs.declared.flow.Flow.TheVariants as flow

abbrev pub flows : Flow → List Piece → List Piece
flows flow.On k = k
flows flow.Break k = after_break k
flows flow.Continue k = after_continue k
flows flow.Return k = to_leave k
flows (flow.ReturnNumber n) k = leave_with (v.Num n) (to_leave k)
flows (flow.ReturnValue x) k = leave_with x.value (to_leave k)
