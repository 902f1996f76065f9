-- How a statement's end ends a list of statements, or a loop (POSIX.1-2017 XCU awk, "Actions").
use Rattle.std.specs.Prelude.{Bool, true, false, Option, Some, None}
use Rattle.awk_streams.specs.declared.flow.Flow.{Flow}
use Rattle.awk_streams.specs.declared.flow.Flow.TheVariants as flow

-- the next statement follows
abbrev pub is_on : Flow → Bool
is_on flow.On = true
is_on flow.Break = false
is_on flow.Continue = false
is_on flow.Return = false
is_on (flow.ReturnNumber n) = false
is_on (flow.ReturnValue x) = false

-- how the loop ends that is around it, if it ends
abbrev pub end_of : Flow → Option Flow
end_of flow.On = None
end_of flow.Break = Some flow.On
end_of flow.Continue = None
end_of flow.Return = Some flow.Return
end_of (flow.ReturnNumber n) = Some (flow.ReturnNumber n)
end_of (flow.ReturnValue x) = Some (flow.ReturnValue x)
