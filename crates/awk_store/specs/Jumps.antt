-- Statements that leave what is left to be done (POSIX.1-2017 XCU awk, "Actions").
use Rattle.awk_machine.specs.Pieces.{Piece, Faulted, ends}
use Rattle.awk_machine.specs.State.{Given}
use Rattle.awk_machine.specs.Statements.{to_records, after_exit}
use Rattle.awk_streams.specs.declared.halt.Halt.{Halt}
use Rattle.awk_streams.specs.declared.halt.Halt.TheVariants as halt
use Rattle.awk_store.specs.States.{phase_of}
use Rattle.awk_store.specs.Wholes.{Whole}
use Rattle.awk_store.specs.Acts.{Passes}

-- from its piece the run is halted so: a jump takes no memory, no step and no request
abbrev pub Jumps : Given → Piece → Whole → Halt → Whole → Type 0
Jumps g p old (halt.Fault fault place) new = Passes g p old (λ k. ends (Faulted fault place)) new
Jumps g p old halt.Next new = Passes g p old to_records new
Jumps g p old halt.Exit new = Passes g p old (λ k. after_exit (phase_of new.0.phase)) new
Jumps g p old other new = ⊥
