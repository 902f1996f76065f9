-- What a move leads to, once its steps are counted against the bound and its requests are held against the streams that
-- are open: so that these hold of every run, whatever the language asks for.
use Rattle.std.specs.Prelude.{Option, Some, None, option_map, nat_lt, if◌then◌else◌, List, [], ◌∷◌}
use Rattle.box_world.specs.declared.ask.Reply.{Reply}
use Rattle.box_world.specs.declared.ask.Reply.TheVariants.{Opened, Failed}
use Rattle.box_world.specs.Events.{Key, Named, Wish, Opens, Reads, Writes, Shuts, Want, Event, Stream, find_stream}
use Rattle.box_world.specs.Events.{open_streams}
use Rattle.awk_machine.specs.Moves.{move}
use Rattle.awk_machine.specs.Pieces.{nowhere, Piece, Outcome, Cut, Next, Goes, Steps, Asks, Seeks, Over, ends}
use Rattle.awk_machine.specs.State.{State, Given}
use Rattle.awk_machine.specs.Streams.{is_live, with_taken, want}

-- ---- requests: what is open is not opened again, and what is not open fails unasked

abbrev pub unless_live : Key → List Event → Option Reply
unless_live key es = if is_live key es then None else Some Failed

-- the reply that is known without a request
abbrev pub known : Wish → List Event → Option Reply
known (Opens mode class text) es = option_map Opened (find_stream class text (open_streams es))
known (Reads key) es = unless_live key es
known (Writes key bytes) es = unless_live key es
known (Shuts key) es = unless_live key es
known wish es = None

-- of a stream that is opened nothing was taken
abbrev pub afresh : Wish → State → State
afresh (Opens mode class text) s = with_taken (Named class text) 0 s
afresh wish s = s

abbrev pub asked_by : Option Reply → Want → (Reply → List Piece) → State → Next
asked_by (Some reply) w then_ s = Goes (then_ reply) s
asked_by None w then_ s = Asks w then_ (afresh w.wish s)

abbrev pub asked : List Event → Want → (Reply → List Piece) → State → Next
asked es w then_ s = asked_by (known w.wish es) w then_ s

-- ---- the end: first the streams that are open are shut in order of opening, and the replies change nothing

abbrev pub over_by : List Stream → Outcome → State → Next
over_by [] outcome s = Over outcome
over_by (x ∷ xs) outcome s = asked s.course.events (want nowhere (Shuts (Named x.class x.text))) (λ r. ends outcome) s

-- ---- a move, held against them; where no step is left, the run is cut

abbrev pub held : Given → State → Next → Next
held g s (Goes k t) = Goes k t
held g s (Steps k t) = if nat_lt s.course.used g.bound then Steps k t else Goes (ends Cut) t
held g s (Asks w then_ t) = asked s.course.events w then_ t
held g s (Seeks q then_ t) = Seeks q then_ t
held g s (Over outcome) = over_by (open_streams s.course.events) outcome s

abbrev pub advance : Given → List Piece → State → Next
advance g k s = held g s (move g k s)
