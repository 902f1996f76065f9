-- For the rows of the definition: running it, moves one after the other, over replies that are given.
use Rattle.std.specs.Prelude.{ℕ, zero, suc, ℤ, pos, negsuc, nat_le, nat_lt, Bool, true, false, not, ◌&&◌, List, [], ◌∷◌}
use Rattle.std.specs.Prelude.{length, map, is_some, Option, Some, None}
use Rattle.std.specs.List.{slice_split}
use Rattle.awk_ere.specs.Pattern.{Pattern}
use Rattle.awk_fields.specs.Separators.{Separator, blanks, nothing, byte, ere}
use Rattle.awk_fields.specs.Fields.{words, separates, separating, between}
use Rattle.awk_fields.specs.Rows.{Held, unsplit, known, input}
use Rattle.awk_program.specs.Slots.{Text}
use Rattle.box_world.specs.Calls.{Call, is_among, open_after}
use Rattle.box_world.specs.Events.{Want, Event, calls, open_streams, request_of}
use Rattle.box_world.specs.declared.ask.Reply.{Reply}
use Rattle.box_world.specs.declared.ask.Reply.TheVariants as reply
use Rattle.box_world.specs.declared.ask.Request.{Request}
use Rattle.box_world.specs.declared.ask.Request.TheVariants.{Open, Next, Put, Shut, System, Env, Assign}
use Rattle.awk_machine.specs.Advances.{advance}
use Rattle.awk_machine.specs.Begins as begins
use Rattle.awk_machine.specs.Begins.{first_pieces, first_state}
use Rattle.awk_machine.specs.Pieces.{Piece, Next as Move, Goes, Steps, Asks, Seeks, Over, Outcome}
use Rattle.awk_machine.specs.Questions as q
use Rattle.awk_machine.specs.Questions.{Question, Answer, Is, Places, Texts, These}
use Rattle.awk_machine.specs.State.{State, Course, Given}
use Rattle.awk_machine.specs.Streams.{seen, with_step, with_event}
use Rattle.row_calls.proofs.Matching.{pattern_of, find, all, separators}

-- ---- answers

abbrev pub first_alone : Option (ℕ × ℕ) → List (ℕ × ℕ)
first_alone None = []
first_alone (Some m) = m ∷ []

abbrev pub found_in : Text → Bool → Option Pattern → List (ℕ × ℕ)
found_in text is_all None = []
found_in text true (Some p) = all text p
found_in text false (Some p) = first_alone (find text p 0)

abbrev pub is_found : Text → Option Pattern → Bool
is_found text None = false
is_found text (Some p) = is_some (find text p 0)

abbrev pub cut_by : Text → Bool → Option Pattern → List Text
cut_by s newline None = []
cut_by s newline (Some p) = between s 0 (separators s (separating newline p))

abbrev pub parts_of : Separator → Text → List Text
parts_of separator [] = []
parts_of blanks (b ∷ s) = words (b ∷ s)
parts_of nothing (b ∷ s) = map (λ c. c ∷ []) (b ∷ s)
parts_of (byte c newline) (b ∷ s) = slice_split (separates c newline) (b ∷ s)
parts_of (ere source newline) (b ∷ s) = cut_by (b ∷ s) newline (pattern_of source)

abbrev pub fields_of : Text → Held → Answer
fields_of whole (known found) = These found
fields_of whole (unsplit separator) = These (map input (parts_of separator whole))

abbrev pub answer_to : Question → Answer
answer_to (q.Spells source) = Is (is_some (pattern_of source))
answer_to (q.Matches source text) = Is (is_found text (pattern_of source))
answer_to (q.Finds source text is_all) = Places (found_in text is_all (pattern_of source))
answer_to (q.Divides separator text) = Texts (parts_of separator text)
answer_to (q.Fields row) = fields_of row.whole row.fields

-- ---- whether a reply is one that the request may have, where these numbers are open

abbrev opening : List ℕ → Reply → Bool
opening ns (reply.Opened n) = nat_le 3 n && not (is_among ns n)
opening ns reply.Failed = true
opening ns other = false

abbrev reading : Reply → Bool
reading (reply.Bytes bytes) = nat_lt 0 (length bytes)
reading reply.End = true
reading reply.Failed = true
reading other = false

abbrev doing : Reply → Bool
doing reply.Done = true
doing reply.Failed = true
doing other = false

abbrev status : ℤ → Bool
status (pos n) = nat_le n 256
status (negsuc n) = false

abbrev shutting : Reply → Bool
shutting reply.Done = true
shutting (reply.Status s) = status s
shutting reply.Failed = true
shutting other = false

abbrev running : Reply → Bool
running (reply.Status s) = status s
running reply.Failed = true
running other = false

abbrev valuing : Reply → Bool
valuing (reply.Value text) = true
valuing reply.Failed = true
valuing other = false

abbrev pub fitting : List ℕ → Request → Reply → Bool
fitting ns (Open mode text) r = opening ns r
fitting ns (Next n) r = reading r
fitting ns (Put n bytes) r = doing r
fitting ns (Shut n) r = shutting r
fitting ns (System text) r = running r
fitting ns (Env name) r = valuing r
fitting ns (Assign name text) r = doing r

abbrev pub fits : List Event → Want → Reply → Bool
fits es w r = fitting (open_after (calls es) []) (request_of w.wish (open_streams es)) r

-- ---- a run: its outcome, its steps, and its calls of the world, the oldest first

abbrev pub Replaying : Type 0
Replaying = List Piece → State → Course → List Reply → Option (Outcome × ℕ × List Call)

-- a reply that does not fit plays nothing
abbrev pub answered : Bool → Replaying → List Piece → State → Course → List Reply → Option (Outcome × ℕ × List Call)
answered true go k t c rs = go k t c rs
answered false go k t c rs = None

abbrev pub met : Replaying → Move → Course → List Reply → Option (Outcome × ℕ × List Call)
met go (Goes k t) c rs = go k (seen t c) c rs
met go (Steps k t) c rs = go k (seen t (with_step c)) (with_step c) rs
met go (Asks w then_ t) c [] = None
met go (Asks w then_ t) c (r ∷ rs) = answered (fits c.events w r) go (then_ r) (seen t (with_event w r c))
    (with_event w r c) rs
met go (Seeks question then_ t) c rs = go (then_ (answer_to question)) (seen t c) c rs
met go (Over outcome) c rs = Some (outcome, c.used, calls c.events)

abbrev pub replay : ℕ → Given → Replaying
replay zero g k s c rs = None
replay (suc n) g k s c rs = met (replay n g) (advance g k (seen s c)) c rs

abbrev pub replayed : ℕ → Given → List Reply → Option (Outcome × ℕ × List Call)
replayed n g rs = replay n g (first_pieces g) (first_state g) begins.nothing rs

-- ---- the questions on EREs that a run asks: what answers them here is claimed to be right of none of them

abbrev pub of_ere : Separator → Text → Bool
of_ere separator [] = false
of_ere blanks (b ∷ s) = false
of_ere nothing (b ∷ s) = false
of_ere (byte c newline) (b ∷ s) = false
of_ere (ere source newline) (b ∷ s) = true

abbrev pub of_row : Text → Held → Bool
of_row whole (known found) = false
of_row whole (unsplit separator) = of_ere separator whole

abbrev pub is_of_ere : Question → Bool
is_of_ere (q.Spells source) = true
is_of_ere (q.Matches source text) = true
is_of_ere (q.Finds source text is_all) = true
is_of_ere (q.Divides separator text) = of_ere separator text
is_of_ere (q.Fields row) = of_row row.whole row.fields

abbrev pub Questioning : Type 0
Questioning = List Piece → State → Course → List Reply → List Question

abbrev pub with_question : Bool → Question → List Question → List Question
with_question true question rest = question ∷ rest
with_question false question rest = rest

abbrev pub asked_of : Questioning → Move → Course → List Reply → List Question
asked_of go (Goes k t) c rs = go k (seen t c) c rs
asked_of go (Steps k t) c rs = go k (seen t (with_step c)) (with_step c) rs
asked_of go (Asks w then_ t) c [] = []
asked_of go (Asks w then_ t) c (r ∷ rs) = go (then_ r) (seen t (with_event w r c)) (with_event w r c) rs
asked_of go (Seeks question then_ t) c rs = with_question (is_of_ere question) question
    (go (then_ (answer_to question)) (seen t c) c rs)
asked_of go (Over outcome) c rs = []

abbrev pub questions : ℕ → Given → Questioning
questions zero g k s c rs = []
questions (suc n) g k s c rs = asked_of (questions n g) (advance g k (seen s c)) c rs

abbrev pub questions_of : ℕ → Given → List Reply → List Question
questions_of n g rs = questions n g (first_pieces g) (first_state g) begins.nothing rs
