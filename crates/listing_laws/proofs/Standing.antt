-- What holds of the pieces of a run, so that each request is covered: each piece is a part of the program, and a part
-- whose operand is a constant has that constant's text once it is there.
use Rattle.std.proofs.Common.{◌≡◌, ◌<◌, ℕ, Bool, true, false, List, [], ◌∷◌, length, drop, reverse}
use Rattle.std.specs.Prelude.{Option, Some, None}
use Rattle.awk_text.specs.declared.place.Place.{Place}
use Rattle.awk_text.specs.declared.value.Value.{Value}
use Rattle.awk_text.specs.Values.{text_of}
use Rattle.awk_program.specs.Slots.{Text}
use Rattle.awk_program.specs.Program as p
use Rattle.awk_program.specs.Program.{Expression, Pipes, Statement}
use Rattle.awk_program.specs.declared.statements.Redirection.{Redirection}
use Rattle.box_policy.specs.declared.policy.Kind.TheVariants.{Read, Run, Env, Assign}
use Rattle.box_world.specs.declared.ask.Reply.{Reply}
use Rattle.box_world.specs.Events.{Standard, Shuts, Want, Wish, request_of}
use Rattle.box_monitor.specs.Subjects.{Subject, kind_of, subject_of}
use Rattle.awk_machine.specs.Builtins.{first}
use Rattle.awk_machine.specs.Getline.{input_mode}
use Rattle.awk_machine.specs.Pieces as m
use Rattle.awk_machine.specs.Pieces.{Loop, Part, Value_of, Target_of, Pattern_of, Terms_of, Texts_of, Ands_of, Ors_of}
use Rattle.awk_machine.specs.Pieces.{Members_of, Pipes_of, Doing, Test, Turn, Leave, Records, Choosing, Task, Piece, At}
use Rattle.awk_machine.specs.Pieces.{Do, Next, Goes, Steps, Asks, Seeks, Over}
use Rattle.awk_machine.specs.Questions.{Answer}
use Rattle.awk_machine.specs.State.{Given}
use Rattle.box_listing.specs.declared.site.Site.{Site}
use Rattle.box_listing.specs.declared.site.Found.{Found}
use Rattle.box_listing.specs.declared.site.Found.TheVariants as found
use Rattle.box_listing.specs.Listings.{at_start}
use Rattle.box_listing.specs.Sites as s
use Rattle.listing_laws.specs.Covers.{Covers}

-- the sites that are listed
abbrev pub Listed : Type 1
Listed = Site → Type 0

-- ---- what is found is listed

abbrev pub Holds : Listed → Found → Type 0
Holds S found.MainInput = S (at_start Read) × S (at_start Assign)
Holds S (found.At site) = S site

abbrev pub Sub : Listed → List Found → Type 0
Sub S [] = Unit {0}
Sub S (x ∷ xs) = Holds S x × Sub S xs

-- ---- what is wanted is covered; what covers a word that was given has no text

abbrev pub Wanted : Listed → Place → Bool → Option Subject → Type 0
Wanted S place given None = Unit {0}
Wanted S place given (Some subject) = (site : Site) × S site × Covers site place subject
    × (given ≡ true → site.text ≡ None)

-- besides, no standard stream is shut
abbrev pub WantedBy : Listed → Place → Bool → Wish → Type 0
WantedBy S place given (Shuts (Standard n)) = ⊥
WantedBy S place given wish = Wanted S place given (subject_of (request_of wish []))

abbrev pub IsWanted : Listed → Want → Type 0
IsWanted S w = WantedBy S w.place w.given w.wish

-- ---- values that are known

abbrev pub Says : Option Text → Value → Type 0
Says None v = Unit {0}
Says (Some text) v = text_of v ≡ text

-- what a piece hands to the one below it: nothing, or a value, of which this is known
pub data Hands : Type 0 where
  nothing : Hands
  hands : Option Text → Hands

abbrev pub handed_by : Part → Hands
handed_by (Value_of x) = hands (s.constant x)
handed_by (Target_of r) = hands None
handed_by (Pattern_of y) = hands None
handed_by (Terms_of xs) = hands None
handed_by (Texts_of xs) = hands None
handed_by (Ands_of xs) = hands None
handed_by (Ors_of xs) = hands None
handed_by (Members_of as_) = hands None
handed_by (Pipes_of xs) = hands None
handed_by (Doing x) = nothing
handed_by (Test x) = nothing
handed_by (Turn x) = nothing
handed_by (Leave locals n) = hands None
handed_by Records = nothing
handed_by (Choosing n x) = nothing

abbrev pub done_by : Task → Hands
done_by (m.Give v) = hands None
done_by (m.Get to) = hands None
done_by (m.Set to place v) = nothing
done_by (m.Whole place text) = nothing
done_by (m.Rebuild place vs) = nothing
done_by (m.Check place text) = nothing
done_by (m.Match source text) = hands None
done_by (m.Locate source text) = hands None
done_by (m.Located ms) = hands None
done_by (m.Substitute place to source new old all) = hands None
done_by (m.Replace place to new old ms) = hands None
done_by (m.Split place a by text) = hands None
done_by (m.Fill place a texts) = hands None
done_by (m.Call place f xs vs) = hands None
done_by m.Step = nothing
done_by (m.Start x) = nothing
done_by (m.Each xs) = nothing
done_by (m.Keys place a x rest) = nothing
done_by (m.Open place mode class text) = nothing
done_by (m.Put place key text) = nothing
done_by (m.Read place key) = hands None
done_by (m.Fetch place class text) = hands None
done_by (m.Count place name) = nothing
done_by (m.Close place text so_far) = hands None
done_by (m.Run place text) = hands None
done_by m.Take = hands None
done_by m.Operand = nothing
done_by m.Look = nothing
done_by (m.Begun key text) = nothing
done_by (m.Report what name) = nothing
done_by (m.Forget key) = nothing
done_by (m.Past key) = nothing
done_by (m.Environ names) = nothing
done_by (m.Enter phase) = nothing
done_by (m.Rules n xs) = nothing
done_by m.Finish = nothing
done_by (m.Closing o) = nothing

-- ---- a part is listed

abbrev pub LoopKept : Listed → Loop → Type 0
LoopKept S x = Sub S (s.optional x.test) × Sub S (s.done x.body) × Sub S (s.optional x.step)

abbrev pub Kept : Listed → Part → Type 0
Kept S (Value_of x) = Sub S (s.value x)
Kept S (Target_of r) = Sub S (s.target r)
Kept S (Pattern_of y) = Sub S (s.ere y)
Kept S (Terms_of xs) = Sub S (s.terms xs)
Kept S (Texts_of xs) = Sub S (s.joins xs)
Kept S (Ands_of xs) = Sub S (s.each xs)
Kept S (Ors_of xs) = Sub S (s.each xs)
Kept S (Members_of as_) = Unit {0}
Kept S (Pipes_of xs) = Unit {0}
Kept S (Doing x) = Sub S (s.done x)
Kept S (Test x) = LoopKept S x
Kept S (Turn x) = LoopKept S x
Kept S (Leave locals n) = Unit {0}
Kept S Records = Holds S found.MainInput
Kept S (Choosing n x) = Sub S (s.rule x)

-- ---- what is known of the values that a part has, the newest first

-- the file of a getline: its second value, until the record comes
abbrev pub Second : Option Text → Value → List Value → Type 0
Second c v [] = Unit {0}
Second c v (at ∷ []) = Says c v
Second c v (w ∷ at ∷ vs) = Unit {0}

-- the first argument of a built-in function
abbrev pub oldest : Value → List Value → Value
oldest v [] = v
oldest v (w ∷ vs) = oldest w vs

abbrev pub Called : Expression → Value → List Value → Type 0
Called (p.getline_file place r x) v vs = Second (s.constant x) v vs
Called (p.builtin place which xs) v vs = Says (s.first_constant xs) (oldest v vs)
Called other v vs = Unit {0}

-- the target of a redirection: the value behind those of the items
abbrev pub Named : ℕ → Option (Redirection Expression) → List Value → Type 0
Named n None vs = Unit {0}
Named n (Some r) vs = n < length vs → Says (s.constant r.target) (first (drop n (reverse vs)))

abbrev pub Printed : Statement → List Value → Type 0
Printed (p.print place xs r) vs = Named (length xs) r vs
Printed (p.printf place x xs r) vs = Named (length (x ∷ xs)) r vs
Printed other vs = Unit {0}

-- the command of a chain: its first value, until the record comes
abbrev pub Command : Option Text → Value → List Value → Type 0
Command c x [] = Says c x
Command c at (x ∷ []) = Says c x
Command c v (at ∷ x ∷ vs) = Unit {0}

abbrev pub Piping : Listed → Pipes → Value → List Value → Type 0
Piping S xs v vs = (c : Option Text) × Sub S (s.pipes c xs) × Command c v vs

abbrev pub Has : Listed → Part → Value → List Value → Type 0
Has S (Value_of x) v vs = Called x v vs
Has S (Pipes_of xs) v vs = Piping S xs v vs
Has S (Doing x) v vs = Printed x (v ∷ vs)
Has S other v vs = Unit {0}

-- the rest of a chain has a value always
abbrev pub Begins : Part → Type 0
Begins (Terms_of xs) = ⊥
Begins (Texts_of xs) = ⊥
Begins (Ands_of xs) = ⊥
Begins (Ors_of xs) = ⊥
Begins (Members_of as_) = ⊥
Begins (Pipes_of xs) = ⊥
Begins other = Unit {0}

abbrev pub Knows : Listed → Part → List Value → Type 0
Knows S part [] = Begins part
Knows S part (v ∷ vs) = Has S part v vs

-- the same once the piece above has handed what it hands
abbrev pub KnowsBy : Listed → Hands → Part → List Value → Type 0
KnowsBy S nothing part vs = Knows S part vs
KnowsBy S (hands c) part vs = (v : Value) → Says c v → Has S part v vs

-- ---- a task is fit

abbrev pub EnvironFit : Listed → List Text → Type 0
EnvironFit S [] = Unit {0}
EnvironFit S (name ∷ names) = S (at_start Env)

abbrev pub Fit : Listed → Task → Type 0
Fit S (m.Start x) = Sub S (s.done x)
Fit S (m.Each xs) = Sub S (s.all_done xs)
Fit S (m.Keys place a x rest) = Sub S (s.done x)
Fit S (m.Open place mode class text) = Wanted S place false (Some (record { kind = kind_of mode; text = text }))
Fit S (m.Fetch place class text) =
    Wanted S place false (Some (record { kind = kind_of (input_mode class); text = text }))
Fit S (m.Run place text) = Wanted S place false (Some (record { kind = Run; text = text }))
Fit S m.Take = Holds S found.MainInput
Fit S m.Operand = Holds S found.MainInput
Fit S m.Look = Holds S found.MainInput
Fit S (m.Environ names) = EnvironFit S names
Fit S (m.Rules n xs) = Sub S (s.rules xs)
Fit S other = Unit {0}

-- ---- all pieces

abbrev pub Stack : Listed → Hands → List Piece → Type 0
Stack S e [] = Unit {0}
Stack S e (At part vs ∷ k) = Kept S part × KnowsBy S e part vs × Stack S (handed_by part) k
Stack S e (Do task ∷ k) = Fit S task × Stack S (done_by task) k

abbrev pub Ready : Listed → List Piece → Type 0
Ready S k = Stack S nothing k

-- a move keeps it so, and what it asks for is covered
abbrev pub Keeps : Listed → Next → Type 0
Keeps S (Goes k t) = Ready S k
Keeps S (Steps k t) = Ready S k
Keeps S (Asks w then_ t) = IsWanted S w × ((r : Reply) → Ready S (then_ r))
Keeps S (Seeks q then_ t) = (a : Answer) → Ready S (then_ a)
Keeps S (Over o) = Unit {0}

-- the whole program is listed
pub record Whole (S : Listed) (g : Given) : Type 0 where
  pub records : Sub S (s.records g.program.rules g.program.end)
  pub begin : Sub S (s.actions g.program.begin)
  pub rules : Sub S (s.rules g.program.rules)
  pub end : Sub S (s.actions g.program.end)
  pub functions : Sub S (s.functions g.program.functions)
  pub environ : g.names_environ ≡ true → S (at_start Env)
