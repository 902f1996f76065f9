-- Each request of a run is covered: so it is of each move, and from the first pieces on.
use Rattle.std.proofs.Common.{◌≡◌, ◌∙◌, ◌+◌, ℕ, Bool, true, false, List, [], ◌∷◌, ◌++◌, map, refl, sym, subst}
use Rattle.std.proofs.Common.{true≢false, append_assoc, arith}
use Rattle.std.specs.Prelude.{Option, Some, None, if◌then◌else◌, codes, nat_lt, All, Contains, filter}
use Rattle.std.proofs.lemmas.List.Elements.{All-nil, All-cons, Contains-append_left, Contains-append_right}
use Rattle.std.proofs.lemmas.List.Sorted.{Contains-permutation}
use Rattle.awk_text.specs.declared.place.Place.{Place}
use Rattle.awk_text.specs.Escapes.{unescaped}
use Rattle.awk_text.specs.declared.value.Value.{Value}
use Rattle.awk_text.specs.declared.value.Value.TheVariants as v
use Rattle.awk_program.specs.Slots.{Text}
use Rattle.awk_program.specs.Program.{Statement, Rule, Function, global}
use Rattle.box_policy.specs.declared.policy.Kind.TheVariants.{Read, Env, Assign}
use Rattle.box_world.specs.declared.ask.Reply.{Reply}
use Rattle.box_world.specs.Events.{Named, Wish, Opens, Reads, Writes, Shuts, Runs, Looks, Assigns, Want, Event, Stream}
use Rattle.box_world.specs.Events.{open_streams, request_of}
use Rattle.box_monitor.specs.Subjects.{subject_of}
use Rattle.awk_machine.specs.Advances.{known, asked_by, over_by, held}
use Rattle.awk_machine.specs.Begins as b
use Rattle.awk_machine.specs.Closing.{first_stream}
use Rattle.awk_machine.specs.Builtins.{first, status_of}
use Rattle.awk_machine.specs.Getline.{first_record}
use Rattle.awk_machine.specs.Moves.{do_part, do_task, move}
use Rattle.awk_machine.specs.Operators.{of_truth}
use Rattle.awk_machine.specs.Pieces as m
use Rattle.awk_machine.specs.Pieces.{nowhere, Part, Value_of, Target_of, Pattern_of, Terms_of, Texts_of, Ands_of}
use Rattle.awk_machine.specs.Pieces.{Ors_of, Members_of, Pipes_of, Doing, Test, Turn, Leave, Records, Choosing, Task}
use Rattle.awk_machine.specs.Pieces.{Piece, At, Do, Next, Goes, Steps, Asks, Seeks, Over, Outcome, Cut, ends}
use Rattle.awk_machine.specs.Plays.{Plays, Reaches, here, goes, steps, asks, seeks}
use Rattle.awk_machine.specs.Questions as q
use Rattle.awk_machine.specs.State.{State, Course, Given, Beginning, Ruling, Ending}
use Rattle.awk_machine.specs.Streams.{want, seen}
use Rattle.box_listing.specs.declared.site.Site.{Site}
use Rattle.box_listing.specs.declared.site.Sort.{Sort}
use Rattle.box_listing.specs.declared.site.Sort.TheVariants as sort
use Rattle.box_listing.specs.declared.site.Found.{Found}
use Rattle.box_listing.specs.declared.site.Found.TheVariants as found
use Rattle.box_listing.specs.Listings as l
use Rattle.box_listing.specs.Listings.{IsListing, at_start, sites_of}
use Rattle.box_listing.specs.Sites as s
use Rattle.listing_laws.specs.Covers.{IsCoveredAt, IsCovered, AllCovered}
use Rattle.listing_laws.proofs.Standing.{Listed, Holds, Sub, WantedBy, IsWanted, handed_by, done_by, Kept, Knows, Fit}
use Rattle.listing_laws.proofs.Standing.{EnvironFit, Stack, Ready, Keeps, Whole}
use Rattle.listing_laws.proofs.Steps.{front, back, both, hand, ended}
use Rattle.listing_laws.proofs.Forms.{values, targets, patterns, terms, texts, ands, ors, members, pipes}
use Rattle.listing_laws.proofs.Doing.{statements, tested, behind}
use Rattle.listing_laws.proofs.Tasks as t

module _ (S : Listed) where
  -- ---- moves

  part_keeps : (g : Given) (part : Part) (vs : List Value) (k : List Piece) (st : State) → Whole S g → Kept S part
      → Knows S part vs → Stack S (handed_by part) k → Keeps S (do_part g part vs k st)
  part_keeps g (Value_of x) vs k st w h n rest = values S x vs k st h n rest
  part_keeps g (Target_of r) vs k st w h n rest = targets S r vs k st h rest
  part_keeps g (Pattern_of y) vs k st w h n rest = patterns S y k st h rest
  part_keeps g (Terms_of xs) vs k st w h n rest = terms S xs vs k st h n rest
  part_keeps g (Texts_of xs) vs k st w h n rest = texts S xs vs k st h n rest
  part_keeps g (Ands_of xs) vs k st w h n rest = ands S xs vs k st h n rest
  part_keeps g (Ors_of xs) vs k st w h n rest = ors S xs vs k st h n rest
  part_keeps g (Members_of as_) vs k st w h n rest = members S as_ vs k st n rest
  part_keeps g (Pipes_of xs) vs k st w h n rest = pipes S xs vs k st n rest
  part_keeps g (Doing x) vs k st w h n rest = statements S x vs k st h n rest
  part_keeps g (Test x) vs k st w h n rest = tested S x.test x vs k st h.0 h rest
  part_keeps g (Turn x) vs k st w h n rest = behind S x.step x (Turn x) vs k st h.2 h h (λ y. tt) rest rest
  part_keeps g (Leave locals n) vs k st w h i rest = hand S None (first vs) k tt rest
  part_keeps g Records vs k st w h n rest = t.reads_records S g vs k st w h rest
  part_keeps g (Choosing n x) vs k st w h i rest = t.chooses S n x vs k st h rest

  task_keeps : (g : Given) (task : Task) (k : List Piece) (st : State) → Whole S g → Fit S task
      → Stack S (done_by task) k → Keeps S (do_task g task k st)
  task_keeps g (m.Give x) k st w fit rest = hand S None x k tt rest
  task_keeps g (m.Get from) k st w fit rest = t.gets S from k st rest
  task_keeps g (m.Set to place x) k st w fit rest = t.sets S to place x k st rest
  task_keeps g (m.Whole place text) k st w fit rest = t.wholes S place text k st rest
  task_keeps g (m.Rebuild place vs) k st w fit rest = t.rebuilds S place vs k st rest
  task_keeps g (m.Check place source) k st w fit rest = t.checks S place source k st rest
  task_keeps g (m.Match source text) k st w fit rest = λ a. hand S None (of_truth (q.yes a)) k tt rest
  task_keeps g (m.Locate source text) k st w fit rest = λ a. (tt, rest)
  task_keeps g (m.Located ms) k st w fit rest = t.locateds S ms k st rest
  task_keeps g (m.Substitute place to source new old all) k st w fit rest = λ a. (tt, rest)
  task_keeps g (m.Replace place to new old ms) k st w fit rest = t.replaces S place to new old ms k st rest
  task_keeps g (m.Split at a by text) k st w fit rest = λ a. (tt, rest)
  task_keeps g (m.Fill at a parts) k st w fit rest = t.fills S at a parts k st rest
  task_keeps g (m.Call place f xs vs) k st w fit rest = t.enters S g place f xs vs k st w rest
  task_keeps g m.Step k st w fit rest = rest
  task_keeps g (m.Start x) k st w fit rest = t.starts S x k st fit rest
  task_keeps g (m.Each xs) k st w fit rest = t.eaches S xs k st fit rest
  task_keeps g (m.Keys place a x keys) k st w fit rest = t.turns S place a x keys k st fit rest
  task_keeps g (m.Open place mode class text) k st w fit rest = t.opens S place mode class text k st fit rest
  task_keeps g (m.Put place key text) k st w fit rest = t.puts S place key text k st rest
  task_keeps g (m.Read place key) k st w fit rest = t.reads S place key (first_record key st) k st rest
  task_keeps g (m.Fetch place class text) k st w fit rest = t.fetches S place class text k st fit rest
  task_keeps g (m.Count place name) k st w fit rest = t.counts S place name k st rest
  task_keeps g (m.Close place text so_far) k st w fit rest =
      t.closes S place text so_far (first_stream text (open_streams st.course.events)) k st rest
  task_keeps g (m.Run place text) k st w fit rest = (fit, λ r. hand S None (status_of r) k tt rest)
  task_keeps g m.Take k st w fit rest = t.takes S k st fit rest
  task_keeps g m.Operand k st w fit rest = t.operands S k st fit rest
  task_keeps g m.Look k st w fit rest = t.looks S g k st fit rest
  task_keeps g (m.Begun key text) k st w fit rest = rest
  task_keeps g (m.Report what name) k st w fit rest = (tt, λ r. rest)
  task_keeps g (m.Forget key) k st w fit rest = rest
  task_keeps g (m.Past key) k st w fit rest = t.pasts S key k st rest
  task_keeps g (m.Environ names) k st w fit rest = t.environs S names k st fit rest
  task_keeps g (m.Enter phase) k st w fit rest = t.phases S g phase k st w rest
  task_keeps g (m.Rules n xs) k st w fit rest = t.rules S n xs k st fit rest
  task_keeps g m.Finish k st w fit rest = (tt, tt)
  task_keeps g (m.Closing outcome) k st w fit rest = tt

  pub keeps : (g : Given) (k : List Piece) (st : State) → Whole S g → Ready S k → Keeps S (move g k st)
  keeps g [] st w h = (tt, tt)
  keeps g (At part vs ∷ k) st w h = part_keeps g part vs k st w h.0 h.1 h.2
  keeps g (Do task ∷ k) st w h = task_keeps g task k st w h.0 h.1

  -- ---- held against what is open and the bound

  asked_keeps : (o : Option Reply) (w : Want) (then_ : Reply → List Piece) (st : State) → IsWanted S w
      → ((r : Reply) → Ready S (then_ r)) → Keeps S (asked_by o w then_ st)
  asked_keeps (Some r) w then_ st h i = i r
  asked_keeps None w then_ st h i = (h, i)

  over_keeps : (xs : List Stream) (o : Outcome) (st : State) → Keeps S (over_by xs o st)
  over_keeps [] o st = tt
  over_keeps (x ∷ xs) o st = asked_keeps (known (Shuts (Named x.class x.text)) st.course.events)
      (want nowhere (Shuts (Named x.class x.text))) (λ r. ends o) st tt (λ r. ended S o)

  step_keeps : (c : Bool) (k : List Piece) (st : State) → Ready S k
      → Keeps S (if c then Steps k st else Goes (ends Cut) st)
  step_keeps true k st h = h
  step_keeps false k st h = ended S Cut

  held_keeps : (g : Given) (st : State) (x : Next) → Keeps S x → Keeps S (held g st x)
  held_keeps g st (Goes k u) h = h
  held_keeps g st (Steps k u) h = step_keeps (nat_lt st.course.used g.bound) k u h
  held_keeps g st (Asks w then_ u) h = asked_keeps (known w.wish st.course.events) w then_ u h.0 h.1
  held_keeps g st (Seeks question then_ u) h = h
  held_keeps g st (Over o) h = over_keeps (open_streams st.course.events) o st

  -- ---- chains

  abbrev pub AllWanted : List Event → Type 0
  AllWanted [] = Unit {0}
  AllWanted (e ∷ es) = IsWanted S e.want × AllWanted es

  pub chained : {g : Given} {k n : List Piece} {st u : State} {c d : Course} → Whole S g → Reaches g k st c n u d
      → Ready S k → AllWanted c.events → AllWanted d.events
  chained w here h all = all
  chained {g = g} {k = k} {st = st} {c = c} w (goes {l = l} {t = u} e x) h all =
      chained w x (subst (λ z. Keeps S z) e (held_keeps g (seen st c) (move g k (seen st c))
      (keeps g k (seen st c) w h))) all
  chained {g = g} {k = k} {st = st} {c = c} w (steps {l = l} {t = u} e x) h all =
      chained w x (subst (λ z. Keeps S z) e (held_keeps g (seen st c) (move g k (seen st c))
      (keeps g k (seen st c) w h))) all
  chained {g = g} {k = k} {st = st} {c = c} w (asks {t = u} {w = v} {then_ = then_} r e fits x) h all =
      let i = subst (λ z. Keeps S z) e (held_keeps g (seen st c) (move g k (seen st c)) (keeps g k (seen st c) w h)) in
      chained w x (i.1 r) (i.0, all)
  chained {g = g} {k = k} {st = st} {c = c} w (seeks a e is x) h all =
      chained w x (subst (λ z. Keeps S z) e (held_keeps g (seen st c) (move g k (seen st c))
      (keeps g k (seen st c) w h)) a) all

  -- ---- the first pieces

  operands_ready : (n : ℕ) (xs : List Text) (k : List Piece) → Ready S k → Ready S (b.operands n xs ++ k)
  operands_ready n [] k h = (tt, h)
  operands_ready n (x ∷ xs) k h = (tt, operands_ready (n + 1) xs k h)

  separators_ready : (o : Option Text) (k : List Piece) → Ready S k → Ready S (b.separators o ++ k)
  separators_ready None k h = h
  separators_ready (Some text) k h = (tt, h)

  assigns_ready : (xs : List (Text × Text)) (k : List Piece) → Ready S k
      → Ready S (map (λ a. b.set_at_start (m.Variable (global a.0)) (v.Input (unescaped a.1))) xs ++ k)
  assigns_ready [] k h = h
  assigns_ready (x ∷ xs) k h = (tt, assigns_ready xs k h)

  environ_fit : (names : List Text) → S (at_start Env) → EnvironFit S names
  environ_fit [] h = tt
  environ_fit (name ∷ names) h = h

  environ_ready : (c : Bool) (names : List Text) → (c ≡ true → S (at_start Env))
      → EnvironFit S (if c then names else [])
  environ_ready true names h = environ_fit names (h refl)
  environ_ready false names h = tt

  first_ready : (g : Given) → Whole S g → Ready S (b.first_pieces g)
  first_ready g w =
      let rest : List Piece = Do (m.Environ (if g.names_environ then g.environment else [])) ∷ Do (m.Enter Beginning) ∷
      Do (m.Enter Ruling) ∷ Do (m.Enter Ending) ∷ [] in
      let h : Ready S rest = (environ_ready g.names_environ g.environment w.environ, (tt, (tt, (tt, tt)))) in
      let i : Ready S (b.operands 0 (codes "awk" ∷ g.operands) ++ (b.separators g.separator ++ (b.assigns g ++ rest))) =
      operands_ready 0 (codes "awk" ∷ g.operands) (b.separators g.separator ++ (b.assigns g ++ rest))
      (separators_ready g.separator (b.assigns g ++ rest) (assigns_ready (filter (λ a. g.can_assign a.0) g.assigns) rest
      h)) in
      let e = append_assoc (b.operands 0 (codes "awk" ∷ g.operands) ++ b.separators g.separator) (b.assigns g) rest
      ∙ append_assoc (b.operands 0 (codes "awk" ∷ g.operands)) (b.separators g.separator) (b.assigns g ++ rest) in
      subst (λ z. Ready S z) (sym e) i

  pub all_wanted : (g : Given) (events : List Event) (o : Outcome) (n : ℕ) (last : Option Want) → Whole S g
      → Plays g events o n last → AllWanted events
  all_wanted g events o n last w x = chained w x.chain (first_ready g w) tt

-- ---- the whole listing

module _ (sites : List Site) where
  abbrev pub Is : Listed
  Is site = Contains sites site

  held_main : (reads names : Bool) → ((site : Site) → Contains (l.started reads names) site → Contains sites site)
      → reads ≡ true → Holds Is found.MainInput
  held_main true names h e = (
    h (at_start Read) (0, omega arith, refl),
    h (at_start Assign) (Contains-append_right (l.if_so true Read) (l.if_so names Env ++ l.if_so true Assign)
        (at_start Assign)
        (Contains-append_right (l.if_so names Env) (l.if_so true Assign) (at_start Assign) (0, omega arith, refl))),
  )
  held_main false names h e = absurd (true≢false (sym e))

  held_environ : (reads names : Bool) → ((site : Site) → Contains (l.started reads names) site → Contains sites site)
      → names ≡ true → Contains sites (at_start Env)
  held_environ reads true h e =
      h (at_start Env) (Contains-append_right (l.if_so reads Read) (l.if_so true Env ++ l.if_so reads Assign)
      (at_start Env)
      (Contains-append_left (l.if_so true Env) (l.if_so reads Assign) (at_start Env) (0, omega arith, refl)))
  held_environ reads false h e = absurd (true≢false (sym e))

  all_held : (xs : List Found) → ((site : Site) → Contains (l.placed xs) site → Contains sites site)
      → (l.reads_main xs ≡ true → Holds Is found.MainInput) → Sub Is xs
  all_held [] h main = tt
  all_held (found.MainInput ∷ xs) h main = (main refl, all_held xs h (λ e. main refl))
  all_held (found.At site ∷ xs) h main = (
    h site (0, omega arith, refl),
    all_held xs (λ other c. h other (Contains-append_right (site ∷ []) (l.placed xs) other c)) main,
  )

  -- in whatever order, no item is left out
  all_items : (order : List Sort) (begin : List (List Statement)) (rs : List Rule) (end : List (List Statement))
      (fs : List Function) → Sub Is (s.items order begin rs end fs) →
      Sub Is (s.actions begin) × Sub Is (s.rules rs) × Sub Is (s.actions end) × Sub Is (s.functions fs)
  all_items [] begin rs end fs h =
      let i = back Is (s.actions begin) (s.rules rs ++ (s.actions end ++ s.functions fs)) h in
      let j = back Is (s.rules rs) (s.actions end ++ s.functions fs) i in (
        front Is (s.actions begin) (s.rules rs ++ (s.actions end ++ s.functions fs)) h,
        front Is (s.rules rs) (s.actions end ++ s.functions fs) i,
        front Is (s.actions end) (s.functions fs) j,
        back Is (s.actions end) (s.functions fs) j,
      )
  all_items (sort.Begin ∷ more) [] rs end fs h = all_items more [] rs end fs h
  all_items (sort.Begin ∷ more) (x ∷ begin) rs end fs h =
      let i = all_items more begin rs end fs (back Is (s.all_done x) (s.items more begin rs end fs) h) in (
        both Is (s.all_done x) (s.actions begin) (front Is (s.all_done x) (s.items more begin rs end fs) h) i.0,
        i.1,
        i.2,
        i.3,
      )
  all_items (sort.Rule ∷ more) begin [] end fs h = all_items more begin [] end fs h
  all_items (sort.Rule ∷ more) begin (x ∷ rs) end fs h =
      let i = all_items more begin rs end fs (back Is (s.rule x) (s.items more begin rs end fs) h) in
      (i.0, both Is (s.rule x) (s.rules rs) (front Is (s.rule x) (s.items more begin rs end fs) h) i.1, i.2, i.3)
  all_items (sort.End ∷ more) begin rs [] fs h = all_items more begin rs [] fs h
  all_items (sort.End ∷ more) begin rs (x ∷ end) fs h =
      let i = all_items more begin rs end fs (back Is (s.all_done x) (s.items more begin rs end fs) h) in (
        i.0,
        i.1,
        both Is (s.all_done x) (s.actions end) (front Is (s.all_done x) (s.items more begin rs end fs) h) i.2,
        i.3,
      )
  all_items (sort.Function ∷ more) begin rs end [] h = all_items more begin rs end [] h
  all_items (sort.Function ∷ more) begin rs end (f ∷ fs) h =
      let i = all_items more begin rs end fs (back Is (s.all_done f.body) (s.items more begin rs end fs) h) in (
        i.0,
        i.1,
        i.2,
        both Is (s.all_done f.body) (s.functions fs)
            (front Is (s.all_done f.body) (s.items more begin rs end fs) h) i.3,
      )

  whole : (g : Given) (order : List Sort) → IsListing g.program order g.names_environ sites → Whole Is g
  whole g order listing =
      let xs = s.found order g.program in
      let reads = l.reads_main xs in
      let into : (site : Site) → Contains (sites_of xs g.names_environ) site → Contains sites site =
      λ site c. Contains-permutation (sites_of xs g.names_environ) sites site listing.same c in
      let first_ones : (site : Site) → Contains (l.started reads g.names_environ) site → Contains sites site =
      λ site c. into site (Contains-append_left (l.started reads g.names_environ) (l.placed xs) site c) in
      let others : (site : Site) → Contains (l.placed xs) site → Contains sites site =
      λ site c. into site (Contains-append_right (l.started reads g.names_environ) (l.placed xs) site c) in
      let all = all_held xs others (held_main reads g.names_environ first_ones) in
      let i = all_items order g.program.begin g.program.rules g.program.end g.program.functions
      (back Is (s.records g.program.rules g.program.end) (s.items order g.program.begin g.program.rules g.program.end
      g.program.functions) all) in
      record {
        records = front Is (s.records g.program.rules g.program.end)
            (s.items order g.program.begin g.program.rules g.program.end g.program.functions) all;
        begin = i.0;
        rules = i.1;
        end = i.2;
        functions = i.3;
        environ = held_environ reads g.names_environ first_ones;
      }

  pub wanted : (g : Given) (order : List Sort) (events : List Event) (o : Outcome) (n : ℕ) (last : Option Want)
      → IsListing g.program order g.names_environ sites → Plays g events o n last → AllWanted Is events
  wanted g order events o n last listing x = all_wanted Is g events o n last (whole g order listing) x

  plain : (place : Place) (given : Bool) (wish : Wish) → WantedBy Is place given wish
      → IsCoveredAt sites place (subject_of (request_of wish []))
  plain place given (Opens mode class text) h = (h.0, h.1, h.2)
  plain place given (Reads key) h = tt
  plain place given (Writes key bytes) h = tt
  plain place given (Shuts key) h = tt
  plain place given (Runs command) h = (h.0, h.1, h.2)
  plain place given (Looks name) h = (h.0, h.1, h.2)
  plain place given (Assigns name text) h = (h.0, h.1, h.2)

  each_covered : (es : List Event) → AllWanted Is es → All (IsCovered sites) es
  each_covered [] h = All-nil (IsCovered sites)
  each_covered (e ∷ es) h = All-cons (IsCovered sites) e es (plain e.want.place e.want.given e.want.wish h.0)
      (each_covered es h.1)

pub all_covered : AllCovered
all_covered g order sites events o n last listing x =
    each_covered sites events (wanted sites g order events o n last listing x)
