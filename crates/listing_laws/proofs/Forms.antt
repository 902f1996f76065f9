-- Expressions: each form keeps what is listed, and asks for what is covered.
use Rattle.std.proofs.Common.{◌≡◌, ◌∙◌, ℕ, Bool, true, false, List, [], ◌∷◌, ◌++◌, length, refl, sym, ap, subst, arith}
use Rattle.std.specs.Prelude.{◌≤◌, Option, Some, None, if◌then◌else◌, slice_get, reverse, codes, nat_lt, Result, Ok}
use Rattle.std.specs.Prelude.{Err}
use Rattle.std.proofs.lemmas.List.{reverse-append, length-reverse}
use Rattle.std.specs.Str.{bytes_eq}
use Rattle.awk_numbers.specs.declared.number.Number.{Number}
use Rattle.awk_numbers.specs.declared.random.Random.{Random}
use Rattle.awk_text.specs.declared.fault.Fault.{Fault}
use Rattle.awk_text.specs.declared.place.Place.{Place}
use Rattle.awk_text.specs.declared.value.Value.{Value}
use Rattle.awk_text.specs.declared.value.Value.TheVariants as v
use Rattle.awk_text.specs.Values.{text_of, number_of, of_number, truth}
use Rattle.awk_program.specs.Slots.{Text}
use Rattle.awk_program.specs.Program as p
use Rattle.awk_program.specs.Program.{Expression, Expressions, Ere, Terms, Joins, Pipes, Arguments}
use Rattle.awk_program.specs.declared.builtins.Builtin.{Builtin}
use Rattle.awk_program.specs.declared.builtins.Builtin.TheVariants as b
use Rattle.awk_program.specs.declared.operators.Operator.{Operator}
use Rattle.awk_program.specs.declared.operators.Extent.{Extent}
use Rattle.awk_program.specs.declared.operators.Step.{Step}
use Rattle.awk_program.specs.declared.operators.StepValue.{StepValue}
use Rattle.box_policy.specs.declared.policy.Kind.TheVariants.{Read, Run}
use Rattle.box_world.specs.Events.{InputFile, Standard}
use Rattle.awk_machine.specs.Builtins as built
use Rattle.awk_machine.specs.Calls as calls
use Rattle.awk_machine.specs.Expressions as e
use Rattle.awk_machine.specs.Forms as f
use Rattle.awk_machine.specs.Forms.{value, spot, source, listed, keyed}
use Rattle.awk_machine.specs.Getline as g
use Rattle.awk_machine.specs.Operators as operators
use Rattle.awk_machine.specs.Operators.{of_truth, computed, limited}
use Rattle.awk_machine.specs.Pieces as m
use Rattle.awk_machine.specs.Pieces.{Part, Value_of, Target_of, Terms_of, Texts_of, Ands_of, Ors_of, Members_of}
use Rattle.awk_machine.specs.Pieces.{Pipes_of, Piece, At, Do, Goes, Then, give, granted}
use Rattle.awk_machine.specs.State.{State}
use Rattle.awk_machine.specs.Targets.{target, store}
use Rattle.awk_machine.specs.Variables.{own_text, by_convfmt}
use Rattle.awk_fields.specs.Rows.{joined}
use Rattle.awk_fields.specs.Separators.{separator}
use Rattle.box_listing.specs.Sites as s
use Rattle.listing_laws.proofs.Standing.{Listed, Sub, Says, hands, done_by, oldest, Fit, Knows, Stack, Ready, Keeps}
use Rattle.listing_laws.proofs.Steps.{Each, Perhaps, at_index, has_text, front, back, each_listed, at_site, weaken}
use Rattle.listing_laws.proofs.Steps.{hand, push_value, push_target, push_pattern, through, delivered, one, two, each}
use Rattle.listing_laws.proofs.Steps.{either, ready_if, looked, came}

-- ---- the first of the values that came

first_of_both : (xs ys : List Value) → 1 ≤ length xs → built.argument (xs ++ ys) 0 ≡ built.argument xs 0
first_of_both [] ys some = absurd (omega (arith, some))
first_of_both (x ∷ xs) ys some = refl

oldest_first : (v : Value) (vs : List Value) → built.argument (reverse (v ∷ vs)) 0 ≡ oldest v vs
oldest_first v [] = refl
oldest_first v (w ∷ vs) =
    ap (λ z. built.argument z 0) (reverse-append (v ∷ []) (w ∷ vs))
    ∙ first_of_both (reverse (w ∷ vs)) (v ∷ []) (let n = length-reverse (w ∷ vs) in
    omega (arith, n)) ∙ oldest_first w vs

-- ---- arguments of a call

abbrev pub IsArgument : Listed → calls.Argument → Type 0
IsArgument S (calls.by_value x) = Sub S (s.value x)
IsArgument S (calls.by_name a) = Unit {0}
IsArgument S calls.by_nothing = Unit {0}

module _ (S : Listed) where
  arguments : (xs : Arguments) → Sub S (s.arguments xs) → Each (IsArgument S) (calls.arguments xs)
  arguments p.no_arguments h = tt
  arguments (p.by_value x xs) h = (
    front S (s.value x) (s.arguments xs) h,
    arguments xs (back S (s.value x) (s.arguments xs) h),
  )
  arguments (p.by_name a xs) h = (tt, arguments xs h)
  arguments (p.by_nothing xs) h = (tt, arguments xs h)

  called : (place : Place) (n : ℕ) (xs : Arguments) (o : Option calls.Argument) (vs : List Value) (k : List Piece)
      (t : State) → Perhaps (IsArgument S) o → Sub S (s.arguments xs) →
      Stack S (hands None) k → Keeps S (calls.next_argument place n xs o vs k t)
  called place n xs (Some (calls.by_value x)) vs k t h sub rest = push_value S x (Value_of (p.call place n xs)) vs k h
      sub (λ y says. tt) rest
  called place n xs (Some (calls.by_name a)) vs k t h sub rest = (sub, tt, rest)
  called place n xs (Some calls.by_nothing) vs k t h sub rest = (sub, tt, rest)
  called place n xs None vs k t h sub rest = (tt, (tt, rest))

  -- ---- getline with a file

  fetched_by : (b : Bool) (c : Option Text) (place : Place) (name : Value) (k : List Piece)
      → bytes_eq (text_of name) (codes "-") ≡ b → Sub S (s.reading place c) → Says c name →
      Stack S (hands None) k
      → Ready S (if b then Do (m.Read place (Standard 0)) ∷ k else Do (m.Fetch place InputFile (text_of name)) ∷ k)
  fetched_by true c place name k is h says rest = (tt, rest)
  fetched_by false None place name k is h says rest = (at_site S place Read None (text_of name) h tt, rest)
  fetched_by false (Some text) place name k is h says rest =
      let e : bytes_eq text (codes "-") ≡ false = ap (λ z. bytes_eq z (codes "-")) (sym says) ∙ is in
      let i : Sub S (s.site place Read (Some text)) =
      subst (λ b. Sub S (if b then [] else s.site place Read (Some text))) e h in
      (at_site S place Read (Some text) (text_of name) i (sym says), rest)

  fetched : (c : Option Text) (place : Place) (name : Value) (k : List Piece) → Sub S (s.reading place c) → Says c name
      → Stack S (hands None) k → Ready S (g.fetch_file place (text_of name) k)
  fetched c place name k h says rest = fetched_by (bytes_eq (text_of name) (codes "-")) c place name k refl h says rest

  from_file : (place : Place) (r : p.Reference) (x : Expression) (vs : List Value) (k : List Piece) (t : State)
      → Sub S (s.value (p.getline_file place r x)) →
      Knows S (Value_of (p.getline_file place r x)) vs → Stack S (hands None) k
      → Keeps S (g.getline_file place r x (Value_of (p.getline_file place r x)) vs k t)
  from_file place r x [] k t h n rest =
      let i = back S (s.reading place (s.constant x)) (s.target r ++ s.value x) h in
      push_target S r (Value_of (p.getline_file place r x)) [] k (front S (s.target r) (s.value x) i) h (λ y says. tt)
      rest
  from_file place r x (at ∷ []) k t h n rest =
      let i = back S (s.reading place (s.constant x)) (s.target r ++ s.value x) h in
      push_value S x (Value_of (p.getline_file place r x)) (at ∷ []) k (back S (s.target r) (s.value x) i) h
      (λ y says. says) rest
  from_file place r x (name ∷ at ∷ []) k t h n rest =
      fetched (s.constant x) place name (At (Value_of (p.getline_file place r x)) (name ∷ at ∷ []) ∷ k)
      (front S (s.reading place (s.constant x)) (s.target r ++ s.value x) h) n
      (h, λ y says. tt, rest)
  from_file place r x (w ∷ name ∷ at ∷ vs) k t h n rest = came S place (target r at) [] w k t rest

  -- ---- built-in functions: an argument that comes next, and what is done once all are there

  next_known : (xs : Expressions) (x : Expression) (y : Value) (place : Place) (which : Builtin) (vs : List Value)
      → slice_get (listed xs) (length vs) ≡ Some x →
      Knows S (Value_of (p.builtin place which xs)) vs → Says (s.constant x) y
      → Says (s.first_constant xs) (oldest y vs)
  next_known p.none x y place which [] e n says = absurd (cc)
  next_known (p.more z xs) x y place which [] e n says =
      let same : x ≡ z = cc in subst (λ u. Says (s.constant u) y) same says
  next_known xs x y place which (w ∷ vs) e n says = n

  all_known : (xs : Expressions) (place : Place) (which : Builtin) (vs : List Value) → slice_get (listed xs) (length vs)
      ≡ None →
      Knows S (Value_of (p.builtin place which xs)) vs → Says (s.first_constant xs) (built.argument (reverse vs) 0)
  all_known p.none place which [] e n = tt
  all_known (p.more z xs) place which [] e n = absurd (cc)
  all_known xs place which (w ∷ vs) e n = subst (λ u. Says (s.first_constant xs) u) (sym (oldest_first w vs)) n

  abbrev Fits : built.Effect → Type 0
  Fits (built.Gives made) = Unit {0}
  Fits (built.Leaves task) = Fit S task × (done_by task ≡ hands None)
  Fits (built.Turns x random) = Unit {0}

  seeding : (seed : Result (Option Number) Fault) (random : Random) → Fits (built.seeds seed random)
  seeding (Ok seed) random = tt
  seeding (Err fault) random = tt

  fitting : (place : Place) (which : Builtin) (xs : Expressions) (vs : List Value) (t : State)
      → Sub S (s.asked place which xs) → Says (s.first_constant xs) (built.argument vs 0)
      → Fits (built.effect place which vs t)
  fitting place b.Close xs vs t h says = (tt, refl)
  fitting place b.Srand xs vs t h says = seeding (built.seed_in t.numbers vs) t.random
  fitting place b.System xs vs t h says = (
    at_site S place Run (s.first_constant xs) (built.text_at vs 0) h
        (has_text (s.first_constant xs) (built.argument vs 0) says),
    refl,
  )
  fitting place which xs vs t h says = tt

  taken : (place : Place) (e : built.Effect) (k : List Piece) (t : State) → Fits e → Stack S (hands None) k
      → Keeps S (built.taking place e k t)
  taken place (built.Gives made) k t h rest = delivered S place made k t rest
  taken place (built.Leaves task) k t h rest = (h.0, subst (λ d. Stack S d k) (sym h.1) rest)
  taken place (built.Turns x random) k t h rest = hand S None x k tt rest

  comes : (place : Place) (which : Builtin) (xs : Expressions) (o : Option Expression) (vs : List Value)
      (k : List Piece) (t : State) → slice_get (listed xs) (length vs) ≡ o → Perhaps (λ x. Sub S (s.value x)) o →
      Sub S (s.value (p.builtin place which xs)) → Knows S (Value_of (p.builtin place which xs)) vs
      → Stack S (hands None) k →
      Keeps S (f.each_by o (Value_of (p.builtin place which xs)) (built.called place which) vs k t)
  comes place which xs (Some x) vs k t e h sub n rest = push_value S x (Value_of (p.builtin place which xs)) vs k h sub
      (λ y says. next_known xs x y place which vs e n says) rest
  comes place which xs None vs k t e h sub n rest =
      taken place (built.effect place which (reverse vs) t) k t (fitting place which xs (reverse vs) t
      (front S (s.asked place which xs) (s.each xs) sub) (all_known xs place which vs e n)) rest

  -- ---- chains

  pub terms : (xs : Terms) (vs : List Value) (k : List Piece) (t : State) → Sub S (s.terms xs)
      → Knows S (Terms_of xs) vs → Stack S (hands None) k → Keeps S (e.terms xs vs k t)
  terms xs [] k t h n rest = absurd n
  terms p.no_terms (x ∷ vs) k t h n rest = hand S None x k tt rest
  terms (p.term how place y xs) (x ∷ []) k t h n rest =
      push_value S y (Terms_of (p.term how place y xs)) (x ∷ []) k (front S (s.value y) (s.terms xs) h) h (λ y says. tt)
      rest
  terms (p.term how place y xs) (z ∷ x ∷ vs) k t h n rest =
      through S place (computed t.numbers how x z) (λ made k t. Goes (At (Terms_of xs) (made ∷ []) ∷ k) t) k t
      (λ made. (back S (s.value y) (s.terms xs) h, tt, rest))

  pub texts : (xs : Joins) (vs : List Value) (k : List Piece) (t : State) → Sub S (s.joins xs)
      → Knows S (Texts_of xs) vs → Stack S (hands None) k → Keeps S (e.texts xs vs k t)
  texts xs [] k t h n rest = absurd n
  texts p.no_joins (x ∷ vs) k t h n rest = hand S None x k tt rest
  texts (p.join place y xs) (x ∷ []) k t h n rest = push_value S y (Texts_of (p.join place y xs)) (x ∷ []) k
      (front S (s.value y) (s.joins xs) h) h (λ y says. tt) rest
  texts (p.join place y xs) (z ∷ x ∷ vs) k t h n rest =
      through S place (limited (text_of x ++ text_of z)) (λ text k t. Goes (At (Texts_of xs) (v.Text text ∷ []) ∷ k) t)
      k t (λ text. (back S (s.value y) (s.joins xs) h, tt, rest))

  pub ands : (xs : Expressions) (vs : List Value) (k : List Piece) (t : State) → Sub S (s.each xs)
      → Knows S (Ands_of xs) vs → Stack S (hands None) k → Keeps S (e.ands xs vs k t)
  ands xs [] k t h n rest = absurd n
  ands p.none (x ∷ vs) k t h n rest = hand S None (of_truth (truth t.numbers x)) k tt rest
  ands (p.more y xs) (x ∷ vs) k t h n rest =
      either S x _ _ t (push_value S y (Ands_of xs) [] k (front S (s.value y) (s.each xs) h)
      (back S (s.value y) (s.each xs) h) (λ y says. tt) rest) (hand S None (of_truth false) k tt rest)

  pub ors : (xs : Expressions) (vs : List Value) (k : List Piece) (t : State) → Sub S (s.each xs)
      → Knows S (Ors_of xs) vs → Stack S (hands None) k → Keeps S (e.ors xs vs k t)
  ors xs [] k t h n rest = absurd n
  ors p.none (x ∷ vs) k t h n rest = hand S None (of_truth (truth t.numbers x)) k tt rest
  ors (p.more y xs) (x ∷ vs) k t h n rest =
      either S x _ _ t (hand S None (of_truth true) k tt rest)
      (push_value S y (Ors_of xs) [] k (front S (s.value y) (s.each xs) h) (back S (s.value y) (s.each xs) h)
      (λ y says. tt) rest)

  pub members : (as_ : List p.Variable) (vs : List Value) (k : List Piece) (t : State) → Knows S (Members_of as_) vs
      → Stack S (hands None) k → Keeps S (e.members as_ vs k t)
  members as_ [] k t n rest = absurd n
  members [] (x ∷ vs) k t n rest = hand S None x k tt rest
  members (a ∷ as_) (x ∷ vs) k t n rest = (tt, tt, rest)

  pub pipes : (xs : Pipes) (vs : List Value) (k : List Piece) (t : State) → Knows S (Pipes_of xs) vs
      → Stack S (hands None) k → Keeps S (g.pipe xs vs k t)
  pipes xs [] k t n rest = absurd n
  pipes p.no_pipes (x ∷ vs) k t n rest = hand S None x k tt rest
  pipes (p.piped place r xs) (x ∷ []) k t n rest =
      push_target S r (Pipes_of (p.piped place r xs)) (x ∷ []) k (front S (s.target r) (s.pipes None xs) n.1.1) tt
      (λ at says. (n.0, n.1, n.2)) rest
  pipes (p.piped place r xs) (at ∷ x ∷ []) k t n rest =
      (at_site S place Run n.0 (text_of x) (n.1.0, tt) (has_text n.0 x n.2), (tt, λ y says. (n.0, n.1, tt), rest))
  pipes (p.piped place r xs) (w ∷ at ∷ x ∷ vs) k t n rest =
      came S place (target r at) (codes "NR" ∷ []) w (At (Pipes_of xs) [] ∷ k) t
      (tt, λ y says. (None, back S (s.target r) (s.pipes None xs) n.1.1, tt), rest)

  -- ---- what is read or set, and patterns

  pub targets : (r : p.Reference) (vs : List Value) (k : List Piece) (t : State) → Sub S (s.target r)
      → Stack S (hands None) k → Keeps S (e.step_target r vs k t)
  targets (p.variable a) vs k t h rest = hand S None v.Unset k tt rest
  targets (p.element place a xs) vs k t h rest =
      each S (listed xs) (Target_of (p.element place a xs)) _ vs k t (each_listed S xs h) h (λ x. tt) rest
      (λ ws. through S place (limited (joined (own_text t (codes "SUBSEP")) ws)) (λ text. f.answer (v.Text text)) k t
      (λ text. hand S None (v.Text text) k tt rest))
  targets (p.field place x) vs k t h rest =
      one S (value x) (Target_of (p.field place x)) _ vs k t (push_value S x (Target_of (p.field place x)) [] k h h
      (λ y says. tt) rest) (λ n. delivered S place _ k t rest)

  pub patterns : (y : Ere) (k : List Piece) (t : State) → Sub S (s.ere y) → Stack S (hands None) k
      → Keeps S (f.pattern y k t)
  patterns (p.constant place x) k t h rest = (tt, (tt, rest))
  patterns (p.computed x) k t h rest = (h, tt, weaken S (s.constant x) k rest)

  -- ---- assignments

  changed : (place : Place) (how : Operator) (r : p.Reference) (x : Expression) (vs : List Value) (k : List Piece)
      (t : State) → Sub S (s.target r ++ s.value x) →
      Stack S (hands None) k → Keeps S (e.change place how r x (Value_of (p.change place how r x)) vs k t)
  changed place how r x [] k t h rest = push_target S r (Value_of (p.change place how r x)) [] k
      (front S (s.target r) (s.value x) h) h (λ y says. tt) rest
  changed place how r x (at ∷ []) k t h rest = push_value S x (Value_of (p.change place how r x)) (at ∷ []) k
      (back S (s.target r) (s.value x) h) h (λ y says. tt) rest
  changed place how r x (y ∷ at ∷ []) k t h rest = (tt, (h, λ y says. tt, rest))
  changed place how r x (old ∷ y ∷ at ∷ vs) k t h rest = through S place (computed t.numbers how old y)
      (store (target r at) place) k t (λ made. (tt, (tt, rest)))

  abbrev put : Place → StepValue → p.Reference → Value → Number → Number → Then
  put place which r at old new k t =
      Goes (Do (m.Set (target r at) place (of_number new)) ∷ Do (m.Give (e.either which old new)) ∷ k) t

  stepped : (place : Place) (how : Step) (which : StepValue) (r : p.Reference) (vs : List Value) (k : List Piece)
      (t : State) → Sub S (s.target r) → Stack S (hands None) k →
      Keeps S (e.step place how which r (Value_of (p.step place how which r)) vs k t)
  stepped place how which r [] k t h rest = push_target S r (Value_of (p.step place how which r)) [] k h h
      (λ y says. tt) rest
  stepped place how which r (at ∷ []) k t h rest = (tt, (h, λ y says. tt, rest))
  stepped place how which r (x ∷ at ∷ vs) k t h rest =
      through S place (number_of t.numbers x)
      (λ old k s. granted place (operators.stepped s.numbers how old) (put place which r at old) k s) k t
      (λ old. through S place (operators.stepped t.numbers how old) (put place which r at old) k t
      (λ new. (tt, (tt, rest))))

  -- ---- substitution and split

  substituted : (place : Place) (how : Extent) (x : Ere) (y : Expression) (r : p.Reference) (vs : List Value)
      (k : List Piece) (t : State) →
      Sub S (s.ere x ++ (s.value y ++ s.target r)) → Stack S (hands None) k
      → Keeps S (built.substitute place how x y r (Value_of (p.substitute place how x y r)) vs k t)
  substituted place how x y r [] k t h rest =
      push_pattern S x (Value_of (p.substitute place how x y r)) [] k (front S (s.ere x) (s.value y ++ s.target r) h) h
      (λ y says. tt) rest
  substituted place how x y r (pattern ∷ []) k t h rest =
      push_value S y (Value_of (p.substitute place how x y r)) (pattern ∷ []) k
      (front S (s.value y) (s.target r) (back S (s.ere x) (s.value y ++ s.target r) h)) h (λ y says. tt) rest
  substituted place how x y r (new ∷ pattern ∷ []) k t h rest =
      push_target S r (Value_of (p.substitute place how x y r)) (new ∷ pattern ∷ []) k
      (back S (s.value y) (s.target r) (back S (s.ere x) (s.value y ++ s.target r) h)) h (λ y says. tt) rest
  substituted place how x y r (at ∷ new ∷ pattern ∷ []) k t h rest = looked S x place (text_of pattern) _
      (tt, (h, λ y says. tt, rest))
  substituted place how x y r (old ∷ at ∷ new ∷ pattern ∷ vs) k t h rest =
      through S place (by_convfmt t old)
      (λ shown k s. Goes (Do (m.Substitute place (target r at) (text_of pattern) (text_of new) (text_of shown)
      (built.is_all how)) ∷ k) s) k t
      (λ shown. (tt, rest))

  parted : (y : Ere) (place at : Place) (a : p.Variable) (text by : Text) (k : List Piece) → Stack S (hands None) k
      → Ready S (built.split_by y place at a text by k)
  parted (p.constant q x) place at a text by k rest = (tt, rest)
  parted (p.computed x) place at a text by k rest =
      let i : Ready S (Do (m.Split at a (separator by false) text) ∷ k) = (tt, rest) in
      ready_if S (nat_lt 1 (length by)) (Do (m.Check place by) ∷ Do (m.Split at a (separator by false) text) ∷ k)
      (Do (m.Split at a (separator by false) text) ∷ k) (tt, i) i

  -- ---- all forms

  pub values : (x : Expression) (vs : List Value) (k : List Piece) (t : State) → Sub S (s.value x)
      → Knows S (Value_of x) vs → Stack S (hands (s.constant x)) k →
      Keeps S (e.step_value x (Value_of x) vs k t)
  values (p.number z) vs k t h n rest = hand S None (of_number z) k tt rest
  values (p.text x) vs k t h n rest = hand S (Some x) (v.Text x) k refl rest
  values (p.pattern place x) vs k t h n rest = (tt, (tt, rest))
  values (p.read r) vs k t h n rest = one S (spot r) _ _ vs k t (push_target S r (Value_of (p.read r)) [] k h h
      (λ y says. tt) rest) (λ at. (tt, rest))
  values (p.assign place r x) vs k t h n rest =
      two S (spot r) (value x) _ _ vs k t (push_target S r (Value_of (p.assign place r x)) [] k
      (front S (s.target r) (s.value x) h) h (λ y says. tt) rest)
      (λ at. push_value S x (Value_of (p.assign place r x)) (at ∷ []) k (back S (s.target r) (s.value x) h) h
      (λ y says. tt) rest) (λ at new. (tt, (tt, rest)))
  values (p.change place how r x) vs k t h n rest = changed place how r x vs k t h rest
  values (p.step place how which r) vs k t h n rest = stepped place how which r vs k t h rest
  values (p.not x) vs k t h n rest = one S (value x) _ _ vs k t (push_value S x (Value_of (p.not x)) [] k h h
      (λ y says. tt) rest) (λ y. hand S None _ k tt rest)
  values (p.signed place how x) vs k t h n rest =
      one S (value x) _ _ vs k t (push_value S x (Value_of (p.signed place how x)) [] k h h (λ y says. tt) rest)
      (λ y. delivered S place _ k t rest)
  values (p.as_text place x) vs k t h n rest =
      one S (value x) _ _ vs k t (push_value S x (Value_of (p.as_text place x)) [] k h h (λ y says. tt) rest)
      (λ y. delivered S place _ k t rest)
  values (p.chain x xs) vs k t h n rest = push_value S x (Terms_of xs) [] k (front S (s.value x) (s.terms xs) h)
      (back S (s.value x) (s.terms xs) h) (λ y says. tt) rest
  values (p.concat x xs) vs k t h n rest = push_value S x (Texts_of xs) [] k (front S (s.value x) (s.joins xs) h)
      (back S (s.value x) (s.joins xs) h) (λ y says. tt) rest
  values (p.compare place how x y) vs k t h n rest =
      two S (value x) (value y) _ _ vs k t (push_value S x (Value_of (p.compare place how x y)) [] k
      (front S (s.value x) (s.value y) h) h (λ y says. tt) rest)
      (λ z. push_value S y (Value_of (p.compare place how x y)) (z ∷ []) k (back S (s.value x) (s.value y) h) h
      (λ y says. tt) rest) (λ z u. delivered S place _ k t rest)
  values (p.matched place x y) vs k t h n rest =
      two S (value x) (source y) _ _ vs k t (push_value S x (Value_of (p.matched place x y)) [] k
      (front S (s.value x) (s.ere y) h) h (λ y says. tt) rest)
      (λ z. push_pattern S y (Value_of (p.matched place x y)) (z ∷ []) k (back S (s.value x) (s.ere y) h) h
      (λ y says. tt) rest) (λ z u. looked S y place (text_of u) _ (tt, rest))
  values (p.member x as_) vs k t h n rest = push_value S x (Members_of as_) [] k h tt (λ y says. tt) rest
  values (p.group place xs as_) vs k t h n rest =
      each S (listed xs) (Value_of (p.group place xs as_)) _ vs k t (each_listed S xs h) h (λ y. tt) rest
      (λ ws. through S place (limited (joined (own_text t (codes "SUBSEP")) ws))
      (λ key k t. Goes (At (Members_of as_) (v.Text key ∷ []) ∷ k) t) k t (λ text. (tt, tt, rest)))
  values (p.and x xs) vs k t h n rest = push_value S x (Ands_of xs) [] k (front S (s.value x) (s.each xs) h)
      (back S (s.value x) (s.each xs) h) (λ y says. tt) rest
  values (p.or x xs) vs k t h n rest = push_value S x (Ors_of xs) [] k (front S (s.value x) (s.each xs) h)
      (back S (s.value x) (s.each xs) h) (λ y says. tt) rest
  values (p.choose x y z) vs k t h n rest =
      let i = back S (s.value x) (s.value y ++ s.value z) h in
      one S (value x) _ _ vs k t (push_value S x (Value_of (p.choose x y z)) [] k
      (front S (s.value x) (s.value y ++ s.value z) h) h (λ y says. tt) rest)
      (λ u. either S u _ _ t (front S (s.value y) (s.value z) i, tt, weaken S (s.constant y) k rest)
      (back S (s.value y) (s.value z) i, tt, weaken S (s.constant z) k rest))
  values (p.call place m xs) vs k t h n rest =
      called place m xs (slice_get (calls.arguments xs) (length vs)) vs k t
      (at_index (IsArgument S) (calls.arguments xs) (length vs) (arguments xs h)) h rest
  values (p.getline place r) [] k t h n rest = push_target S r (Value_of (p.getline place r)) [] k h.1 h (λ y says. tt)
      rest
  values (p.getline place r) (at ∷ []) k t h n rest = (h.0, (h, λ y says. tt, rest))
  values (p.getline place r) (w ∷ at ∷ vs) k t h n rest = came S place (target r at) g.main_counters w k t rest
  values (p.getline_file place r x) vs k t h n rest = from_file place r x vs k t h n rest
  values (p.pipe x xs) vs k t h n rest =
      push_value S x (Pipes_of xs) [] k (front S (s.value x) (s.pipes (s.constant x) xs) h) tt
      (λ y says. (s.constant x, back S (s.value x) (s.pipes (s.constant x) xs) h, says)) rest
  values (p.builtin place which xs) vs k t h n rest =
      comes place which xs (slice_get (listed xs) (length vs)) vs k t refl
      (at_index (λ x. Sub S (s.value x)) (listed xs) (length vs)
      (each_listed S xs (back S (s.asked place which xs) (s.each xs) h))) h n rest
  values (p.count a) vs k t h n rest = hand S None _ k tt rest
  values (p.locate place x y) vs k t h n rest =
      two S (value x) (source y) _ _ vs k t (push_value S x (Value_of (p.locate place x y)) [] k
      (front S (s.value x) (s.ere y) h) h (λ y says. tt) rest)
      (λ z. push_pattern S y (Value_of (p.locate place x y)) (z ∷ []) k (back S (s.value x) (s.ere y) h) h
      (λ y says. tt) rest) (λ z u. looked S y place (text_of u) _ (tt, rest))
  values (p.split place x at a y) vs k t h n rest =
      two S (value x) (source y) _ _ vs k t (push_value S x (Value_of (p.split place x at a y)) [] k
      (front S (s.value x) (s.ere y) h) h (λ y says. tt) rest)
      (λ z. push_pattern S y (Value_of (p.split place x at a y)) (z ∷ []) k (back S (s.value x) (s.ere y) h) h
      (λ y says. tt) rest)
      (λ z u. parted y place at a (text_of z) (text_of u) k rest)
  values (p.substitute place how x y r) vs k t h n rest = substituted place how x y r vs k t h rest
