-- Statements: each form keeps what is listed, and asks for what is covered.
use Rattle.std.proofs.Common.{◌≡◌, ◌∙◌, ◌<◌, ℕ, zero, suc, false, List, [], ◌∷◌, ◌++◌, length, drop, take, refl, sym}
use Rattle.std.proofs.Common.{ap, subst, arith}
use Rattle.std.specs.Prelude.{Option, Some, None, slice_get, reverse, codes, Result, pos, unsigned_abs}
use Rattle.std.specs.Int.{int_rem_euclid}
use Rattle.std.proofs.Math.Seq.{drop-append_seam}
use Rattle.std.proofs.lemmas.List.{reverse-append, length-reverse}
use Rattle.awk_text.specs.declared.place.Place.{Place}
use Rattle.awk_text.specs.declared.fault.Fault.{Fault}
use Rattle.awk_text.specs.declared.fault.Fault.TheVariants.{NextOutside}
use Rattle.awk_text.specs.declared.value.Value.{Value}
use Rattle.awk_text.specs.Arithmetic.{whole_of}
use Rattle.awk_text.specs.Values.{text_of, number_of}
use Rattle.awk_fields.specs.Rows.{joined}
use Rattle.awk_format.specs.Directives.{◌>>=◌}
use Rattle.awk_lib.specs.Arrays.{without}
use Rattle.awk_program.specs.Slots.{Text}
use Rattle.awk_program.specs.Program as p
use Rattle.awk_program.specs.Program.{Expression, Statement, Statements, statements_of, expressions_of}
use Rattle.awk_program.specs.declared.jumps.Jump.{Jump}
use Rattle.awk_program.specs.declared.jumps.Jump.TheVariants as jump
use Rattle.awk_program.specs.declared.operators.Redirect.{Redirect}
use Rattle.awk_program.specs.declared.operators.Redirect.TheVariants as to
use Rattle.awk_program.specs.declared.statements.Redirection.{Redirection}
use Rattle.box_monitor.specs.Subjects.{kind_of}
use Rattle.box_world.specs.Events.{Key}
use Rattle.awk_machine.specs.Builtins.{first, formatted_by}
use Rattle.awk_machine.specs.Forms.{value, each_by, if_true}
use Rattle.awk_machine.specs.Operators.{limited}
use Rattle.awk_machine.specs.Pieces as m
use Rattle.awk_machine.specs.Pieces.{Loop, Part, Value_of, Doing, Test, Turn, Leave, Records, Piece, At, Do, Goes, Then}
use Rattle.awk_machine.specs.Pieces.{Next, give, granted, ends}
use Rattle.awk_machine.specs.Printing.{print_by, printed, output, mode_of}
use Rattle.awk_machine.specs.State.{State, Phase, Beginning, Ruling, Ending}
use Rattle.awk_machine.specs.Statements as st
use Rattle.awk_machine.specs.Variables.{own_text, array, with_array}
use Rattle.box_listing.specs.Sites as s
use Rattle.listing_laws.proofs.Standing.{Listed, Sub, Wanted, Says, Hands, nothing, handed_by, LoopKept, Kept, Has}
use Rattle.listing_laws.proofs.Standing.{Knows, KnowsBy, Stack, Ready, Keeps}
use Rattle.listing_laws.proofs.Standing as standing
use Rattle.listing_laws.proofs.Steps.{Each, Perhaps, at_index, each_append, has_text, front, back, both, each_of_list}
use Rattle.listing_laws.proofs.Steps.{at_site, ended, push_value, through, one, each, either}

-- ---- the target of a redirection: the value behind those of the items

last_one : (xs : List Expression) (y : Expression) (i : ℕ) (x : Expression) → slice_get (xs ++ y ∷ []) i ≡ Some x
    → length xs < suc i → (i ≡ length xs) × (y ≡ x)
last_one [] y zero x e h = (refl, cc)
last_one [] y (suc i) x e h = absurd (cc)
last_one (z ∷ xs) y zero x e h = absurd (omega (arith, h))
last_one (z ∷ xs) y (suc i) x e h =
    let g : length xs < suc i = omega (arith, h) in
    let r = last_one xs y i x e g in
    (ap suc r.0, r.1)

past_all : (xs : List Expression) (y : Expression) (i : ℕ) → slice_get (xs ++ y ∷ []) i ≡ None → length xs < i
past_all [] y zero e = absurd (cc)
past_all [] y (suc i) e = omega arith
past_all (z ∷ xs) y zero e = absurd (cc)
past_all (z ∷ xs) y (suc i) e = let h = past_all xs y i e in omega (arith, h)

newest : (v : Value) (vs : List Value) → first (drop (length vs) (reverse (v ∷ vs))) ≡ v
newest v vs =
    ap (λ z. first (drop (length vs) z)) (reverse-append (v ∷ []) vs) ∙ ap (λ n. first (drop n (reverse vs ++ v ∷ [])))
    (sym (length-reverse vs))
    ∙ ap first (drop-append_seam (reverse vs) (v ∷ []))

same_kind : (how : Redirect) → s.kind_of how ≡ kind_of (mode_of how)
same_kind to.Write = refl
same_kind to.Append = refl
same_kind to.Command = refl

module _ (S : Listed) where
  -- ---- what is left after a jump

  pub after_break : (k : List Piece) → Ready S k → Ready S (st.after_break k)
  after_break (Do (m.Each xs) ∷ k) h = after_break k h.1
  after_break (At (Turn x) vs ∷ k) h = h.2
  after_break (Do (m.Keys place a x rest) ∷ k) h = h.1
  after_break other h = h

  pub after_continue : (k : List Piece) → Ready S k → Ready S (st.after_continue k)
  after_continue (Do (m.Each xs) ∷ k) h = after_continue k h.1
  after_continue other h = h

  pub to_leave : (k : List Piece) → Ready S k → Ready S (st.to_leave k)
  to_leave (Do (m.Each xs) ∷ k) h = to_leave k h.1
  to_leave (At (Turn x) vs ∷ k) h = to_leave k h.2
  to_leave (Do (m.Keys place a x rest) ∷ k) h = to_leave k h.1
  to_leave other h = h

  leave_with : (v : Value) (k : List Piece) → Ready S k → Ready S (st.leave_with v k)
  leave_with v (At (Leave locals n) vs ∷ k) h = (tt, tt, h.2)
  leave_with v other h = h

  pub to_records : (e : Hands) (k : List Piece) → Stack S e k → Ready S (st.to_records k)
  to_records e [] h = tt
  to_records e (At Records [] ∷ k) h = (h.0, tt, h.2)
  to_records e (At Records (v ∷ vs) ∷ k) h = (h.0, tt, h.2)
  to_records e (At part vs ∷ k) h = to_records (handed_by part) k h.2
  to_records e (Do task ∷ k) h = to_records (standing.done_by task) k h.1

  -- ---- print and printf

  -- the next item or the target is evaluated
  pushed : (xs : List Expression) (d : Redirection Expression) (part : Part) (vs : List Value) (k : List Piece)
      (x : Expression) → slice_get (xs ++ d.target ∷ []) (length vs) ≡ Some x →
      Sub S (s.value x) → Kept S part → ((y : Value) → standing.Named (length xs) (Some d) (y ∷ vs) → Has S part y vs)
      → Stack S (handed_by part) k →
      Ready S (At (Value_of x) [] ∷ At part vs ∷ k)
  pushed xs d part vs k x e sub kept has rest =
      push_value S x part vs k sub kept
      (λ y says. has y (λ h.
      let r = last_one xs d.target (length vs) x e h in
      let f : first (drop (length xs) (reverse (y ∷ vs))) ≡ y = subst (λ n. first (drop n (reverse (y ∷ vs))) ≡ y) r.0
      (newest y vs) in
      subst (λ z. Says (s.constant d.target) z) (sym f) (subst (λ z. Says (s.constant z) y) (sym r.1) says)))
      rest

  to_target : (place : Place) (d : Redirection Expression) (name : Value) (text : Text) (k : List Piece) (t : State)
      → Sub S (s.redirected d) → Says (s.constant d.target) name → Ready S k →
      Keeps S (output place (Some d) name text k t)
  to_target place d name text k t h says rest = (
    subst (λ kind. Wanted S d.place false (Some (record { kind = kind; text = text_of name }))) (same_kind d.how)
        (at_site S d.place (s.kind_of d.how) (s.constant d.target) (text_of name)
        (front S (s.site d.place (s.kind_of d.how) (s.constant d.target)) (s.value d.target) h)
        (has_text (s.constant d.target) name says)),
    (tt, rest),
  )

  redirected_by : (o : Option Expression) (text : State → List Value → Result Text Fault) (place : Place)
      (xs : List Expression) (d : Redirection Expression) (part : Part) (vs : List Value) (k : List Piece) (t : State) →
      slice_get (xs ++ d.target ∷ []) (length vs) ≡ o → Perhaps (λ x. Sub S (s.value x)) o → Sub S (s.redirected d)
      → Kept S part →
      ((y : Value) → standing.Named (length xs) (Some d) (y ∷ vs) → Has S part y vs)
      → standing.Named (length xs) (Some d) vs → Stack S (handed_by part) k → Ready S k →
      Keeps S (each_by o part (λ vs k s. granted place (text s (take (length xs) vs))
      (output place (Some d) (first (drop (length xs) vs))) k s) vs k t)
  redirected_by None text place xs d part vs k t e h sub kept has named rest ready =
      through S place (text t (take (length xs) (reverse vs)))
      (output place (Some d) (first (drop (length xs) (reverse vs)))) k t
      (λ made. to_target place d (first (drop (length xs) (reverse vs))) made k t sub
      (named (past_all xs d.target (length vs) e)) ready)
  redirected_by (Some x) text place xs d part vs k t e h sub kept has named rest ready =
      pushed xs d part vs k x e h kept has rest

  prints : (text : State → List Value → Result Text Fault) (place : Place) (xs : List Expression)
      (r : Option (Redirection Expression)) (part : Part) (vs : List Value) (k : List Piece) (t : State) →
      Each (λ x. Sub S (s.value x)) xs → Sub S (s.redirection r) → Kept S part →
      ((y : Value) → standing.Named (length xs) r (y ∷ vs) → Has S part y vs) → standing.Named (length xs) r vs
      → Stack S (handed_by part) k → Ready S k →
      Keeps S (print_by text place xs r part vs k t)
  prints text place xs None part vs k t h sub kept has named rest ready =
      each S (xs ++ []) part (λ vs k s. granted place (text s (take (length xs) vs))
      (output place None (first (drop (length xs) vs))) k s) vs k t
      (each_append (λ x. Sub S (s.value x)) xs [] h tt) kept
      (λ y. has y tt) rest (λ ws. through S place (text t (take (length xs) ws))
      (output place None (first (drop (length xs) ws))) k t (λ made. (tt, ready)))
  prints text place xs (Some d) part vs k t h sub kept has named rest ready =
      let i : Sub S (s.value d.target) = back S (s.site d.place (s.kind_of d.how) (s.constant d.target))
      (s.value d.target) sub in
      redirected_by (slice_get (xs ++ d.target ∷ []) (length vs)) text place xs d part vs k t refl
      (at_index (λ x. Sub S (s.value x)) (xs ++ d.target ∷ []) (length vs) (each_append (λ x. Sub S (s.value x)) xs
      (d.target ∷ []) h (i, tt))) sub kept has named rest ready

  -- the parts of the target are known of the values that are there
  known_of_print : (place : Place) (xs : List Expression) (r : Option (Redirection Expression)) (vs : List Value)
      → Knows S (Doing (p.print place xs r)) vs → standing.Named (length xs) r vs
  known_of_print place xs None vs n = tt
  known_of_print place xs (Some d) [] n = λ h. absurd (omega (arith, h))
  known_of_print place xs (Some d) (v ∷ vs) n = n

  known_of_printf : (place : Place) (x : Expression) (xs : List Expression) (r : Option (Redirection Expression))
      (vs : List Value) → Knows S (Doing (p.printf place x xs r)) vs →
      standing.Named (length (x ∷ xs)) r vs
  known_of_printf place x xs None vs n = tt
  known_of_printf place x xs (Some d) [] n = λ h. absurd (omega (arith, h))
  known_of_printf place x xs (Some d) (v ∷ vs) n = n

  -- ---- lists of statements

  pub in_order : (xs : Statements) → Sub S (s.each_done xs) → Sub S (s.all_done (st.in_order xs))
  in_order p.no_more h = tt
  in_order (p.then_also x xs) h =
      both S (s.done x) (s.all_done (st.in_order xs)) (front S (s.done x) (s.each_done xs) h)
      (in_order xs (back S (s.done x) (s.each_done xs) h))

  -- ---- loops

  pub tested : (o : Option Expression) (x : Loop) (vs : List Value) (k : List Piece) (t : State) → Sub S (s.optional o)
      → LoopKept S x → Ready S k → Keeps S (st.test o x vs k t)
  tested None x vs k t h loop rest = (loop.1, (loop, tt, rest))
  tested (Some y) x vs k t h loop rest =
      one S (value y) (Test x) (λ v k s. if_true v (st.body x k) k s) vs k t (push_value S y (Test x) [] k h loop
      (λ y says. tt) rest)
      (λ v. either S v (st.body x k) k t (loop.1, (loop, tt, rest)) rest)

  pub behind : (o : Option Expression) (x : Loop) (part : Part) (vs : List Value) (k : List Piece) (t : State)
      → Sub S (s.optional o) → LoopKept S x → Kept S part →
      ((y : Value) → Has S part y []) → Stack S (handed_by part) k → Ready S k → Keeps S (st.then_test o x part vs k t)
  behind None x part vs k t h loop kept has below rest = (loop, tt, rest)
  behind (Some y) x part vs k t h loop kept has below rest =
      one S (value y) part (λ v k s. Goes (At (Test x) [] ∷ k) s) vs k t
      (push_value S y part [] k h kept (λ y says. has y) below) (λ v. (loop, tt, rest))

  -- ---- the end of an action, and of a call

  exits : (phase : Phase) → Ready S (st.after_exit phase)
  exits Beginning = (tt, tt)
  exits Ruling = (tt, tt)
  exits Ending = (tt, tt)

  nexts : (phase : Phase) (place : Place) (k : List Piece) (t : State) → Ready S k → Keeps S (st.next phase place k t)
  nexts Beginning place k t rest = ended S (m.Faulted NextOutside place)
  nexts Ruling place k t rest = to_records nothing k rest
  nexts Ending place k t rest = ended S (m.Faulted NextOutside place)

  skipped : (current : Option Key) (k : List Piece) → Ready S k → Ready S (st.skipping current k)
  skipped None k rest = rest
  skipped (Some key) k rest = (tt, rest)

  next_files : (phase : Phase) (place : Place) (k : List Piece) (t : State) → Ready S k
      → Keeps S (st.next_file phase place k t)
  next_files Beginning place k t rest = ended S (m.Faulted NextOutside place)
  next_files Ruling place k t rest = skipped t.main.current (st.to_records k) (to_records nothing k rest)
  next_files Ending place k t rest = ended S (m.Faulted NextOutside place)

  jumps : (which : Jump) (k : List Piece) (t : State) → Ready S k → Keeps S (st.jump which k t)
  jumps jump.Break k t rest = after_break k rest
  jumps jump.Continue k t rest = after_continue k rest
  jumps (jump.Next place) k t rest = nexts t.phase place k t rest
  jumps (jump.NextFile place) k t rest = next_files t.phase place k t rest

  exited : (place : Place) (o : Option Expression) (vs : List Value) (k : List Piece) (t : State) → Sub S (s.optional o)
      → Ready S k →
      Keeps S (st.exit place o (Doing (p.exit place o)) vs k t)
  exited place None vs k t h rest = exits t.phase
  exited place (Some x) vs k t h rest =
      one S (value x) (Doing (p.exit place (Some x))) _ vs k t (push_value S x (Doing (p.exit place (Some x))) [] k h h
      (λ y says. tt) rest)
      (λ v. through S place (number_of t.numbers v >>= whole_of) (λ n k s. Goes (st.after_exit s.phase)
      (record (st.unwound s) { status = Some (unsigned_abs (int_rem_euclid n (pos 256))) })) k t
      (λ n. exits t.phase))

  returned : (o : Option Expression) (vs : List Value) (k : List Piece) (t : State) → Sub S (s.optional o) → Ready S k
      → Keeps S (st.return o (Doing (p.return o)) vs k t)
  returned None vs k t h rest = to_leave k rest
  returned (Some x) vs k t h rest =
      one S (value x) (Doing (p.return (Some x))) _ vs k t (push_value S x (Doing (p.return (Some x))) [] k h h
      (λ y says. tt) rest) (λ v. leave_with v (st.to_leave k) (to_leave k rest))

  -- ---- all forms

  pub statements : (x : Statement) (vs : List Value) (k : List Piece) (t : State) → Sub S (s.done x)
      → Knows S (Doing x) vs → Ready S k → Keeps S (st.do_statement x (Doing x) vs k t)
  statements (p.plain x) vs k t h n rest = one S (value x) _ _ vs k t (push_value S x (Doing (p.plain x)) [] k h h
      (λ y says. tt) rest) (λ v. rest)
  statements (p.print place xs r) vs k t h n rest =
      prints printed place xs r (Doing (p.print place xs r)) vs k t
      (each_of_list S xs (front S (s.all xs) (s.redirection r) h)) (back S (s.all xs) (s.redirection r) h) h
      (λ y i. i)
      (known_of_print place xs r vs n) rest rest
  statements (p.printf place x xs r) vs k t h n rest =
      let i = back S (s.value x) (s.all xs ++ s.redirection r) h in
      prints formatted_by place (x ∷ xs) r (Doing (p.printf place x xs r)) vs k t
      (front S (s.value x) (s.all xs ++ s.redirection r) h, each_of_list S xs (front S (s.all xs) (s.redirection r) i))
      (back S (s.all xs) (s.redirection r) i) h (λ y i. i)
      (known_of_printf place x xs r vs n) rest rest
  statements (p.delete place a xs) vs k t h n rest =
      each S xs (Doing (p.delete place a xs)) _ vs k t (each_of_list S xs h) h (λ y. tt) rest
      (λ ws. through S place (limited (joined (own_text t (codes "SUBSEP")) ws))
      (λ key k s. Goes k (with_array a (without (array s a) key) s)) k t (λ key. rest))
  statements (p.delete_all a) vs k t h n rest = rest
  statements (p.jump which) vs k t h n rest = jumps which k t rest
  statements (p.exit place x) vs k t h n rest = exited place x vs k t h rest
  statements (p.return x) vs k t h n rest = returned x vs k t h rest
  statements (p.block xs) vs k t h n rest = (in_order xs h, rest)
  statements (p.if_then x y) vs k t h n rest =
      one S (value x) _ _ vs k t (push_value S x (Doing (p.if_then x y)) [] k (front S (s.value x) (s.done y) h) h
      (λ y says. tt) rest)
      (λ v. either S v (Do (m.Start y) ∷ k) k t (back S (s.value x) (s.done y) h, rest) rest)
  statements (p.if_else x y z) vs k t h n rest =
      let i = back S (s.value x) (s.done y ++ s.done z) h in
      one S (value x) _ _ vs k t (push_value S x (Doing (p.if_else x y z)) [] k
      (front S (s.value x) (s.done y ++ s.done z) h) h (λ y says. tt) rest)
      (λ v. either S v (Do (m.Start y) ∷ k) (Do (m.Start z) ∷ k) t (front S (s.done y) (s.done z) i, rest)
      (back S (s.done y) (s.done z) i, rest))
  statements (p.while_do x y) vs k t h n rest =
      ((front S (s.value x) (s.done y) h, back S (s.value x) (s.done y) h, tt), tt, rest)
  statements (p.do_while y x) vs k t h n rest = (
    front S (s.done y) (s.value x) h,
    (
      (back S (s.done y) (s.value x) h, front S (s.done y) (s.value x) h, tt),
      tt,
      rest,
    ),
  )
  statements (p.for_loop x y z u) vs k t h n rest =
      let i = front S (s.optional x ++ (s.optional y ++ s.optional z)) (s.done u) h in
      let j = back S (s.optional x) (s.optional y ++ s.optional z) i in
      behind x (st.for y z u) (Doing (p.for_loop x y z u)) vs k t (front S (s.optional x) (s.optional y ++ s.optional z)
      i) (
        front S (s.optional y) (s.optional z) j,
        back S (s.optional x ++ (s.optional y ++ s.optional z)) (s.done u) h,
        back S (s.optional y) (s.optional z) j,
      ) h (λ y. tt) rest rest
  statements (p.for_each place key a y) vs k t h n rest = (h, rest)
