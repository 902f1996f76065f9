-- What a host knows once it is told of a script.
use Rattle.std.proofs.Common.{◌≡◌, ◌↔◌, ◌∙◌, ℕ, ◌+◌, Bool, true, false, true≢false, ◌&&◌, ◌||◌, not, List, [], ◌∷◌}
use Rattle.std.proofs.Common.{◌++◌, Option, Some, None, is_none, Result, Ok, Err, IfOk, length, get_or, map}
use Rattle.std.proofs.Common.{if◌then◌else◌, ap, sym, refl, subst, arith, append_assoc}
use Rattle.std.specs.List.{list_any}
use Rattle.std.specs.Str.{bytes_eq}
use Rattle.std.proofs.lemmas.Slice.Eq.{bytes_eq-Decides}
use Rattle.awk_tokens.specs.Words.{is_name, reserved}
use Rattle.awk_tree.specs.Tree.{Entry}
use Rattle.awk_resolve.specs.Kinds as k
use Rattle.awk_resolve.specs.Kinds.{global, Forced, texts}
use Rattle.awk_resolve.specs.Mentions.{part}
use Rattle.awk_resolve.specs.declared.mention.Section.{Section}
use Rattle.awk_resolve.specs.Assigns.{CanAssign, can_assign}
use Rattle.awk_resolve.specs.Marks.{has, AreKinds}
use Rattle.awk_resolve.specs.Said.{defined}
use Rattle.awk_resolve.specs.declared.kinds.Kinds.{Kinds}
use Rattle.awk_resolve.proofs.Assigning.{may_assign}
use Rattle.awk_lowering.proofs.Adding.{texts_are}
use Rattle.awk_resolve.specs.Tables.{tables, variables, variable_flags, arrays_by}
use Rattle.awk_program.specs.Slots.{Text}
use Rattle.awk_program.specs.View.{names_of, view_function, Names}
use Rattle.awk_program.specs.declared.program.Function.{Function}
use Rattle.awk_parse.specs.Scripts.{IsScript, IsScriptOf}
use Rattle.awk_parse.specs.declared.script.Script.{Script}
use Rattle.awk_input.specs.Hosts.{Hosted, IsHost, IsSlotIn, can_set, is_free, is_given, slot_in, slot_of, use_of}
use Rattle.awk_input.specs.Hosts.{with_name, with_word}
use Rattle.awk_input.specs.declared.host.HostUse.{HostUse}
use Rattle.awk_input.specs.declared.host.HostUse.TheVariants.{Variable, Barred}
use Rattle.awk_input.proofs.Hosting.{given_added, use_added}
use Rattle.awk_run.specs.SetupParts.{SetupParts, number_of_seed}
use Rattle.awk_run.specs.Givens.{given_of}
use Rattle.awk_run.specs.Hosting.{host_of, nothing_told, with_functions, with_variables, with_words}
use Rattle.awk_run.proofs.Naming.{Has, AllForced, array_is_variable, function_is_defined, functions_are_forced}
use Rattle.awk_run.proofs.Naming.{functions_named}

-- ---- words

around : (a b c : Bool) → (a || (b || c)) ≡ ((b || a) || c)
around true true c = refl
around true false c = refl
around false true c = refl
around false false c = refl

or_nothing : (a : Bool) → (a || false) ≡ a
or_nothing true = refl
or_nothing false = refl

words_given : (xs : List Text) (h : Hosted) (y : Text) → is_given (with_words xs h) y
    ≡ (list_any (bytes_eq y) xs || is_given h y)
words_given [] h y = refl
words_given (x ∷ xs) h y = words_given xs (with_word x h) y ∙ ap (λ b. list_any (bytes_eq y) xs || b)
    (given_added x y h) ∙ around (list_any (bytes_eq y) xs) (bytes_eq y x) (is_given h y)

words_stay : (xs : List Text) (h : Hosted) → ((with_words xs h).bound ≡ h.bound)
    × ((with_words xs h).numbers ≡ h.numbers) × ((with_words xs h).seed ≡ h.seed)
words_stay [] h = (refl, refl, refl)
words_stay (x ∷ xs) h = words_stay xs (with_word x h)

words_names : (xs : List Text) (h : Hosted) → (with_words xs h).names ≡ h.names
words_names [] h = refl
words_names (x ∷ xs) h = words_names xs (with_word x h)

-- ---- names change neither the words, nor the bound, the numbers and the seed

variables_stay : (free : Text → Bool) (n : ℕ) (xs : List Text) (h : Hosted)
    → ((with_variables free n xs h).bound ≡ h.bound) × ((with_variables free n xs h).numbers ≡ h.numbers)
    × ((with_variables free n xs h).seed ≡ h.seed) × ((with_variables free n xs h).words ≡ h.words)
variables_stay free n [] h = (refl, refl, refl, refl)
variables_stay free n (x ∷ xs) h = variables_stay free (n + 1) xs (with_name x (if free x then Variable n else Barred)
    h)

functions_stay : (xs : List Text) (h : Hosted) → ((with_functions xs h).bound ≡ h.bound)
    × ((with_functions xs h).numbers ≡ h.numbers) × ((with_functions xs h).seed ≡ h.seed)
    × ((with_functions xs h).words ≡ h.words)
functions_stay [] h = (refl, refl, refl, refl)
functions_stay (x ∷ xs) h = functions_stay xs (with_name x Barred h)

-- ---- what it says of a name is right

module _ (free : Text → Bool) (names : List Text) where
  abbrev IsRight : Text → HostUse → Type 0
  IsRight y (Variable n) = (free y ≡ true) × (get_or names n [] ≡ y)
  IsRight y Barred = free y ≡ false

  abbrev Right : Hosted → Type 0
  Right h = (y : Text) (u : HostUse) → use_of h y ≡ Some u → IsRight y u

  right_added : (x : Text) (u : HostUse) (h : Hosted) → IsRight x u → Right h → Right (with_name x u h)
  right_added x u h one all = λ y v e. by y v (bytes_eq y x) refl (sym (use_added x y u h) ∙ e)
    where
      by : (y : Text) (v : HostUse) (b : Bool) → bytes_eq y x ≡ b → (if b then Some u else use_of h y) ≡ Some v
          → IsRight y v
      by y v true same e =
          let is : u ≡ v = cc in
          subst (λ (w : HostUse). IsRight y w) is
          (subst (λ (z : Text). IsRight z u) (sym ((bytes_eq-Decides y x).0 same)) one)
      by y v false same e = all y v e

  at_length : (pre : List Text) (x : Text) (xs : List Text) → get_or (pre ++ x ∷ xs) (length pre) [] ≡ x
  at_length [] x xs = refl
  at_length (y ∷ pre) x xs = at_length pre x xs

  last_length : (pre : List Text) (x : Text) → length (pre ++ x ∷ []) ≡ length pre + 1
  last_length [] x = refl
  last_length (y ∷ pre) x = omega (arith, last_length pre x)

  variable_right : (x : Text) (n : ℕ) → get_or names n [] ≡ x → IsRight x (if free x then Variable n else Barred)
  variable_right x n at = by (free x) refl
    where
      by : (b : Bool) → free x ≡ b → IsRight x (if b then Variable n else Barred)
      by true e = (e, at)
      by false e = e

  variables_right : (pre xs : List Text) (n : ℕ) (h : Hosted) → names ≡ pre ++ xs → n ≡ length pre → Right h
      → Right (with_variables free n xs h)
  variables_right pre [] n h e at all = all
  variables_right pre (x ∷ xs) n h e at all =
      let here : get_or names n [] ≡ x = ap (λ ns. get_or ns n []) e ∙ ap (λ m. get_or (pre ++ x ∷ xs) m []) at
      ∙ at_length pre x xs in
      variables_right (pre ++ x ∷ []) xs (n + 1) (with_name x (if free x then Variable n else Barred) h)
      (e ∙ sym (append_assoc pre (x ∷ []) xs)) (ap (λ m. m + 1) at ∙ sym (last_length pre x))
      (right_added x (if free x then Variable n else Barred) h (variable_right x n here) all)

  abbrev AllBarred : List Text → Type 0
  AllBarred [] = Unit {0}
  AllBarred (x ∷ xs) = (free x ≡ false) × AllBarred xs

  functions_right : (xs : List Text) (h : Hosted) → AllBarred xs → Right h → Right (with_functions xs h)
  functions_right [] h barred all = all
  functions_right (x ∷ xs) h barred all = functions_right xs (with_name x Barred h) barred.1
      (right_added x Barred h barred.0 all)

-- a script says of a name what its kinds say
pub assigns_so : (s : Script) (x : Text) (b : Bool) → IsScript s → ((items : List Entry) → IsScriptOf items s
    → (b ≡ true) ↔ CanAssign (map part items) x) → b ≡ can_assign s.kinds x
assigns_so s x b (tokens, (items, read, of)) says = by b (can_assign s.kinds x) refl refl
  where
    by : (c d : Bool) → b ≡ c → can_assign s.kinds x ≡ d → c ≡ d
    by true true e f = refl
    by true false e f = absurd
        (true≢false (sym ((may_assign (map part items) s.kinds x of.kinds).1 ((says items of).0 e)) ∙ f))
    by false true e f = absurd
        (true≢false (sym ((says items of).1 ((may_assign (map part items) s.kinds x of.kinds).0 f)) ∙ e))
    by false false e f = refl

-- ---- what it knows

abbrev Knows : Text → Hosted → Type 0
Knows y h = is_none (use_of h y) ≡ false

knows_so : (x y : Text) (u : HostUse) (h : Hosted) (b : Bool) → bytes_eq y x ≡ b
    → is_none (if b then Some u else use_of h y) ≡ false → Knows y (with_name x u h)
knows_so x y u h b e is = rw (use_added x y u h, e) is

keeps_knowing : (x y : Text) (u : HostUse) (h : Hosted) → Knows y h → Knows y (with_name x u h)
keeps_knowing x y u h known = knows_so x y u h (bytes_eq y x) refl (by (bytes_eq y x))
  where
    by : (b : Bool) → is_none (if b then Some u else use_of h y) ≡ false
    by true = refl
    by false = known

variables_keep : (free : Text → Bool) (n : ℕ) (xs : List Text) (h : Hosted) (y : Text) → Knows y h
    → Knows y (with_variables free n xs h)
variables_keep free n [] h y known = known
variables_keep free n (x ∷ xs) h y known = variables_keep free (n + 1) xs
    (with_name x (if free x then Variable n else Barred) h) y (keeps_knowing x y (if free x then Variable n else Barred)
    h known)

variables_known : (free : Text → Bool) (n : ℕ) (xs : List Text) (h : Hosted) (y : Text) → Has y xs
    → Knows y (with_variables free n xs h)
variables_known free n [] h y has = absurd (true≢false (sym has))
variables_known free n (x ∷ xs) h y has =
    by (bytes_eq y x) refl has (variables_known free (n + 1) xs (with_name x (if free x then Variable n else Barred) h)
    y)
  where
    by : (b : Bool) → bytes_eq y x ≡ b → (b || list_any (bytes_eq y) xs) ≡ true
        → (Has y xs → Knows y (with_variables free (n + 1) xs (with_name x (if free x then Variable n else Barred) h)))
        → Knows y (with_variables free (n + 1) xs (with_name x (if free x then Variable n else Barred) h))
    by true e f rest = variables_keep free (n + 1) xs (with_name x (if free x then Variable n else Barred) h) y
        (knows_so x y (if free x then Variable n else Barred) h true e refl)
    by false e f rest = rest f

functions_keep : (xs : List Text) (h : Hosted) (y : Text) → Knows y h → Knows y (with_functions xs h)
functions_keep [] h y known = known
functions_keep (x ∷ xs) h y known = functions_keep xs (with_name x Barred h) y (keeps_knowing x y Barred h known)

functions_known : (xs : List Text) (h : Hosted) (y : Text) → Has y xs → Knows y (with_functions xs h)
functions_known [] h y has = absurd (true≢false (sym has))
functions_known (x ∷ xs) h y has = by (bytes_eq y x) refl has (functions_known xs (with_name x Barred h) y)
  where
    by : (b : Bool) → bytes_eq y x ≡ b → (b || list_any (bytes_eq y) xs) ≡ true
        → (Has y xs → Knows y (with_functions xs (with_name x Barred h)))
        → Knows y (with_functions xs (with_name x Barred h))
    by true e f rest = functions_keep xs (with_name x Barred h) y (knows_so x y Barred h true e refl)
    by false e f rest = rest f

-- ---- a host that knows all arrays and functions of a script, and is right, may set what a host may assign to

unknown_not : (y : Text) (h : Hosted) → use_of h y ≡ None → Knows y h → ⊥
unknown_not y h e known = true≢false (sym (ap is_none e) ∙ known)

module _ (parts : List Section) (c : Kinds) (kinds : AreKinds parts c) (names : List Text) (h : Hosted)
    (right : Right (can_assign c) names h)
    (arrays_known : (y : Text) → Forced parts (global y) k.array → Knows y h) (functions_known_all : (y : Text)
    → Forced parts (global y) k.function → Knows y h)
    (names_known : (y : Text) → Has y names → Knows y h) where
  set_so : (y : Text) (o : Option HostUse) (b : Bool) → use_of h y ≡ o
      → ((is_name y && is_none (reserved y)) && is_free o) ≡ b → can_set h y ≡ b
  set_so y o b e is = ap (λ z. (is_name y && is_none (reserved y)) && is_free z) e ∙ is

  all_true : (a b : Bool) → a ≡ true → b ≡ true → ((a && b) && true) ≡ true
  all_true a b e f = rw (e, f) refl

  barred_so : (a : Bool) → (a && false) ≡ false
  barred_so true = refl
  barred_so false = refl

  regrouped : (a b c d : Bool) → c ≡ false → d ≡ false → (a && (b && (not c && not d))) ≡ ((a && b) && true)
  regrouped true true c d e f = rw (e, f) refl
  regrouped true false c d e f = refl
  regrouped false b c d e f = refl

  not_kind : (y : Text) (kind : k.Kind) → use_of h y ≡ None → (Forced parts (global y) kind → Knows y h)
      → has c (global y) kind ≡ false
  not_kind y kind e known = by (has c (global y) kind) refl
    where
      by : (b : Bool) → has c (global y) kind ≡ b → b ≡ false
      by true is = absurd (unknown_not y h e (known ((kinds (global y) kind).0 is)))
      by false is = refl

  may_set : (y : Text) → can_assign c y ≡ can_set h y
  may_set y = by (use_of h y) refl
    where
      free : (n : ℕ) → use_of h y ≡ Some (Variable n) → can_assign c y ≡ can_set h y
      free n e =
          let is : can_assign c y ≡ true = (right y (Variable n) e).0 in
          let (named, word, array, function) = (may_assign parts c y kinds).0 is in
          is ∙ sym (set_so y (Some (Variable n)) true e (all_true (is_name y) (is_none (reserved y)) named
          (ap is_none word)))

      by : (o : Option HostUse) → use_of h y ≡ o → can_assign c y ≡ can_set h y
      by None e = regrouped (is_name y) (is_none (reserved y)) (has c (global y) k.array) (has c (global y) k.function)
          (not_kind y k.array e (arrays_known y)) (not_kind y k.function e (functions_known_all y))
          ∙ sym (set_so y None ((is_name y && is_none (reserved y)) && true) e refl)
      by (Some (Variable n)) e = free n e
      by (Some Barred) e = right y Barred e
          ∙ sym (set_so y (Some Barred) false e (barred_so (is_name y && is_none (reserved y))))

  has_slot : (y : Text) → can_set h y ≡ true → IsSlotIn names y (slot_of h y)
  has_slot y can = by (use_of h y) refl
    where
      absent : (b : Bool) → use_of h y ≡ None → list_any (bytes_eq y) names ≡ b → b ≡ false
      absent true e f = absurd (unknown_not y h e (names_known y f))
      absent false e f = refl

      by : (o : Option HostUse) → use_of h y ≡ o → IsSlotIn names y (slot_in o)
      by None e = absent (list_any (bytes_eq y) names) e refl
      by (Some (Variable n)) e = (right y (Variable n) e).1
      by (Some Barred) e = absurd
          (true≢false (sym can ∙ set_so y (Some Barred) false e (barred_so (is_name y && is_none (reserved y)))))

-- ---- the host of a script

viewed_names : (t : Names) (fs : List Function) → map (λ f. f.name) (map (view_function t) fs) ≡ map (λ f. f.name) fs
viewed_names t [] = refl
viewed_names t (f ∷ fs) = ap (λ ys. f.name ∷ ys) (viewed_names t fs)

barred_all : (parts : List Section) (c : Kinds) → AreKinds parts c → (names xs : List Text) → AllForced parts xs
    → AllBarred (can_assign c) names xs
barred_all parts c kinds names [] forced = tt
barred_all parts c kinds names (x ∷ xs) (one, rest) = (by (can_assign c x) refl, barred_all parts c kinds names xs rest)
  where
    by : (b : Bool) → can_assign c x ≡ b → b ≡ false
    by true e = absurd (let (named, word, array, function) = (may_assign parts c x kinds).0 e in function one)
    by false e = refl

nothing_right : (free : Text → Bool) (names xs : List Text) (h : Hosted) → h.names ≡ []
    → Right free names (with_words xs h)
nothing_right free names xs h empty = λ y u e. absurd (by y u (words_names xs h ∙ empty) e)
  where
    by : (y : Text) (u : HostUse) → (with_words xs h).names ≡ [] → use_of (with_words xs h) y ≡ Some u → ⊥
    by y u none e = let e2 = rw none at e in cc

module _ (s : Script) (setup : SetupParts) (steps : ℕ) where
  abbrev untold : Hosted
  untold = nothing_told setup.numbers (number_of_seed setup.random_seed) steps

  abbrev worded : Hosted
  worded = with_words setup.operands untold

  abbrev varied : Hosted
  varied = with_variables (can_assign s.kinds) 0 (names_of s.program) worded

  abbrev fs : List Text
  fs = map (λ f. f.name) s.program.functions

  stays : ((host_of s setup steps).bound ≡ steps) × ((host_of s setup steps).numbers ≡ setup.numbers)
      × ((host_of s setup steps).seed ≡ number_of_seed setup.random_seed)
      × ((host_of s setup steps).words ≡ worded.words)
  stays =
      let (b, n, r, w) = functions_stay fs varied in
      let (b2, n2, r2, w2) = variables_stay (can_assign s.kinds) 0 (names_of s.program) worded in
      let (b3, n3, r3) = words_stay setup.operands untold in
      (b ∙ (b2 ∙ b3), n ∙ (n2 ∙ n3), r ∙ (r2 ∙ r3), w ∙ w2)

  words_are : (y : Text) → list_any (bytes_eq y) setup.operands ≡ is_given (host_of s setup steps) y
  words_are y = sym (ap (λ ws. list_any (bytes_eq y) ws) stays.3
      ∙ (words_given setup.operands untold y ∙ or_nothing (list_any (bytes_eq y) setup.operands)))

  names_known : (y : Text) → Has y (names_of s.program) → Knows y (host_of s setup steps)
  names_known y has = functions_keep fs varied y (variables_known (can_assign s.kinds) 0 (names_of s.program) worded y
      has)

pub host_is : (s : Script) (setup : SetupParts) (steps : ℕ) → IsScript s
    → IsHost (host_of s setup steps) (given_of s setup steps)
host_is s setup steps (tokens, (items, read, of)) =
    let all : List Section = map part items in
    let names_are : names_of s.program ≡ variables all = ap (λ q. map (λ m. m.text) q.variables) of.program
    ∙ texts_are (variables all) (variable_flags (arrays_by s.kinds) (variables all)) in
    let functions_are : fs s setup steps ≡ texts (defined all) =
    sym (viewed_names (names_of s.program) s.program.functions)
    ∙ (ap (λ q. map (λ f. f.name) q.functions) of.program ∙ functions_named s.numbers (tables s.kinds all) items) in
    let barred : AllBarred (can_assign s.kinds) (names_of s.program) (fs s setup steps) =
    subst (λ (xs : List Text). AllBarred (can_assign s.kinds) (names_of s.program) xs) (sym functions_are)
    (barred_all all s.kinds of.kinds (names_of s.program) (texts (defined all)) (functions_are_forced all)) in
    let right : Right (can_assign s.kinds) (names_of s.program) (host_of s setup steps) =
    functions_right (can_assign s.kinds) (names_of s.program) (fs s setup steps) (varied s setup steps) barred
    (variables_right (can_assign s.kinds) (names_of s.program) [] (names_of s.program) 0 (worded s setup steps) refl
    refl (nothing_right (can_assign s.kinds) (names_of s.program) setup.operands (untold s setup steps) refl)) in
    let arrays_known : (y : Text) → Forced all (global y) k.array → Knows y (host_of s setup steps) =
    λ y forced. names_known s setup steps y (subst (λ (xs : List Text). Has y xs) (sym names_are)
    (array_is_variable all (global y) k.array y refl refl forced)) in
    let functions_known_all : (y : Text) → Forced all (global y) k.function → Knows y (host_of s setup steps) =
    λ y forced. functions_known (fs s setup steps) (varied s setup steps) y (subst (λ (xs : List Text). Has y xs)
    (sym functions_are) (function_is_defined all y forced)) in
    record {
      bound = sym (stays s setup steps).0;
      numbers = sym (stays s setup steps).1;
      seed = sym (stays s setup steps).2;
      words = words_are s setup steps;
      can_assign = may_set all s.kinds of.kinds (names_of s.program) (host_of s setup steps) right arrays_known
          functions_known_all (names_known s setup steps);
      slots = has_slot all s.kinds of.kinds (names_of s.program) (host_of s setup steps) right arrays_known
          functions_known_all (names_known s setup steps);
    }

pub told_is : {E : Type 0} (s : Script) (setup : SetupParts) (steps : ℕ) (r : Result Hosted E) → IsScript s
    → IfOk r (λ h. h ≡ host_of s setup steps) → IfOk r (λ h. IsHost h (given_of s setup steps))
told_is s setup steps (Ok h) is same = subst (λ (z : Hosted). IsHost z (given_of s setup steps)) (sym same)
    (host_is s setup steps is)
told_is s setup steps (Err e) is same = tt
