-- Trees without places say what the trees say, places aside.
use Rattle.std.proofs.Common.{◌≡◌, Bool, true, false, List, [], ◌∷◌, ◌++◌, map, ap, sym, refl, Option, Some, None}
use Rattle.std.proofs.Common.{option_map}
use Rattle.std.proofs.lemmas.List.{map-append}
use Rattle.awk_text.specs.declared.place.Place.{Place}
use Rattle.awk_tree.specs.declared.names.Name.{Name}
use Rattle.awk_tree.specs.declared.names.Member.{Member}
use Rattle.awk_tree.specs.declared.statements.Redirection.{Redirection}
use Rattle.awk_tree.specs.Tree as t
use Rattle.awk_tree.specs.Tree.{Tree, Trees, Perhaps, Terms, Pipes, Statement, Statements, Condition, Entry, trees_of}
use Rattle.awk_tree.specs.Tree.{perhaps_of, statements_of}
use Rattle.awk_tree.specs.Terminals.{nowhere}
use Rattle.awk_tokens.specs.declared.words.Builtin.{Builtin}
use Rattle.awk_tokens.specs.declared.words.Jump.{Jump}
use Rattle.awk_tokens.specs.declared.words.Jump.TheVariants as j
use Rattle.awk_tokens.specs.declared.words.Builtin.TheVariants as b
use Rattle.awk_tree.specs.Canon.{bare, bare_all, bare_perhaps, bare_terms, bare_pipes, bare_name, bare_member}
use Rattle.awk_tree.specs.Canon.{bare_redirection, bare_statement, bare_statements, bare_condition, bare_entry}
use Rattle.awk_resolve.specs.declared.mention.Mention.{Mention}
use Rattle.awk_resolve.specs.declared.mention.Mention.TheVariants.{Scalar, Array, Return}
use Rattle.awk_resolve.specs.declared.mention.Role.TheVariants as role
use Rattle.awk_resolve.specs.Mentions as m
use Rattle.awk_resolve.specs.Mentions.{mentions, each, arguments, perhaps, terms, pipes, said, each_said, part}
use Rattle.awk_resolve.specs.Bare.{bare_mention, bare_part}

both : (xs ys : List Mention) (us vs : List Mention) → us ≡ map bare_mention xs → vs ≡ map bare_mention ys
    → us ++ vs ≡ map bare_mention (xs ++ ys)
both xs ys us vs d e = rw (d, e) (sym (map-append bare_mention xs ys))

-- ---- expressions

bare_named : (x : Tree) → m.bare (bare x) ≡ option_map bare_name (m.bare x)
bare_named (t.name n) = refl
bare_named x = refl

bare_bares : (xs : Trees) → m.bares (bare_all xs) ≡ map (option_map bare_name) (m.bares xs)
bare_bares t.none = refl
bare_bares (t.more x xs) = rw (bare_named x, bare_bares xs) refl

bare_members : (ms : List Member) → m.members (map bare_member ms) ≡ map bare_mention (m.members ms)
bare_members [] = refl
bare_members (x ∷ ms) = ap (λ l. Array (bare_name x.array) ∷ l) (bare_members ms)

bare_source : (x : Perhaps) → m.source (bare_perhaps x) ≡ map bare_mention (m.source x)
bare_source t.absent = refl
bare_source (t.present x) = refl

bare_argument : (n : Option Name) (ms : List Mention) → m.argument (option_map bare_name n) (map bare_mention ms)
    ≡ map bare_mention (m.argument n ms)
bare_argument None ms = refl
bare_argument (Some n) ms = refl

bare_alone : (xs : Trees) → m.alone (bare_all xs) ≡ option_map bare_name (m.alone xs)
bare_alone t.none = refl
bare_alone (t.more x t.none) = bare_named x
bare_alone (t.more x (t.more y ys)) = refl

bare_measured : (which : Builtin) (xs : Trees) → m.measured which (bare_all xs) ≡ option_map bare_name
    (m.measured which xs)
bare_measured b.Length xs = bare_alone xs
bare_measured which xs = refl

bare_built : (n : Option Name) (ms : List Mention) → m.built (option_map bare_name n) (map bare_mention ms)
    ≡ map bare_mention (m.built n ms)
bare_built None ms = refl
bare_built (Some n) ms = refl

mutual
  pub bare_mentions : (x : Tree) → mentions (bare x) ≡ map bare_mention (mentions x)
  bare_mentions (t.number p x) = refl
  bare_mentions (t.quoted p x) = refl
  bare_mentions (t.pattern p x) = refl
  bare_mentions (t.name n) = refl
  bare_mentions (t.element n xs) = ap (λ l. Array (bare_name n) ∷ l) (bare_each xs)
  bare_mentions (t.field p x) = bare_mentions x
  bare_mentions (t.paren p x) = bare_mentions x
  bare_mentions (t.call f xs) = rw (bare_bares xs, bare_arguments xs) refl
  bare_mentions (t.builtin p which xs) = rw (bare_measured which xs, bare_each xs)
      (bare_built (m.measured which xs) (each xs))
  bare_mentions (t.bare_length p) = refl
  bare_mentions (t.split p x n y) = both (mentions x) (Array n ∷ perhaps y) _ _ (bare_mentions x)
      (ap (λ l. Array (bare_name n) ∷ l) (bare_optional y))
  bare_mentions (t.substitute p all x y z) = both (mentions x) (mentions y ++ perhaps z) _ _ (bare_mentions x)
      (both (mentions y) (perhaps z) _ _ (bare_mentions y) (bare_optional z))
  bare_mentions (t.getline p x y) = both (m.source y) (perhaps x ++ perhaps y) _ _ (bare_source y)
      (both (perhaps x) (perhaps y) _ _ (bare_optional x) (bare_optional y))
  bare_mentions (t.before p s x) = bare_mentions x
  bare_mentions (t.after x p s) = bare_mentions x
  bare_mentions (t.signed p s x) = bare_mentions x
  bare_mentions (t.power x p y) = both (mentions x) (mentions y) _ _ (bare_mentions x) (bare_mentions y)
  bare_mentions (t.product x ts) = both (mentions x) (terms ts) _ _ (bare_mentions x) (bare_each_term ts)
  bare_mentions (t.sum x ts) = both (mentions x) (terms ts) _ _ (bare_mentions x) (bare_each_term ts)
  bare_mentions (t.concat x xs) = both (mentions x) (each xs) _ _ (bare_mentions x) (bare_each xs)
  bare_mentions (t.pipe x ps) = both (mentions x) (pipes ps) _ _ (bare_mentions x) (bare_each_pipe ps)
  bare_mentions (t.compare x p c y) = both (mentions x) (mentions y) _ _ (bare_mentions x) (bare_mentions y)
  bare_mentions (t.matched x p unlike y) = both (mentions x) (mentions y) _ _ (bare_mentions x) (bare_mentions y)
  bare_mentions (t.group p xs ms) = both (each xs) (m.members ms) _ _ (bare_each xs) (bare_members ms)
  bare_mentions (t.member x ms) = both (mentions x) (m.members ms) _ _ (bare_mentions x) (bare_members ms)
  bare_mentions (t.and x xs) = both (mentions x) (each xs) _ _ (bare_mentions x) (bare_each xs)
  bare_mentions (t.or x xs) = both (mentions x) (each xs) _ _ (bare_mentions x) (bare_each xs)
  bare_mentions (t.choose x y z) = both (mentions x) (mentions y ++ mentions z) _ _ (bare_mentions x)
      (both (mentions y) (mentions z) _ _ (bare_mentions y) (bare_mentions z))
  bare_mentions (t.assign x p a y) = both (mentions x) (mentions y) _ _ (bare_mentions x) (bare_mentions y)

  bare_each : (xs : Trees) → each (bare_all xs) ≡ map bare_mention (each xs)
  bare_each t.none = refl
  bare_each (t.more x xs) = both (mentions x) (each xs) _ _ (bare_mentions x) (bare_each xs)

  bare_arguments : (xs : Trees) → arguments (bare_all xs) ≡ map bare_mention (arguments xs)
  bare_arguments t.none = refl
  bare_arguments (t.more x xs) = both (m.argument (m.bare x) (mentions x)) (arguments xs) _ _
      (rw (bare_named x, bare_mentions x) (bare_argument (m.bare x) (mentions x))) (bare_arguments xs)

  bare_optional : (x : Perhaps) → perhaps (bare_perhaps x) ≡ map bare_mention (perhaps x)
  bare_optional t.absent = refl
  bare_optional (t.present x) = bare_mentions x

  bare_each_term : (ts : Terms) → terms (bare_terms ts) ≡ map bare_mention (terms ts)
  bare_each_term t.no_terms = refl
  bare_each_term (t.term a p x ts) = both (mentions x) (terms ts) _ _ (bare_mentions x) (bare_each_term ts)

  bare_each_pipe : (ps : Pipes) → pipes (bare_pipes ps) ≡ map bare_mention (pipes ps)
  bare_each_pipe t.no_pipes = refl
  bare_each_pipe (t.piped p x ps) = both (perhaps x) (pipes ps) _ _ (bare_optional x) (bare_each_pipe ps)

-- ---- statements

bare_list : (xs : List Tree) → m.all (map bare xs) ≡ map bare_mention (m.all xs)
bare_list [] = refl
bare_list (x ∷ xs) = both (mentions x) (m.all xs) _ _ (bare_mentions x) (bare_list xs)

bare_perhaps_said : (x : Option Tree) → m.optional (option_map bare x) ≡ map bare_mention (m.optional x)
bare_perhaps_said None = refl
bare_perhaps_said (Some x) = bare_mentions x

bare_target : (r : Option (Redirection Tree)) → m.target (option_map bare_redirection r) ≡ map bare_mention (m.target r)
bare_target None = refl
bare_target (Some r) = bare_mentions r.target

bare_leaving : (inside : Bool) (p : Place) → m.leaving inside nowhere ≡ map bare_mention (m.leaving inside p)
bare_leaving true p = refl
bare_leaving false p = refl

bare_jumped : (inside : Bool) (p : Place) (which : Jump) → m.jumped inside nowhere which ≡ map bare_mention
    (m.jumped inside p which)
bare_jumped inside p j.Break = bare_leaving inside p
bare_jumped inside p j.Continue = bare_leaving inside p
bare_jumped inside p _ = refl

mutual
  bare_said : (inside : Bool) (s : Statement) → said inside (bare_statement s) ≡ map bare_mention (said inside s)
  bare_said inside t.empty = refl
  bare_said inside (t.plain x) = bare_mentions x
  bare_said inside (t.print p x r) = both (m.all x.items) (m.target r) _ _ (bare_list x.items) (bare_target r)
  bare_said inside (t.printf p x r) = both (m.all x.items) (m.target r) _ _ (bare_list x.items) (bare_target r)
  bare_said inside (t.delete n xs) = ap (λ l. Array (bare_name n) ∷ l) (bare_list xs)
  bare_said inside (t.delete_all n) = refl
  bare_said inside (t.jump p which) = bare_jumped inside p which
  bare_said inside (t.exit p x) = bare_perhaps_said x
  bare_said inside (t.return p x) = ap (λ l. Return nowhere ∷ l) (bare_perhaps_said x)
  bare_said inside (t.block xs) = bare_each_said inside xs
  bare_said inside (t.if_then x s) = both (mentions x) (said inside s) _ _ (bare_mentions x) (bare_said inside s)
  bare_said inside (t.if_else x s u) = both (mentions x) (said inside s ++ said inside u) _ _ (bare_mentions x)
      (both (said inside s) (said inside u) _ _ (bare_said inside s) (bare_said inside u))
  bare_said inside (t.while_do x s) = both (mentions x) (said true s) _ _ (bare_mentions x) (bare_said true s)
  bare_said inside (t.do_while s x) = both (said true s) (mentions x) _ _ (bare_said true s) (bare_mentions x)
  bare_said inside (t.for_each p k a s) = ap (λ l. Scalar (bare_name k) ∷ (Array (bare_name a) ∷ l)) (bare_said true s)
  bare_said inside (t.for_loop x y z s) = both (m.optional x) (m.optional y ++ (m.optional z ++ said true s)) _ _
      (bare_perhaps_said x) (both (m.optional y) (m.optional z ++ said true s) _ _ (bare_perhaps_said y)
      (both (m.optional z) (said true s) _ _ (bare_perhaps_said z) (bare_said true s)))

  bare_each_said : (inside : Bool) (xs : Statements) → each_said inside (bare_statements xs) ≡ map bare_mention
      (each_said inside xs)
  bare_each_said inside t.no_more = refl
  bare_each_said inside (t.then_also x xs) = both (said inside x) (each_said inside xs) _ _ (bare_said inside x)
      (bare_each_said inside xs)

bare_all_said : (xs : List Statement) → m.all_said (map bare_statement xs) ≡ map bare_mention (m.all_said xs)
bare_all_said [] = refl
bare_all_said (x ∷ xs) = both (said false x) (m.all_said xs) _ _ (bare_said false x) (bare_all_said xs)

-- ---- items

bare_conditions : (c : Condition) → m.conditions (bare_condition c) ≡ map bare_mention (m.conditions c)
bare_conditions (t.single x) = bare_mentions x
bare_conditions (t.range x y) = both (mentions x) (mentions y) _ _ (bare_mentions x) (bare_mentions y)

bare_item : (x : Entry) → part (bare_entry x) ≡ bare_part (part x)
bare_item (t.at_begin xs) = ap (λ ms. record { role = role.Begin; mentions = ms }) (bare_all_said xs)
bare_item (t.at_end xs) = ap (λ ms. record { role = role.End; mentions = ms }) (bare_all_said xs)
bare_item (t.always xs) = ap (λ ms. record { role = role.Rule; mentions = ms }) (bare_all_said xs)
bare_item (t.shown c) = ap (λ ms. record { role = role.Rule; mentions = ms }) (bare_conditions c)
bare_item (t.rule c xs) = ap (λ ms. record { role = role.Rule; mentions = ms })
    (both (m.conditions c) (m.all_said xs) _ _ (bare_conditions c) (bare_all_said xs))
bare_item (t.function f ps xs) = ap (λ ms. record {
  role = role.Function (bare_name f) (map bare_name ps);
  mentions =
      ms;
}) (bare_all_said xs)

pub bare_parts : (xs : List Entry) → map part (map bare_entry xs) ≡ map bare_part (map part xs)
bare_parts [] = refl
bare_parts (x ∷ xs) = rw (bare_item x, bare_parts xs) refl
