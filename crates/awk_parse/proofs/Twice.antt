-- A tree without places stays the same where its places are taken away.
use Rattle.std.proofs.Common.{◌≡◌, List, [], ◌∷◌, map, ap, refl, Option, Some, None, option_map}
use Rattle.awk_tree.specs.declared.names.Name.{Name}
use Rattle.awk_tree.specs.declared.names.Member.{Member}
use Rattle.awk_tree.specs.declared.statements.Printed.{Printed}
use Rattle.awk_tree.specs.declared.statements.Redirection.{Redirection}
use Rattle.awk_tree.specs.Tree as t
use Rattle.awk_tree.specs.Tree.{Tree, Trees, Perhaps, Terms, Pipes, Statement, Statements, Condition, Entry}
use Rattle.awk_tree.specs.Canon.{bare, bare_all, bare_perhaps, bare_terms, bare_pipes, bare_name, bare_member}
use Rattle.awk_tree.specs.Canon.{bare_printed, bare_redirection, bare_statement, bare_statements, bare_condition}
use Rattle.awk_tree.specs.Canon.{bare_entry}

each : {A : Type 0} (f : A → A) → ((x : A) → f (f x) ≡ f x) → (xs : List A) → map f (map f xs) ≡ map f xs
each f h [] = refl
each f h (x ∷ xs) = rw (h x, each f h xs) refl

perhaps : {A : Type 0} (f : A → A) → ((x : A) → f (f x) ≡ f x) → (x : Option A) → option_map f (option_map f x)
    ≡ option_map f x
perhaps f h None = refl
perhaps f h (Some x) = ap Some (h x)

name_twice : (n : Name) → bare_name (bare_name n) ≡ bare_name n
name_twice n = refl

member_twice : (m : Member) → bare_member (bare_member m) ≡ bare_member m
member_twice m = refl

mutual
  tree_twice : (x : Tree) → bare (bare x) ≡ bare x
  tree_twice (t.number p x) = refl
  tree_twice (t.quoted p x) = refl
  tree_twice (t.pattern p x) = refl
  tree_twice (t.name n) = refl
  tree_twice (t.element n xs) = rw (all_twice xs) refl
  tree_twice (t.field p x) = rw (tree_twice x) refl
  tree_twice (t.paren p x) = rw (tree_twice x) refl
  tree_twice (t.call n xs) = rw (all_twice xs) refl
  tree_twice (t.builtin p which xs) = rw (all_twice xs) refl
  tree_twice (t.bare_length p) = refl
  tree_twice (t.split p x n y) = rw (tree_twice x, perhaps_twice y) refl
  tree_twice (t.substitute p all x y z) = rw (tree_twice x, tree_twice y, perhaps_twice z) refl
  tree_twice (t.getline p x y) = rw (perhaps_twice x, perhaps_twice y) refl
  tree_twice (t.before p which x) = rw (tree_twice x) refl
  tree_twice (t.after x p which) = rw (tree_twice x) refl
  tree_twice (t.signed p which x) = rw (tree_twice x) refl
  tree_twice (t.power x p y) = rw (tree_twice x, tree_twice y) refl
  tree_twice (t.product x xs) = rw (tree_twice x, terms_twice xs) refl
  tree_twice (t.sum x xs) = rw (tree_twice x, terms_twice xs) refl
  tree_twice (t.concat x xs) = rw (tree_twice x, all_twice xs) refl
  tree_twice (t.pipe x xs) = rw (tree_twice x, pipes_twice xs) refl
  tree_twice (t.compare x p how y) = rw (tree_twice x, tree_twice y) refl
  tree_twice (t.matched x p unlike y) = rw (tree_twice x, tree_twice y) refl
  tree_twice (t.group p xs ms) = rw (all_twice xs, each bare_member member_twice ms) refl
  tree_twice (t.member x ms) = rw (tree_twice x, each bare_member member_twice ms) refl
  tree_twice (t.and x xs) = rw (tree_twice x, all_twice xs) refl
  tree_twice (t.or x xs) = rw (tree_twice x, all_twice xs) refl
  tree_twice (t.choose x y z) = rw (tree_twice x, tree_twice y, tree_twice z) refl
  tree_twice (t.assign x p how y) = rw (tree_twice x, tree_twice y) refl

  all_twice : (xs : Trees) → bare_all (bare_all xs) ≡ bare_all xs
  all_twice t.none = refl
  all_twice (t.more x xs) = rw (tree_twice x, all_twice xs) refl

  perhaps_twice : (x : Perhaps) → bare_perhaps (bare_perhaps x) ≡ bare_perhaps x
  perhaps_twice t.absent = refl
  perhaps_twice (t.present x) = rw (tree_twice x) refl

  terms_twice : (xs : Terms) → bare_terms (bare_terms xs) ≡ bare_terms xs
  terms_twice t.no_terms = refl
  terms_twice (t.term how p x xs) = rw (tree_twice x, terms_twice xs) refl

  pipes_twice : (xs : Pipes) → bare_pipes (bare_pipes xs) ≡ bare_pipes xs
  pipes_twice t.no_pipes = refl
  pipes_twice (t.piped p x xs) = rw (perhaps_twice x, pipes_twice xs) refl

printed_twice : (x : Printed Tree) → bare_printed (bare_printed x) ≡ bare_printed x
printed_twice x = rw (each bare tree_twice x.items) refl

redirection_twice : (x : Redirection Tree) → bare_redirection (bare_redirection x) ≡ bare_redirection x
redirection_twice x = rw (tree_twice x.target) refl

mutual
  statement_twice : (x : Statement) → bare_statement (bare_statement x) ≡ bare_statement x
  statement_twice t.empty = refl
  statement_twice (t.plain x) = rw (tree_twice x) refl
  statement_twice (t.print p xs r) = rw (printed_twice xs, perhaps bare_redirection redirection_twice r) refl
  statement_twice (t.printf p xs r) = rw (printed_twice xs, perhaps bare_redirection redirection_twice r) refl
  statement_twice (t.delete n xs) = rw (each bare tree_twice xs) refl
  statement_twice (t.delete_all n) = refl
  statement_twice (t.jump p which) = refl
  statement_twice (t.exit p x) = rw (perhaps bare tree_twice x) refl
  statement_twice (t.return p x) = rw (perhaps bare tree_twice x) refl
  statement_twice (t.block xs) = rw (statements_twice xs) refl
  statement_twice (t.if_then x s) = rw (tree_twice x, statement_twice s) refl
  statement_twice (t.if_else x s u) = rw (tree_twice x, statement_twice s, statement_twice u) refl
  statement_twice (t.while_do x s) = rw (tree_twice x, statement_twice s) refl
  statement_twice (t.do_while s x) = rw (tree_twice x, statement_twice s) refl
  statement_twice (t.for_each p key array s) = rw (statement_twice s) refl
  statement_twice (t.for_loop x y z s) = rw (
    perhaps bare tree_twice x,
    perhaps bare tree_twice y,
    perhaps bare tree_twice z,
    statement_twice s,
  ) refl

  statements_twice : (xs : Statements) → bare_statements (bare_statements xs) ≡ bare_statements xs
  statements_twice t.no_more = refl
  statements_twice (t.then_also x xs) = rw (statement_twice x, statements_twice xs) refl

condition_twice : (c : Condition) → bare_condition (bare_condition c) ≡ bare_condition c
condition_twice (t.single x) = rw (tree_twice x) refl
condition_twice (t.range x y) = rw (tree_twice x, tree_twice y) refl

entry_twice : (x : Entry) → bare_entry (bare_entry x) ≡ bare_entry x
entry_twice (t.at_begin xs) = rw (each bare_statement statement_twice xs) refl
entry_twice (t.at_end xs) = rw (each bare_statement statement_twice xs) refl
entry_twice (t.always xs) = rw (each bare_statement statement_twice xs) refl
entry_twice (t.shown c) = rw (condition_twice c) refl
entry_twice (t.rule c xs) = rw (condition_twice c, each bare_statement statement_twice xs) refl
entry_twice (t.function f ps xs) = rw (each bare_name name_twice ps, each bare_statement statement_twice xs) refl

pub bare_twice : (items : List Entry) → map bare_entry (map bare_entry items) ≡ map bare_entry items
bare_twice items = each bare_entry entry_twice items
