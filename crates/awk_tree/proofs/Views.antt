-- How the views meet each variant.
use Rattle.std.proofs.Common.{◌≡◌, Bool, List, [], ◌∷◌, map, Option, Some, None, option_map, ap, sym, ◌∙◌, refl}
use Rattle.awk_text.specs.declared.place.Place.{Place}
use Rattle.awk_tree.specs.declared.names.Name.{Name}
use Rattle.awk_tree.specs.declared.names.Member.{Member}
use Rattle.awk_tokens.specs.declared.terminals.Assignment.{Assignment}
use Rattle.awk_tokens.specs.declared.words.Builtin.{Builtin}
use Rattle.awk_tokens.specs.declared.words.Jump.{Jump}
use Rattle.awk_tree.specs.declared.operators.Comparison.{Comparison}
use Rattle.awk_tree.specs.declared.operators.Sign.{Sign}
use Rattle.awk_tokens.specs.declared.terminals.Step.{Step}
use Rattle.awk_tree.specs.declared.expressions.Term.{Term}
use Rattle.awk_tree.specs.declared.expressions.Piped.{Piped}
use Rattle.awk_tree.specs.declared.expressions.Expr.{Expr}
use Rattle.awk_tree.specs.declared.expressions.Expr.TheFolds.{fold-roll-Expr, map-Expr}
use Rattle.awk_tree.specs.declared.expressions.Expr.TheViews.{roll-Expr}
use Rattle.awk_tree.specs.declared.expressions.Expr.TheVariants as e
use Rattle.awk_tree.specs.declared.expressions.Expr.TheOpen.{Expr-F}
use Rattle.awk_tree.specs.declared.expressions.Expr.TheShapes.{former-Expr-Pipe-1-at-3 as shapes}
use Rattle.awk_tree.specs.declared.statements.Printed.{Printed}
use Rattle.awk_tree.specs.declared.statements.Redirection.{Redirection}
use Rattle.awk_tree.specs.declared.statements.Statement as code
use Rattle.awk_tree.specs.declared.statements.Statement.TheFolds.{fold-roll-Statement, map-Statement}
use Rattle.awk_tree.specs.declared.statements.Statement.TheViews.{roll-Statement}
use Rattle.awk_tree.specs.declared.statements.Statement.TheVariants as s
use Rattle.awk_tree.specs.declared.statements.Statement.TheOpen.{Statement-F}
use Rattle.awk_tree.specs.Tree as t
use Rattle.awk_tree.specs.Tree.{Text, Tree, trees_of, perhaps_of, terms_of, pipes_of, Statement, statements_of}
use Rattle.awk_tree.specs.View.{view_step, view, view_term, view_piped, view_printed, view_redirection, statement_step}
use Rattle.awk_tree.specs.View.{view_statement}

-- ---- expressions

layer : Expr-F Expr → Tree
layer d = view_step (map-Expr Expr Tree view d)

opened : (d : Expr-F Expr) (x : Expr) → roll-Expr d ≡ x → view x ≡ layer d
unfolding view layer
opened d x rolls = ap view (sym rolls) ∙ fold-roll-Expr Tree view_step d

one_piped : (p : Place) (o : Option Expr) → shapes.map Expr Tree view (record { place = p; target = o })
    ≡ record { place = p; target = option_map view o }
one_piped p None = refl
one_piped p (Some x) = refl

pipes_layer : (ps : List (Piped Expr)) → map (shapes.map Expr Tree view) ps ≡ map view_piped ps
pipes_layer [] = refl
pipes_layer (x ∷ ps) = rw (one_piped x.place x.target, pipes_layer ps) refl

pub view-Number : (p : Place) (x : Text) → view (e.Number p x) ≡ t.number p x
unfolding layer
view-Number p x = opened _ _ (e.rolls-Number p x)

pub view-Quoted : (p : Place) (x : Text) → view (e.Quoted p x) ≡ t.quoted p x
unfolding layer
view-Quoted p x = opened _ _ (e.rolls-Quoted p x)

pub view-Pattern : (p : Place) (x : Text) → view (e.Pattern p x) ≡ t.pattern p x
unfolding layer
view-Pattern p x = opened _ _ (e.rolls-Pattern p x)

pub view-Name : (n : Name) → view (e.Name n) ≡ t.name n
unfolding layer
view-Name n = opened _ _ (e.rolls-Name n)

pub view-Element : (n : Name) (xs : List Expr) → view (e.Element n xs) ≡ t.element n (trees_of (map view xs))
unfolding layer
view-Element n xs = opened _ _ (e.rolls-Element n xs)

pub view-Field : (p : Place) (x : Expr) → view (e.Field p x) ≡ t.field p (view x)
unfolding layer
view-Field p x = opened _ _ (e.rolls-Field p x)

pub view-Paren : (p : Place) (x : Expr) → view (e.Paren p x) ≡ t.paren p (view x)
unfolding layer
view-Paren p x = opened _ _ (e.rolls-Paren p x)

pub view-Call : (n : Name) (xs : List Expr) → view (e.Call n xs) ≡ t.call n (trees_of (map view xs))
unfolding layer
view-Call n xs = opened _ _ (e.rolls-Call n xs)

pub view-Builtin : (p : Place) (b : Builtin) (xs : List Expr)
    → view (e.Builtin p b xs) ≡ t.builtin p b (trees_of (map view xs))
unfolding layer
view-Builtin p b xs = opened _ _ (e.rolls-Builtin p b xs)

pub view-Length : (p : Place) → view (e.Length p) ≡ t.bare_length p
unfolding layer
view-Length p = opened _ _ (e.rolls-Length p)

pub view-Split : (p : Place) (x : Expr) (n : Name) (y : Option Expr) → view (e.Split p x n y) ≡ t.split p (view x) n
    (perhaps_of (option_map view y))
unfolding layer
view-Split p x n None = opened _ _ (e.rolls-Split p x n None)
view-Split p x n (Some y) = opened _ _ (e.rolls-Split p x n (Some y))

pub view-Substitute : (p : Place) (all : Bool) (x : Expr) (y : Expr) (z : Option Expr) → view (e.Substitute p all x y z)
    ≡ t.substitute p all (view x) (view y) (perhaps_of (option_map view z))
unfolding layer
view-Substitute p all x y None = opened _ _ (e.rolls-Substitute p all x y None)
view-Substitute p all x y (Some z) = opened _ _ (e.rolls-Substitute p all x y (Some z))

pub view-Getline : (p : Place) (x : Option Expr) (y : Option Expr)
    → view (e.Getline p x y) ≡ t.getline p (perhaps_of (option_map view x)) (perhaps_of (option_map view y))
unfolding layer
view-Getline p None None = opened _ _ (e.rolls-Getline p None None)
view-Getline p None (Some y) = opened _ _ (e.rolls-Getline p None (Some y))
view-Getline p (Some x) None = opened _ _ (e.rolls-Getline p (Some x) None)
view-Getline p (Some x) (Some y) = opened _ _ (e.rolls-Getline p (Some x) (Some y))

pub view-Before : (p : Place) (s : Step) (x : Expr) → view (e.Before p s x) ≡ t.before p s (view x)
unfolding layer
view-Before p s x = opened _ _ (e.rolls-Before p s x)

pub view-After : (x : Expr) (p : Place) (s : Step) → view (e.After x p s) ≡ t.after (view x) p s
unfolding layer
view-After x p s = opened _ _ (e.rolls-After x p s)

pub view-Signed : (p : Place) (s : Sign) (x : Expr) → view (e.Signed p s x) ≡ t.signed p s (view x)
unfolding layer
view-Signed p s x = opened _ _ (e.rolls-Signed p s x)

pub view-Power : (x : Expr) (p : Place) (y : Expr) → view (e.Power x p y) ≡ t.power (view x) p (view y)
unfolding layer
view-Power x p y = opened _ _ (e.rolls-Power x p y)

pub view-Product : (x : Expr) (ts : List (Term Expr))
    → view (e.Product x ts) ≡ t.product (view x) (terms_of (map view_term ts))
unfolding layer
view-Product x ts = opened _ _ (e.rolls-Product x ts)

pub view-Sum : (x : Expr) (ts : List (Term Expr)) → view (e.Sum x ts) ≡ t.sum (view x) (terms_of (map view_term ts))
unfolding layer
view-Sum x ts = opened _ _ (e.rolls-Sum x ts)

pub view-Concat : (x : Expr) (xs : List Expr) → view (e.Concat x xs) ≡ t.concat (view x) (trees_of (map view xs))
unfolding layer
view-Concat x xs = opened _ _ (e.rolls-Concat x xs)

pub view-Pipe : (x : Expr) (ps : List (Piped Expr))
    → view (e.Pipe x ps) ≡ t.pipe (view x) (pipes_of (map view_piped ps))
unfolding layer
view-Pipe x ps = opened _ _ (e.rolls-Pipe x ps) ∙ ap (λ qs. t.pipe (view x) (pipes_of qs)) (pipes_layer ps)

pub view-Compare : (x : Expr) (p : Place) (c : Comparison) (y : Expr)
    → view (e.Compare x p c y) ≡ t.compare (view x) p c (view y)
unfolding layer
view-Compare x p c y = opened _ _ (e.rolls-Compare x p c y)

pub view-Match : (x : Expr) (p : Place) (unlike : Bool) (y : Expr) → view (e.Match x p unlike y)
    ≡ t.matched (view x) p unlike (view y)
unfolding layer
view-Match x p unlike y = opened _ _ (e.rolls-Match x p unlike y)

pub view-Group : (p : Place) (xs : List Expr) (ms : List Member)
    → view (e.Group p xs ms) ≡ t.group p (trees_of (map view xs)) ms
unfolding layer
view-Group p xs ms = opened _ _ (e.rolls-Group p xs ms)

pub view-In : (x : Expr) (ms : List Member) → view (e.In x ms) ≡ t.member (view x) ms
unfolding layer
view-In x ms = opened _ _ (e.rolls-In x ms)

pub view-And : (x : Expr) (xs : List Expr) → view (e.And x xs) ≡ t.and (view x) (trees_of (map view xs))
unfolding layer
view-And x xs = opened _ _ (e.rolls-And x xs)

pub view-Or : (x : Expr) (xs : List Expr) → view (e.Or x xs) ≡ t.or (view x) (trees_of (map view xs))
unfolding layer
view-Or x xs = opened _ _ (e.rolls-Or x xs)

pub view-Choice : (x : Expr) (y : Expr) (z : Expr) → view (e.Choice x y z) ≡ t.choose (view x) (view y) (view z)
unfolding layer
view-Choice x y z = opened _ _ (e.rolls-Choice x y z)

pub view-Assign : (x : Expr) (p : Place) (a : Assignment) (y : Expr) → view (e.Assign x p a y) ≡ t.assign (view x) p a
    (view y)
unfolding layer
view-Assign x p a y = opened _ _ (e.rolls-Assign x p a y)

-- ---- statements

statement_layer : Statement-F code.Statement → Statement
statement_layer d = statement_step (map-Statement code.Statement Statement view_statement d)

statement_opened : (d : Statement-F code.Statement) (x : code.Statement) → roll-Statement d ≡ x
    → view_statement x ≡ statement_layer d
unfolding view_statement statement_layer
statement_opened d x rolls = ap view_statement (sym rolls) ∙ fold-roll-Statement Statement statement_step d

pub statement-Empty : view_statement s.Empty ≡ t.empty
unfolding statement_layer
statement-Empty = statement_opened _ _ s.rolls-Empty

pub statement-Expr : (x : Expr) → view_statement (s.Expr x) ≡ t.plain (view x)
unfolding statement_layer
statement-Expr x = statement_opened _ _ (s.rolls-Expr x)

pub statement-Print : (p : Place) (x : Printed Expr) (r : Option (Redirection Expr)) → view_statement (s.Print p x r)
    ≡ t.print p (view_printed x) (option_map view_redirection r)
unfolding statement_layer
statement-Print p x r = statement_opened _ _ (s.rolls-Print p x r)

pub statement-Printf : (p : Place) (x : Printed Expr) (r : Option (Redirection Expr)) → view_statement (s.Printf p x r)
    ≡ t.printf p (view_printed x) (option_map view_redirection r)
unfolding statement_layer
statement-Printf p x r = statement_opened _ _ (s.rolls-Printf p x r)

pub statement-Delete : (n : Name) (xs : List Expr) → view_statement (s.Delete n xs) ≡ t.delete n (map view xs)
unfolding statement_layer
statement-Delete n xs = statement_opened _ _ (s.rolls-Delete n xs)

pub statement-DeleteAll : (n : Name) → view_statement (s.DeleteAll n) ≡ t.delete_all n
unfolding statement_layer
statement-DeleteAll n = statement_opened _ _ (s.rolls-DeleteAll n)

pub statement-Jump : (p : Place) (which : Jump) → view_statement (s.Jump p which) ≡ t.jump p which
unfolding statement_layer
statement-Jump p which = statement_opened _ _ (s.rolls-Jump p which)

pub statement-Exit : (p : Place) (x : Option Expr) → view_statement (s.Exit p x) ≡ t.exit p (option_map view x)
unfolding statement_layer
statement-Exit p x = statement_opened _ _ (s.rolls-Exit p x)

pub statement-Return : (p : Place) (x : Option Expr) → view_statement (s.Return p x) ≡ t.return p (option_map view x)
unfolding statement_layer
statement-Return p x = statement_opened _ _ (s.rolls-Return p x)

pub statement-Block : (xs : List code.Statement) → view_statement (s.Block xs)
    ≡ t.block (statements_of (map view_statement xs))
unfolding statement_layer
statement-Block xs = statement_opened _ _ (s.rolls-Block xs)

pub statement-If : (x : Expr) (b : code.Statement) → view_statement (s.If x b) ≡ t.if_then (view x) (view_statement b)
unfolding statement_layer
statement-If x b = statement_opened _ _ (s.rolls-If x b)

pub statement-IfElse : (x : Expr) (b : code.Statement) (u : code.Statement) → view_statement (s.IfElse x b u)
    ≡ t.if_else (view x) (view_statement b) (view_statement u)
unfolding statement_layer
statement-IfElse x b u = statement_opened _ _ (s.rolls-IfElse x b u)

pub statement-While : (x : Expr) (b : code.Statement) → view_statement (s.While x b) ≡ t.while_do (view x)
    (view_statement b)
unfolding statement_layer
statement-While x b = statement_opened _ _ (s.rolls-While x b)

pub statement-Do : (b : code.Statement) (x : Expr) → view_statement (s.Do b x) ≡ t.do_while (view_statement b) (view x)
unfolding statement_layer
statement-Do b x = statement_opened _ _ (s.rolls-Do b x)

pub statement-For : (x : Option Expr) (y : Option Expr) (z : Option Expr) (b : code.Statement)
    → view_statement (s.For x y z b) ≡ t.for_loop (option_map view x) (option_map view y) (option_map view z)
    (view_statement b)
unfolding statement_layer
statement-For x y z b = statement_opened _ _ (s.rolls-For x y z b)

pub statement-ForIn : (p : Place) (k : Name) (a : Name) (b : code.Statement) → view_statement (s.ForIn p k a b)
    ≡ t.for_each p k a (view_statement b)
unfolding statement_layer
statement-ForIn p k a b = statement_opened _ _ (s.rolls-ForIn p k a b)

pub ruleset views = (
  view-Number,
  view-Quoted,
  view-Pattern,
  view-Name,
  view-Element,
  view-Field,
  view-Paren,
  view-Call,
  view-Builtin,
  view-Length,
  view-Split,
  view-Substitute,
  view-Getline,
  view-Before,
  view-After,
  view-Signed,
  view-Power,
  view-Product,
  view-Sum,
  view-Concat,
  view-Pipe,
  view-Compare,
  view-Match,
  view-Group,
  view-In,
  view-And,
  view-Or,
  view-Choice,
  view-Assign,
)

pub ruleset statement_views = (
  statement-Empty,
  statement-Expr,
  statement-Print,
  statement-Printf,
  statement-Delete,
  statement-DeleteAll,
  statement-Jump,
  statement-Exit,
  statement-Return,
  statement-Block,
  statement-If,
  statement-IfElse,
  statement-While,
  statement-Do,
  statement-For,
  statement-ForIn,
)
