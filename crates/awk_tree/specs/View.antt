-- The tree that the types of the code stand for.
use Rattle.std.specs.Prelude.{map, option_map}
use Rattle.awk_tree.specs.declared.expressions.Expr.{Expr}
use Rattle.awk_tree.specs.declared.expressions.Expr.TheFolds.{fold-Expr}
use Rattle.awk_tree.specs.declared.expressions.Expr.TheOpen.{Expr-F}
use Rattle.awk_tree.specs.declared.expressions.Term.{Term}
use Rattle.awk_tree.specs.declared.expressions.Piped.{Piped}
use Rattle.awk_tree.specs.declared.statements.Statement as code
use Rattle.awk_tree.specs.declared.statements.Statement.TheFolds.{fold-Statement}
use Rattle.awk_tree.specs.declared.statements.Statement.TheOpen.{Statement-F}
use Rattle.awk_tree.specs.declared.statements.Printed.{Printed}
use Rattle.awk_tree.specs.declared.statements.Redirection.{Redirection}
use Rattle.awk_tree.specs.declared.items.Item.{Item}
use Rattle.awk_tree.specs.declared.items.Item.TheVariants as item
use Rattle.awk_tree.specs.declared.items.Pattern.{Pattern}
use Rattle.awk_tree.specs.declared.items.Pattern.TheVariants as pattern
use Rattle.awk_tree.specs.Tree as t
use Rattle.awk_tree.specs.Tree.{Tree, trees_of, perhaps_of, terms_of, pipes_of, Statement, statements_of, Condition}
use Rattle.awk_tree.specs.Tree.{Entry}

abbrev pub view_step : Expr-F Tree → Tree
view_step (Expr-F.Number p x) = t.number p x
view_step (Expr-F.Quoted p x) = t.quoted p x
view_step (Expr-F.Pattern p x) = t.pattern p x
view_step (Expr-F.Name n) = t.name n
view_step (Expr-F.Element n xs) = t.element n (trees_of xs)
view_step (Expr-F.Field p x) = t.field p x
view_step (Expr-F.Paren p x) = t.paren p x
view_step (Expr-F.Call n xs) = t.call n (trees_of xs)
view_step (Expr-F.Builtin p b xs) = t.builtin p b (trees_of xs)
view_step (Expr-F.Length p) = t.bare_length p
view_step (Expr-F.Split p x n y) = t.split p x n (perhaps_of y)
view_step (Expr-F.Substitute p all x y z) = t.substitute p all x y (perhaps_of z)
view_step (Expr-F.Getline p x y) = t.getline p (perhaps_of x) (perhaps_of y)
view_step (Expr-F.Before p s x) = t.before p s x
view_step (Expr-F.After x p s) = t.after x p s
view_step (Expr-F.Signed p s x) = t.signed p s x
view_step (Expr-F.Power x p y) = t.power x p y
view_step (Expr-F.Product x ts) = t.product x (terms_of ts)
view_step (Expr-F.Sum x ts) = t.sum x (terms_of ts)
view_step (Expr-F.Concat x xs) = t.concat x (trees_of xs)
view_step (Expr-F.Pipe x ps) = t.pipe x (pipes_of ps)
view_step (Expr-F.Compare x p c y) = t.compare x p c y
view_step (Expr-F.Match x p unlike y) = t.matched x p unlike y
view_step (Expr-F.Group p xs ms) = t.group p (trees_of xs) ms
view_step (Expr-F.In x ms) = t.member x ms
view_step (Expr-F.And x xs) = t.and x (trees_of xs)
view_step (Expr-F.Or x xs) = t.or x (trees_of xs)
view_step (Expr-F.Choice x y z) = t.choose x y z
view_step (Expr-F.Assign x p a y) = t.assign x p a y

unfoldable pub view : Expr → Tree
view = fold-Expr Tree view_step

abbrev pub view_term : Term Expr → Term Tree
view_term x = record { operator = x.operator; place = x.place; operand = view x.operand }

abbrev pub view_piped : Piped Expr → Piped Tree
view_piped x = record { place = x.place; target = option_map view x.target }

abbrev pub view_printed : Printed Expr → Printed Tree
view_printed x = record { is_grouped = x.is_grouped; items = map view x.items }

abbrev pub view_redirection : Redirection Expr → Redirection Tree
view_redirection x = record { how = x.how; place = x.place; target = view x.target }

abbrev pub statement_step : Statement-F Statement → Statement
statement_step Statement-F.Empty = t.empty
statement_step (Statement-F.Expr x) = t.plain (view x)
statement_step (Statement-F.Print p x r) = t.print p (view_printed x) (option_map view_redirection r)
statement_step (Statement-F.Printf p x r) = t.printf p (view_printed x) (option_map view_redirection r)
statement_step (Statement-F.Delete n xs) = t.delete n (map view xs)
statement_step (Statement-F.DeleteAll n) = t.delete_all n
statement_step (Statement-F.Jump p which) = t.jump p which
statement_step (Statement-F.Exit p x) = t.exit p (option_map view x)
statement_step (Statement-F.Return p x) = t.return p (option_map view x)
statement_step (Statement-F.Block xs) = t.block (statements_of xs)
statement_step (Statement-F.If x s) = t.if_then (view x) s
statement_step (Statement-F.IfElse x s u) = t.if_else (view x) s u
statement_step (Statement-F.While x s) = t.while_do (view x) s
statement_step (Statement-F.Do s x) = t.do_while s (view x)
statement_step (Statement-F.For x y z s) = t.for_loop (option_map view x) (option_map view y) (option_map view z) s
statement_step (Statement-F.ForIn p k a s) = t.for_each p k a s

unfoldable pub view_statement : code.Statement → Statement
view_statement = fold-Statement Statement statement_step

abbrev pub view_pattern : Pattern → Condition
view_pattern (pattern.Expr x) = t.single (view x)
view_pattern (pattern.Range x y) = t.range (view x) (view y)

abbrev pub view_item : Item → Entry
view_item (item.Begin xs) = t.at_begin (map view_statement xs)
view_item (item.End xs) = t.at_end (map view_statement xs)
view_item (item.Always xs) = t.always (map view_statement xs)
view_item (item.Shown p) = t.shown (view_pattern p)
view_item (item.Rule p xs) = t.rule (view_pattern p) (map view_statement xs)
view_item (item.Function f) = t.function f.name f.params (map view_statement f.body)
