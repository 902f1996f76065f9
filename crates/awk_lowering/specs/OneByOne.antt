-- Parts of chains and of lists one by one.
use Rattle.std.specs.Prelude.{ℕ, List, ◌++◌, map, take, drop}
use Rattle.awk_text.specs.declared.place.Place.{Place}
use Rattle.awk_tree.specs.Tree.{Tree}
use Rattle.awk_tree.specs.declared.expressions.Term as tree_term
use Rattle.awk_program.specs.declared.expressions.Term.{Term}
use Rattle.awk_program.specs.declared.expressions.Joined.{Joined}
use Rattle.awk_program.specs.Program as p
use Rattle.awk_program.specs.Program.{Expression, Pipes, Arguments}
use Rattle.awk_lowering.specs.Forms.{operator_of}
use Rattle.awk_lowering.specs.Lowered.{lowered, lowered_text}
use Rattle.awk_lowering.specs.Scopes.{Scope}
use Rattle.awk_lowering.specs.Starts.{start}

abbrev pub lowered_term : Scope → tree_term.Term Tree → Term Expression
lowered_term c x = record { operator = operator_of x.operator; place = x.place; operand = lowered c x.operand }

abbrev pub lowered_join : Scope → Tree → Joined Expression
lowered_join c x = record { place = start x; operand = lowered_text c (start x) x }

-- a list of which texts are wanted of so many from the first on
abbrev pub first_lowered : Scope → Place → ℕ → List Tree → List Expression
first_lowered c q n xs = map (lowered_text c q) (take n xs) ++ map (lowered c) (drop n xs)

-- one list behind another
abbrev pub then_pipes : Pipes → Pipes → Pipes
then_pipes p.no_pipes ys = ys
then_pipes (p.piped q r xs) ys = p.piped q r (then_pipes xs ys)

abbrev pub then_arguments : Arguments → Arguments → Arguments
then_arguments p.no_arguments ys = ys
then_arguments (p.by_value x xs) ys = p.by_value x (then_arguments xs ys)
then_arguments (p.by_name v xs) ys = p.by_name v (then_arguments xs ys)
then_arguments (p.by_nothing xs) ys = p.by_nothing (then_arguments xs ys)
