-- Rows: trees, and the programs that they stand for.
use Rattle.std.proofs.Common.{◌≡◌, ℕ, pos, true, false, [], ◌∷◌, codes, refl}
use Rattle.awk_numbers.specs.declared.number.Number.TheVariants.{Whole}
use Rattle.awk_numbers.specs.declared.number.Numbers.TheVariants as profile
use Rattle.awk_text.specs.declared.place.Place.{Place}
use Rattle.awk_tree.specs.Tree as t
use Rattle.awk_tree.specs.Tree.{Text}
use Rattle.awk_tree.specs.declared.names.Name.{Name}
use Rattle.awk_tree.specs.declared.operators.Arithmetic.TheVariants as arithmetic
use Rattle.awk_tree.specs.declared.operators.Comparison.TheVariants as tree_comparison
use Rattle.awk_tokens.specs.declared.terminals.Assignment.TheVariants as assignment
use Rattle.awk_tree.specs.declared.operators.Sign.TheVariants as tree_sign
use Rattle.awk_tokens.specs.declared.words.Builtin.TheVariants as b
use Rattle.awk_tokens.specs.declared.terminals.Step.TheVariants as tree_step
use Rattle.awk_program.specs.declared.operators.Comparison.TheVariants as comparison
use Rattle.awk_program.specs.declared.operators.Operator.TheVariants as operator
use Rattle.awk_program.specs.declared.operators.Sign.TheVariants as sign
use Rattle.awk_program.specs.declared.operators.Step.TheVariants as step
use Rattle.awk_program.specs.declared.operators.StepValue.TheVariants as taken
use Rattle.awk_program.specs.declared.builtins.Builtin.TheVariants as f
use Rattle.awk_program.specs.Program as p
use Rattle.awk_program.specs.Program.{Expression}
use Rattle.awk_lowering.specs.Lowered.{lowered}
use Rattle.awk_lowering.specs.Scopes.{Scope}

abbrev at : ℕ → Place
at n = record { line = 1; column = n }

abbrev name : ℕ → Text → Name
name n x = record { text = x; place = at n }

-- a function f of an array and of a value, whose body has the parameter x
abbrev within : Scope
within = record {
  numbers = profile.Whole;
  parameters = codes "x" ∷ [];
  own_arrays = false ∷ [];
  variables = codes "a" ∷ codes "i" ∷ [];
  script_arrays = true ∷ false ∷ [];
  functions = codes "f" ∷ [];
  arrays = (true ∷ false ∷ []) ∷ [];
}

-- -12 " " -24
row_signs : lowered within (t.concat (t.signed (at 1) tree_sign.Minus (t.number (at 2) (codes "12")))
    (t.more (t.sum (t.quoted (at 5) (codes " ")) (t.term arithmetic.Subtract (at 9) (t.number (at 10) (codes "24"))
    t.no_terms)) t.none))
    ≡ p.concat (p.signed (at 1) sign.Minus (p.number (Whole (pos 12))))
    (p.join (at 5) (p.chain (p.text (codes " ")) (p.term operator.Subtract (at 9)
    (p.number (Whole (pos 24))) p.no_terms))
    p.no_joins)
row_signs = refl

-- $++x++
row_steps : lowered within (t.after (t.field (at 1) (t.before (at 2) tree_step.Increment (t.name (name 4 (codes "x")))))
    (at 5) tree_step.Increment)
    ≡ p.step (at 5) step.Increment taken.Before
    (p.field (at 1) (p.step (at 2) step.Increment taken.Behind (p.variable (p.parameter 0))))
row_steps = refl

-- a[i] += f(a, i)
row_calls : lowered within (t.assign (t.element (name 1 (codes "a")) (t.more (t.name (name 3 (codes "i"))) t.none))
    (at 6) assignment.Add
    (t.call (name 9 (codes "f")) (t.more (t.name (name 11 (codes "a")))
    (t.more (t.name (name 14 (codes "i"))) t.none))))
    ≡ p.change (at 6) operator.Add (p.element (at 1) (p.global (codes "a"))
    (p.more (p.read (p.variable (p.global (codes "i")))) p.none))
    (p.call (at 9) 0 (p.by_name (p.global (codes "a")) (p.by_value (p.read (p.variable (p.global (codes "i"))))
    p.no_arguments)))
row_calls = refl

-- f(a, a): an array that is handed to a value's parameter passes nothing
row_nothing : lowered within
    (t.call (name 1 (codes "f")) (t.more (t.name (name 3 (codes "a"))) (t.more (t.name (name 6 (codes "a"))) t.none)))
    ≡ p.call (at 1) 0 (p.by_name (p.global (codes "a")) (p.by_nothing p.no_arguments))
row_nothing = refl

-- x ~ /b/, and x ~ (/b/)
row_pattern : lowered within (t.matched (t.name (name 1 (codes "x"))) (at 3) false (t.pattern (at 5) (codes "b")))
    ≡ p.matched (at 3) (p.read (p.variable (p.parameter 0))) (p.constant (at 5) (codes "b"))
row_pattern = refl

row_computed : lowered within (t.matched (t.name (name 1 (codes "x"))) (at 3) false
    (t.paren (at 5) (t.pattern (at 6) (codes "b")))) ≡ p.matched (at 3) (p.read (p.variable (p.parameter 0)))
    (p.computed (p.pattern (at 6) (codes "b")))
row_computed = refl

-- ---- of doubles: texts that are wanted

abbrev of_doubles : Scope
of_doubles = record (within) { numbers = profile.Double }

abbrev x_text : ℕ → Expression
x_text n = p.as_text (at n) (p.read (p.variable (p.parameter 0)))

-- x "-" x
row_joined : lowered of_doubles (t.concat (t.name (name 1 (codes "x"))) (t.more (t.quoted (at 3) (codes "-"))
    (t.more (t.name (name 7 (codes "x"))) t.none)))
    ≡ p.concat (x_text 1) (p.join (at 3) (p.text (codes "-")) (p.join (at 7) (x_text 7) p.no_joins))
row_joined = refl

-- a[x, "j"] = x
row_keys : lowered of_doubles (t.assign (t.element (name 1 (codes "a"))
    (t.more (t.name (name 3 (codes "x"))) (t.more (t.quoted (at 6) (codes "j")) t.none))) (at 11) assignment.Set
    (t.name (name 13 (codes "x"))))
    ≡ p.assign (at 11) (p.element (at 1) (p.global (codes "a")) (p.more (x_text 1) (p.more (p.text (codes "j"))
    p.none))) (p.read (p.variable (p.parameter 0)))
row_keys = refl

-- substr(x, x)
row_first : lowered of_doubles (t.builtin (at 1) b.Substr
    (t.more (t.name (name 8 (codes "x"))) (t.more (t.name (name 11 (codes "x"))) t.none)))
    ≡ p.builtin (at 1) f.Substr (p.more (x_text 1) (p.more (p.read (p.variable (p.parameter 0))) p.none))
row_first = refl

-- x "" in a, and x ~ x
row_member : lowered of_doubles (t.member (t.concat (t.name (name 1 (codes "x"))) (t.more (t.quoted (at 3) []) t.none))
    (record { place = at 6; array = name 9 (codes "a") } ∷ []))
    ≡ p.member (p.concat (x_text 1) (p.join (at 3) (p.text []) p.no_joins)) (p.global (codes "a") ∷ [])
row_member = refl

row_matched : lowered of_doubles (t.matched (t.name (name 1 (codes "x"))) (at 3) false (t.name (name 5 (codes "x"))))
    ≡ p.matched (at 3) (x_text 3) (p.computed (x_text 3))
row_matched = refl

-- x "" < x: an operand of a comparison is not marked, and a concatenation in it marks its own
row_compared : lowered of_doubles (t.compare
    (t.concat (t.name (name 1 (codes "x"))) (t.more (t.quoted (at 3) []) t.none))
    (at 6) tree_comparison.Less (t.name (name 8 (codes "x"))))
    ≡ p.compare (at 6) comparison.Less (p.concat (x_text 1) (p.join (at 3) (p.text []) p.no_joins))
    (p.read (p.variable (p.parameter 0)))
row_compared = refl
