-- Whether a run reads records: which programs have rules for them, or an END.
use Rattle.std.proofs.Common.{◌≡◌, refl, List, [], ◌∷◌, ◌++◌, map}
use Rattle.awk_program.specs.View.{view_program, view_rule, view_statement}
use Rattle.awk_program.specs.declared.program.Program as code
use Rattle.awk_program.specs.declared.program.Rule as code_rule
use Rattle.awk_program.specs.declared.statements.Statement as code_statement
use Rattle.awk_machine.specs.Pieces.{Piece, At, Records}
use Rattle.awk_machine.specs.Rules.{records}

pub reads_none : (x : code.Program) (k : List Piece) → x.rules ≡ [] → x.end ≡ [] → records (view_program x) ++ k ≡ k
reads_none x k e f = reads_by x.rules x.end e f
  where
    reads_by : (rules : List code_rule.Rule) (end : List (List code_statement.Statement)) → rules ≡ [] → end ≡ []
        → records (record (view_program x) {
          rules = map (view_rule (map (λ n. n.text) x.variables)) rules;
          end =
              map (map (view_statement (map (λ n. n.text) x.variables))) end;
        }) ++ k ≡ k
    reads_by [] [] e f = refl
    reads_by [] (y ∷ ys) e f = absurd (cc)
    reads_by (y ∷ ys) end e f = absurd (cc)

pub reads_end : (x : code.Program) (k : List Piece) → (x.end ≡ [] → ⊥) → records (view_program x) ++ k
    ≡ At Records [] ∷ k
reads_end x k f = reads_by x.rules x.end f
  where
    reads_by : (rules : List code_rule.Rule) (end : List (List code_statement.Statement)) → (end ≡ [] → ⊥)
        → records (record (view_program x) {
          rules = map (view_rule (map (λ n. n.text) x.variables)) rules;
          end =
              map (map (view_statement (map (λ n. n.text) x.variables))) end;
        }) ++ k ≡ At Records [] ∷ k
    reads_by [] [] f = absurd (f refl)
    reads_by [] (y ∷ ys) f = refl
    reads_by (y ∷ ys) end f = refl

pub reads_rules : (x : code.Program) (k : List Piece) → (x.rules ≡ [] → ⊥) → records (view_program x) ++ k
    ≡ At Records [] ∷ k
reads_rules x k f = reads_by x.rules x.end f
  where
    reads_by : (rules : List code_rule.Rule) (end : List (List code_statement.Statement)) → (rules ≡ [] → ⊥)
        → records (record (view_program x) {
          rules = map (view_rule (map (λ n. n.text) x.variables)) rules;
          end =
              map (map (view_statement (map (λ n. n.text) x.variables))) end;
        }) ++ k ≡ At Records [] ∷ k
    reads_by [] end f = absurd (f refl)
    reads_by (y ∷ ys) end f = refl
