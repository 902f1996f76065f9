-- Which rules a policy gains by what it is to allow.
use Rattle.std.specs.Prelude.{◌≡◌, ℕ, ◌+◌, ◌≤◌, length, Bool, true, false, List, [], ◌∷◌, ◌++◌, Option, Some, None}
use Rattle.std.specs.List.{list_any}
use Rattle.box_policy.specs.declared.policy.Decision.{Decision}
use Rattle.box_policy.specs.declared.policy.Decision.TheVariants.{Allow, Deny, NoRule}
use Rattle.box_policy.specs.declared.policy.Effect.TheVariants.{Allow as AllowIt}
use Rattle.box_policy.specs.declared.policy.Kind.{Kind}
use Rattle.box_policy.specs.declared.policy.Kind.TheVariants.{Read, Write, Append, Run, Env, Assign}
use Rattle.box_policy.specs.declared.policy.Rule.{Rule}
use Rattle.box_policy.specs.Decisions.{decision, speaks}
use Rattle.box_policy.specs.Exact.{is_exact}
use Rattle.box_policy.specs.Rulebook.{Rulebook}
use Rattle.box_advice.specs.declared.wanting.Fate.{Fate}
use Rattle.box_advice.specs.declared.wanting.Fate.TheVariants.{Unknown, Denied, Allowed, Unfit, Offered, Met, Gains}
use Rattle.box_advice.specs.declared.wishes.Wish.{Wish}

-- a wish for a command or a name of the environment gains no rule: it is offered, and a person may allow it
unfoldable pub is_offered : Kind → Bool
is_offered Read = false
is_offered Write = false
is_offered Append = false
is_offered Run = true
is_offered Env = true
is_offered Assign = false

-- only what is read and what is assigned may be an operand word that the run was started with
unfoldable pub given_of : Kind → Bool → Bool
given_of Read may_be_given = may_be_given
given_of Write may_be_given = false
given_of Append may_be_given = false
given_of Run may_be_given = false
given_of Env may_be_given = false
given_of Assign may_be_given = may_be_given

abbrev pub is_given : Wish → Bool
is_given wish = given_of wish.kind wish.may_be_given

-- what is decided of it; where it may be an operand word, of such a word
abbrev pub answer : Rulebook → Wish → List ℕ → Decision
answer book wish text = decision book wish.kind text (is_given wish)

-- one of the rules speaks of the text
abbrev pub speak : List ℕ → List Rule → Kind → List ℕ → Bool → Bool
speak base rules kind text given = list_any (λ rule. speaks base rule kind text given) rules

-- what becomes of a wish: it gains a rule where the policy has none, a pattern may hold the text, it is not just
-- offered, and no rule that was gained speaks of it
unfoldable pub fate_by : (answer : Decision) (is_exact offered is_met : Bool) → Fate
fate_by (Allow n) exact offered met = Allowed
fate_by (Deny n) exact offered met = Denied n
fate_by NoRule false offered met = Unfit
fate_by NoRule true true met = Offered
fate_by NoRule true false true = Met
fate_by NoRule true false false = Gains

abbrev pub fate_at : Rulebook → List Rule → Wish → Option (List ℕ) → Fate
fate_at book rules wish None = Unknown
fate_at book rules wish (Some text) =
    fate_by (answer book wish text) (is_exact book.base wish.kind text) (is_offered wish.kind)
    (speak book.base rules wish.kind text (is_given wish))

abbrev pub fate_of : Rulebook → List Rule → Wish → Fate
fate_of book rules wish = fate_at book rules wish wish.text

-- the rule that allows what is asked for with this text; of an operand word no more than that
abbrev pub grant : Kind → List ℕ → Bool → Rule
grant kind text given = record { effect = AllowIt None; kind = kind; only_given = given; pattern = text }

unfoldable pub gained_by : Fate → Wish → Option (List ℕ) → List Rule
gained_by Gains wish (Some text) = grant wish.kind text (is_given wish) ∷ []
gained_by Gains wish None = []
gained_by Unknown wish text = []
gained_by (Denied n) wish text = []
gained_by Allowed wish text = []
gained_by Unfit wish text = []
gained_by Offered wish text = []
gained_by Met wish text = []

abbrev pub gained : Rulebook → List Rule → Wish → List Rule
gained book rules wish = gained_by (fate_of book rules wish) wish wish.text

-- the rules that are gained by each wish in its turn, behind these
abbrev pub grants_from : Rulebook → List Rule → List Wish → List Rule
grants_from book rules [] = rules
grants_from book rules (wish ∷ wishes) = grants_from book (rules ++ gained book rules wish) wishes

-- the rules are those that the wishes gain, and the policy may have them
pub record IsGained (book : Rulebook) (wishes : List Wish) (gained : List Rule) : Type 0 where
  pub is : gained ≡ grants_from book [] wishes
  pub room : length book.rules + length gained ≤ 1024
