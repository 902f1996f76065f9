-- What is run, and what is refused before a run: the policy first, then the script, then the assignments of `-v`.
use Rattle.std.specs.Prelude.{◌≡◌, ◌≢◌, ℕ, ◌+◌, List, [], ◌∷◌, Option, Some, None, ◌⊎◌, if◌then◌else◌}
use Rattle.awk_numbers.specs.declared.number.Numbers.{Numbers}
use Rattle.awk_resolve.specs.Assigns.{can_assign}
use Rattle.awk_resolve.specs.declared.kinds.Kinds.{Kinds}
use Rattle.awk_parse.specs.Scripts.{IsSpelled, IsRefused as IsRefusedByGrammar}
use Rattle.awk_parse.specs.declared.script.Script.{Script as Spelled}
use Rattle.awk_tokens.specs.Reads.{Reads, Refuses}
use Rattle.awk_tokens.specs.declared.syntax_error.SyntaxError.{SyntaxError}
use Rattle.awk_tokens.specs.declared.token.Token.{Token}
use Rattle.box_policy.specs.Refusals.{IsRefused as IsPolicyRefused}
use Rattle.box_policy.specs.Rulebook.{Rulebook}
use Rattle.box_policy.specs.Written.{Written}
use Rattle.awkbox.specs.declared.accepting.Refusal.{Refusal}
use Rattle.awkbox.specs.declared.accepting.Refusal.TheVariants.{Policy, Script, Assign}

-- the bytes are read, by the script's profile, as tokens, which spell it
pub record ReadsScript (script : List ℕ) (s : Spelled) : Type 0 where
  pub tokens : List Token
  pub reads : Reads s.numbers script tokens
  pub spelled : IsSpelled tokens s

-- The number of the first pair of `-v` whose name is one that a host may not set; they are numbered from n.
abbrev pub first_barred : Kinds → ℕ → List (List ℕ × List ℕ) → Option ℕ
first_barred kinds n [] = None
first_barred kinds n (pair ∷ pairs) = if can_assign kinds pair.0 then first_barred kinds (n + 1) pairs else Some n

-- the texts write the policy and spell the script, by this profile, and each pair may be set
pub record Accepted (numbers : Numbers) (policy script : List ℕ) (pairs : List (List ℕ × List ℕ)) (book : Rulebook)
    (s : Spelled) : Type 0
  where
    pub written : Written policy book
    pub profile : s.numbers ≡ numbers
    pub read : ReadsScript script s
    pub assigns : first_barred s.kinds 1 pairs ≡ None

-- Why the bytes spell no script: S9 is want of memory, S1 to S3 stand where no token does, and S4 to S8 where tokens
-- do.
abbrev pub IsScriptRefused : Numbers → List ℕ → SyntaxError → Type 0
IsScriptRefused numbers script e = (e.code ≢ 9 → Refuses numbers script e.code e.place)
    ⊎ ((tokens : List Token) × Reads numbers script tokens × IsRefusedByGrammar tokens e)

-- the texts write some policy and spell a script, of which this pair is the first that may not be set
pub record IsBarred (numbers : Numbers) (policy script : List ℕ) (pairs : List (List ℕ × List ℕ)) (n : ℕ) : Type 0 where
  pub book : Rulebook
  pub written : Written policy book
  pub spelled : Spelled
  pub profile : spelled.numbers ≡ numbers
  pub read : ReadsScript script spelled
  pub first : first_barred spelled.kinds 1 pairs ≡ Some n

-- Why nothing is run: of the policy, the script and the pairs, the first that is refused.
abbrev pub IsRefused : Numbers → List ℕ → List ℕ → List (List ℕ × List ℕ) → Refusal → Type 0
IsRefused numbers policy script pairs (Policy e) = IsPolicyRefused policy e
IsRefused numbers policy script pairs (Script e) = (book : Rulebook) × Written policy book
    × IsScriptRefused numbers script e
IsRefused numbers policy script pairs (Assign n) = IsBarred numbers policy script pairs n
