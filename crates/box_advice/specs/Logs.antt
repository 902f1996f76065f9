-- How a log of denials, or an audit, is read. Both name requests, one a line; a file may hold the one behind the other.
use Rattle.std.specs.Prelude.{◌≡◌, ℕ, ◌+◌, ◌<◌, ◌^◌, ◌==◌, ◌&&◌, length, Bool, List, [], ◌∷◌, ◌++◌, ◌⊎◌, All}
use Rattle.std.specs.Prelude.{Option, None, Some, codes, unwrap_or, if◌then◌else◌}
use Rattle.std.specs.List.{list_any}
use Rattle.std.specs.Str.{bytes_eq}
use Rattle.awk_text.specs.declared.place.Place.{Place}
use Rattle.box_audit.specs.Audited.{line_of as audit_line}
use Rattle.box_monitor.specs.Judged.{spelled}
use Rattle.box_monitor.specs.Lines.{line_of as log_line}
use Rattle.box_monitor.specs.Subjects.{Subject}
use Rattle.box_advice.specs.LogLines.{HasNo, IsPlace}
use Rattle.box_advice.specs.Wishes.{given_of}
use Rattle.box_advice.specs.declared.denials.LogError.{LogError}
use Rattle.box_advice.specs.declared.denials.LogError.TheVariants.{Line, Memory}
use Rattle.box_advice.specs.declared.wishes.Origin.TheVariants.{Log}
use Rattle.box_advice.specs.declared.wishes.Wish.{Wish}

-- ---- a line

-- the number of a rule has 32 bits
abbrev pub IsRule : Option ℕ → Type 0
IsRule None = Unit {0}
IsRule (Some rule) = rule < 2 ^ 32

-- the log of a run has this line, without its end, where the policy denied the request
abbrev pub IsDenial : List ℕ → Place → Subject → Type 0
IsDenial line place subject =
    (rule : Option ℕ) × IsRule rule
    × (line ++ codes "\n"
    ≡ log_line (record { place = place; kind = subject.kind; rule = rule; text = subject.text }))

-- its audit has this one, where the request was passed on
abbrev pub IsPassed : List ℕ → Place → Subject → Type 0
IsPassed line place subject =
    (failed : Bool) × (line ++ codes "\n" ≡ audit_line (record { place = place; subject = subject; failed = failed }))

-- operands are asked for at 0:0, which is no place in a script
abbrev pub is_start : Place → Bool
is_start place = place.line == 0 && place.column == 0

-- what is wished by the line of this number
abbrev pub wish_of : ℕ → Place → Subject → Wish
wish_of number place subject = record {
  kind = subject.kind;
  text = Some subject.text;
  may_be_given = given_of subject.kind (is_start place);
  origin = Log number;
}

-- the line of this number is one that a run writes, and this is wished by it
pub record Tells (number : ℕ) (line : List ℕ) (wish : Wish) : Type 0 where
  pub place : Place
  pub subject : Subject
  pub is_place : IsPlace place
  pub bytes : All (λ byte. byte < 256) subject.text
  pub written : IsDenial line place subject ⊎ IsPassed line place subject
  pub is_wish : wish ≡ wish_of number place subject

-- ---- all lines

-- the file is these lines, each with its end, a newline; the last one may lack it
abbrev pub AreLines : List ℕ → List (List ℕ) → Type 0
AreLines log [] = log ≡ []
AreLines log (line ∷ lines) =
    HasNo 10 line
    × (((log ≡ line) × (0 < length line) × (lines ≡ []))
    ⊎ ((more : List ℕ) × (log ≡ line ++ 10 ∷ more) × AreLines more lines))

-- all that is asked for: kind, text, and whether it may be an operand
abbrev pub request_of : Wish → List ℕ
request_of wish = spelled wish.kind wish.may_be_given (unwrap_or wish.text [])

-- one more wish behind these, unless one of them asks for the same
abbrev pub with_wish : List Wish → Wish → List Wish
with_wish wishes wish =
    if list_any (λ one. bytes_eq (request_of one) (request_of wish)) wishes then wishes else wishes ++ wish ∷ []

-- The wishes of these lines, of which the first one has this number, behind those before them: each line tells of one,
-- and the same request counts where it stands first.
abbrev pub Gathers : ℕ → List Wish → List (List ℕ) → List Wish → Type 0
Gathers number before [] wishes = wishes ≡ before
Gathers number before (line ∷ lines) wishes =
    (wish : Wish) × Tells number line wish × Gathers (number + 1) (with_wish before wish) lines wishes

-- of these lines, this is the number of the first one that tells of nothing
abbrev pub Fails : ℕ → List (List ℕ) → ℕ → Type 0
Fails number [] failed = ⊥
Fails number (line ∷ lines) failed =
    ((failed ≡ number) × ((wish : Wish) → Tells number line wish → ⊥))
    ⊎ ((wish : Wish) × Tells number line wish × Fails (number + 1) lines failed)

-- a log with these wishes, once each
abbrev pub IsRead : List ℕ → List Wish → Type 0
IsRead log wishes = (lines : List (List ℕ)) × AreLines log lines × Gathers 1 [] lines wishes

-- why it is not read; memory may be refused whatever it holds
abbrev pub IsLogRefused : List ℕ → LogError → Type 0
IsLogRefused log (Line number) = (lines : List (List ℕ)) × AreLines log lines × Fails 1 lines number
IsLogRefused log Memory = Unit {0}
