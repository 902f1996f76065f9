-- The files that a run is given, its policy, its script and its log, and what keeps them apart from what the script
-- does.
use Rattle.std.specs.Prelude.{ℕ, Bool, false, not, ◌&&◌, ◌||◌, ◌==◌, List, [], ◌∷◌, length, take, drop, Option, None}
use Rattle.std.specs.Prelude.{Some, if◌then◌else◌}
use Rattle.std.specs.List.{list_any}
use Rattle.std.specs.Str.{bytes_eq}
use Rattle.box_monitor.specs.Denials.{allowing}
use Rattle.box_policy.specs.Decisions.{decision}
use Rattle.box_policy.specs.Files.{speaks_of_files}
use Rattle.box_policy.specs.Rulebook.{Rulebook}
use Rattle.box_policy.specs.declared.policy.Kind.{Kind}
use Rattle.box_policy.specs.declared.policy.Kind.TheVariants.{Write, Append}
use Rattle.awkbox.specs.declared.own_files.Identity.{Identity}

abbrev pub is_same : Identity → Identity → Bool
is_same left right = left.device == right.device && left.number == right.number

-- what is no regular file may be the log, and a regular one that is none of the others
abbrev pub may_be_log : Identity → Bool → List Identity → Bool
may_be_log log is_regular others = not (is_regular && list_any (is_same log) others)

-- two folders that could be looked at, and are one
abbrev pub are_one : Option Identity → Option Identity → Bool
are_one (Some here) (Some base) = is_same here base
are_one None base = false
are_one (Some here) None = false

-- a run may start where no rule speaks of files, or where the folder is the policy's base
abbrev pub may_start : Rulebook → Option Identity → Option Identity → Bool
may_start book here base = not (speaks_of_files book) || are_one here base

-- ---- which rule lets a script write to a file

abbrev pub or_else : Option ℕ → Option ℕ → Option ℕ
or_else (Some rule) other = Some rule
or_else None other = other

-- the rule that lets a script write the file of this name anew, or else the one that lets it append
abbrev pub rule_of_name : Rulebook → List ℕ → Option ℕ
rule_of_name book name =
    or_else (allowing (decision book Write name false)) (allowing (decision book Append name false))

-- what stands behind a slash
abbrev pub behind_slash : List ℕ → Option (List ℕ)
behind_slash [] = None
behind_slash (b ∷ bs) = if b == 47 then Some bs else None

-- the name that a file in a folder has there
abbrev pub name_in : List ℕ → List ℕ → Option (List ℕ)
name_in folder name =
    if bytes_eq (take (length folder) name) folder then behind_slash (drop (length folder) name) else None

abbrev pub rule_of_inner : Rulebook → Option (List ℕ) → Option ℕ
rule_of_inner book None = None
rule_of_inner book (Some name) = rule_of_name book name

-- the rule that lets a script write to the file of this name, or by the name that it has in the folder
abbrev pub writing_rule : Rulebook → List ℕ → List ℕ → Option ℕ
writing_rule book folder name = or_else (rule_of_name book name) (rule_of_inner book (name_in folder name))
