-- What the host of a script's run is told.
use Rattle.std.specs.Prelude.{ℕ, ◌+◌, Bool, if◌then◌else◌, List, [], ◌∷◌, map}
use Rattle.awk_numbers.specs.declared.number.Number.{Number}
use Rattle.awk_numbers.specs.declared.number.Numbers.{Numbers}
use Rattle.awk_resolve.specs.Assigns.{can_assign}
use Rattle.awk_parse.specs.declared.script.Script.{Script}
use Rattle.awk_program.specs.Slots.{Text}
use Rattle.awk_program.specs.View.{names_of}
use Rattle.awk_input.specs.Hosts.{Hosted, with_name, with_word}
use Rattle.awk_input.specs.declared.host.HostUse.TheVariants.{Variable, Barred}
use Rattle.awk_run.specs.SetupParts.{SetupParts, number_of_seed}

-- the words that the run was started with
abbrev pub with_words : List Text → Hosted → Hosted
with_words [] h = h
with_words (x ∷ xs) h = with_words xs (with_word x h)

-- the variables of the script by their slots, from this one on, of which the host may set some
abbrev pub with_variables : (Text → Bool) → ℕ → List Text → Hosted → Hosted
with_variables free n [] h = h
with_variables free n (x ∷ xs) h =
    with_variables free (n + 1) xs (with_name x (if free x then Variable n else Barred) h)

-- the functions of the script, which it may not set
abbrev pub with_functions : List Text → Hosted → Hosted
with_functions [] h = h
with_functions (x ∷ xs) h = with_functions xs (with_name x Barred h)

abbrev pub nothing_told : Numbers → Number → ℕ → Hosted
nothing_told numbers seed steps = record { bound = steps; numbers = numbers; seed = seed; words = []; names = [] }

abbrev pub host_of : Script → SetupParts → ℕ → Hosted
host_of s setup steps =
    with_functions (map (λ f. f.name) s.program.functions)
    (with_variables (can_assign s.kinds) 0 (names_of s.program)
    (with_words setup.operands (nothing_told setup.numbers (number_of_seed setup.random_seed) steps)))
