-- What of a list of calls is asked of the world behind, and what of it the log tells. Each call is judged after those
-- before it.
use Rattle.std.specs.Prelude.{◌≡◌, List, [], ◌∷◌, ◌++◌, if◌then◌else◌, is_none, IsSome, option_to_list}
use Rattle.box_policy.specs.Rulebook.{Rulebook}
use Rattle.box_world.specs.Calls.{Call}
use Rattle.box_world.specs.declared.ask.Reply.TheVariants.{Failed}
use Rattle.box_monitor.specs.Denials.{after_ask, denial_of}
use Rattle.box_monitor.specs.Told.{Told}

-- the policy after these calls
abbrev pub after : Rulebook → List Call → Rulebook
after book [] = book
after book (call ∷ calls) = after (after_ask book call.0) calls

-- the calls that are not denied, in order
abbrev pub asked : Rulebook → List Call → List Call
asked book [] = []
asked book (call ∷ calls) =
    if is_none (denial_of book call.0) then call ∷ asked (after_ask book call.0) calls
    else asked (after_ask book call.0) calls

-- what is told of the denied ones, in order
abbrev pub told : Rulebook → List Call → List Told
told book [] = []
told book (call ∷ calls) = option_to_list (denial_of book call.0) ++ told (after_ask book call.0) calls

-- a denied one was answered Failed
abbrev pub FailsIfDenied : Rulebook → Call → Type 0
FailsIfDenied book call = IsSome (denial_of book call.0) → call.1 ≡ Failed

-- each denied one was
abbrev pub AllFailed : Rulebook → List Call → Type 0
AllFailed book [] = Unit {0}
AllFailed book (call ∷ calls) = FailsIfDenied book call × AllFailed (after_ask book call.0) calls
