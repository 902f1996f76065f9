use Rattle.std.proofs.Common.{◌≡◌, ◌∷◌, ◌++◌, take}
use Rattle.std.specs.List.{flat_map}
use Rattle.awk_sources.specs.Joined.{texts_of}
use Rattle.awk_sources.proofs.joining.copied.Given as goal

-- the first text, and those of the others that were met
abbrev pub invariant-loop-other : goal.invariant-loop-other
invariant-loop-other l = l.whole.items ≡ l.initial.whole.items ++ flat_map (λ text. 10 ∷ text)
    (texts_of (take l.other-index l.others))
