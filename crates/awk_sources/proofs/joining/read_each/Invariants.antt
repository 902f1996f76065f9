use Rattle.std.proofs.Common.{◌≡◌, ◌+◌, eqb, take, count_by, All}
use Rattle.awk_tokens.specs.Places.{capped}
use Rattle.awk_sources.specs.Joined.{lead, texts_of}
use Rattle.awk_sources.specs.Parts.{IsRead}
use Rattle.awk_sources.proofs.joining.read_each.Given as goal

-- the lines before this text, and that each of those before it is read
abbrev pub invariant-loop-source : goal.invariant-loop-source
invariant-loop-source l =
    (l.lines ≡ capped (count_by (λ b. eqb b 10) (lead (texts_of (take l.source-index l.sources)))))
    × All (IsRead l.fn.numbers) (texts_of (take l.source-index l.sources))
