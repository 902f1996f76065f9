use Rattle.std.proofs.Common.{Some, None}
use Rattle.awk_ere.proofs.Seeking.{has_found}
use Rattle.awk_ere.proofs.table.Matcher.has_at_end.Goals as goal

pub returns-in-Match : goal.returns-in-Match
returns-in-Match c = has_found c.args.self.now _ _ (Some (c.in-Match.field-0, c.in-Match.field-1)) c.in-Match.ensures

pub returns-in-NoMatch : goal.returns-in-NoMatch
returns-in-NoMatch c = has_found c.args.self.now _ _ None c.in-NoMatch.ensures
