-- A string that ends goes no further where more stands behind it.
use Rattle.std.proofs.Common.{◌++◌}
use Rattle.awk_tokens.specs.Bytes.{Text}
use Rattle.awk_tokens.specs.Strings.{StringEnds, ends, escaped, plain}

pub string_on : (z rest m : Text) → StringEnds z rest → StringEnds (z ++ m) (rest ++ m)
string_on _ _ m (ends rest) = ends (rest ++ m)
string_on _ _ m (escaped b z rest h) = escaped b (z ++ m) (rest ++ m) (string_on z rest m h)
string_on _ _ m (plain b z rest n34 n92 n10 h) = plain b (z ++ m) (rest ++ m) n34 n92 n10 (string_on z rest m h)
