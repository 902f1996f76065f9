use Rattle.awk_numbers.proofs.Canonical.{closed_add, closed_sub, closed_mul, closed_div, closed_rem, closed_neg}
use Rattle.awk_numbers.proofs.PowerLaws.{closed_pow}
use Rattle.awk_numbers.proofs.laws.closed.Goals as goal

pub returns-clause-sum : goal.returns-clause-sum
returns-clause-sum c = closed_add

pub returns-clause-difference : goal.returns-clause-difference
returns-clause-difference c = closed_sub

pub returns-clause-product : goal.returns-clause-product
returns-clause-product c = closed_mul

pub returns-clause-quotient : goal.returns-clause-quotient
returns-clause-quotient c = closed_div

pub returns-clause-remainder : goal.returns-clause-remainder
returns-clause-remainder c = closed_rem

pub returns-clause-negative : goal.returns-clause-negative
returns-clause-negative c = closed_neg

pub returns-clause-power : goal.returns-clause-power
returns-clause-power c = closed_pow
