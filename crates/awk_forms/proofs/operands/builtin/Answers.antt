use Rattle.awk_builtins.proofs.Rests.{just_one, just_two, just_three}
use Rattle.awk_forms.proofs.operands.builtin.Goals as goal

pub returns-in-len1 : goal.returns-in-len1
returns-in-len1 g c = rw (just_one c.args.args.now c.x-item.result c.in-len1.len_at_least c.in-len1.len_below
    c.x-item.is) c.unary.ensures

pub returns-in-len2 : goal.returns-in-len2
returns-in-len2 g c = rw (just_two c.args.args.now c.x-item-then-args-lt3.result c.y-item.result c.in-len2.len_at_least
    c.in-len2.len_below c.x-item-then-args-lt3.is c.y-item.is) c.binary.ensures

pub returns-in-len3 : goal.returns-in-len3
returns-in-len3 g c = rw (just_three c.args.args.now c.x-item-then-args-lt4.result c.y-item-then-args-lt4.result
    c.z-item.result c.in-len3.len_at_least c.in-len3.len_below c.x-item-then-args-lt4.is c.y-item-then-args-lt4.is
    c.z-item.is) c.ternary.ensures
