use Rattle.awk_resolve.specs.Search.{ParameterAt}
use Rattle.awk_resolve.proofs.Naming.{is_bad, is_fine, saw_more, saw_none}
use Rattle.awk_resolve.proofs.Searches.{all_none, here_after, more_none, nothing_none}
use Rattle.awk_resolve.proofs.faults.misnamed_among.Goals as goal

pub loop-param-init : goal.loop-param-init
loop-param-init c = record {
  saw = rw c.requires saw_none;
  none =
      nothing_none (ParameterAt c.args.known.now);
}

pub returns-then-is_misnamed : goal.returns-then-is_misnamed
returns-then-is_misnamed c =
    let n = c.param-item.result in
    here_after (ParameterAt c.args.known.now) c.args.params.now c.loop-param.param-index n n.place
    c.loop-param-test.true c.param-item.is
    (is_bad c.args.known.now _ n c.loop-param.seen c.loop-param.invariant.saw c.is_misnamed.result c.is_misnamed.ensures
    c.if-is_misnamed.true)

pub loop-param-preserved : goal.loop-param-preserved
loop-param-preserved c = record {
  saw = rw (c.in_ok-put.ensures, c.in_ok-copy.ensures) (saw_more c.args.params.now c.loop-param.param-index
      c.param-item.result c.loop-param.seen c.loop-param-test.true c.param-item.is c.loop-param.invariant.saw);
  none = more_none (ParameterAt c.args.known.now) c.args.params.now c.loop-param.param-index c.param-item.result
      c.loop-param-test.true c.param-item.is c.loop-param.invariant.none
      (is_fine c.args.known.now _ c.param-item.result c.loop-param.seen c.loop-param.invariant.saw c.is_misnamed.result
      c.is_misnamed.ensures c.if-is_misnamed.false);
}

pub returns : goal.returns
returns c = all_none (ParameterAt c.args.known.now) c.args.params.now c.loop-param.param-index c.loop-param-test.false
    c.loop-param.invariant.none
