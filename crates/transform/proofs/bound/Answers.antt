use Rattle.transform.proofs.Errors.{answered}
use Rattle.transform.proofs.bound.Goals as goal

pub returns : goal.returns
returns c =
    let v = answered c.args.planes c.args.levels c.in_ok-drift.drift _ c.in_ok-drift.ensures.value c.from.ensures in
    record { value = v.0; law = v.1 }
