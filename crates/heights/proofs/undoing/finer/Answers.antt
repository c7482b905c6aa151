use Rattle.std.proofs.Common.{◌≤◌, nat_abs, arith}
use Rattle.std.proofs.lemmas.Int.{to_z-of_z}
use Rattle.heights.proofs.Walks.{cast_abs, read_in, read_small}
use Rattle.heights.proofs.undoing.finer.Given as given
use Rattle.heights.proofs.undoing.finer.Goals as goal
use Rattle.heights.proofs.undoing.finer.Goals.{After-coefficient-across}

-- the three differences are small
small : (g : given.Over) (c : After-coefficient-across g) → record { below : nat_abs c.coefficient-below.result ≤ 32767; beside : nat_abs c.coefficient-beside.result ≤ 32767; across : nat_abs c.coefficient-across.result ≤ 32767 }
small g c =
    let s = read_small _ (g.G.CoefficientGrid.coefs c.args.grid.now) (g.met.G.CoefficientGrid.small c.args.grid.now) in
    record { below = s _ _ _ c.coefficient-below.ensures; beside = s _ _ _ c.coefficient-beside.ensures; across = s _ _ _ c.coefficient-across.ensures }

pub one_of-requires : goal.one_of-requires
one_of-requires g c =
    let s = small g (goal.at.one_of-requires g c).After-coefficient-across in
    record { low_small = omega (arith, cast_abs, c.one_of-left.ensures.small); difference_small = omega (arith, cast_abs, c.one_of-right.ensures.small) }

pub returns-clause-value : goal.returns-clause-value
returns-clause-value g c = grind (arith, to_z-of_z, read_in)

pub returns-clause-small : goal.returns-clause-small
returns-clause-small g c =
    let s = small g (goal.at.returns-clause-small g c).After-coefficient-across in
    omega (arith, cast_abs, c.one_of.ensures.small, c.one_of-left.ensures.small, c.one_of-right.ensures.small)
