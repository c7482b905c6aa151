use Rattle.std.proofs.Common.{arith, w32, SFits, rules}
use Rattle.std.proofs.lemmas.Int.{to_z-of_z}
use Rattle.heights.proofs.Sides.{twice_next, square_in}
use Rattle.heights.proofs.Walks.{walked_more, walked_all}
use Rattle.heights.proofs.undoing.undone_at.Goals as goal

pub finer-height-requires-clause-row_in : goal.finer-height-requires-clause-row_in
finer-height-requires-clause-row_in g c = grind (arith, twice_next, square_in)

pub finer-height-requires-clause-column_in : goal.finer-height-requires-clause-column_in
finer-height-requires-clause-column_in g c = grind (arith, twice_next, square_in)

pub loop-t-preserved : goal.loop-t-preserved
loop-t-preserved g c =
    let s = (g.G.CoefficientGrid.shaped c.args.grid.now).within in
    let f : SFits w32 c.finer-height.result = search rules in
    simp to_z-of_z (walked_more _ _ _ _ _ _ _ _ _ c.loop-t.invariant (omega arith) (grind arith) s (grind arith) c.requires.row_in c.requires.column_in c.finer-height.ensures.value c.finer-height.ensures.small)

pub returns-clause-value : goal.returns-clause-value
returns-clause-value g c = grind (arith, walked_all)
