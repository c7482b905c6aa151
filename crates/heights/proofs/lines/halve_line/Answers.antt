use Rattle.std.proofs.Common.{◌≡◌, ◌+◌, ◌*◌, ◌/◌, List, [], length, get_or, ℤ, pos, refl, arith, rules}
use Rattle.std.proofs.lemmas.Int.{to_z-of_z}
use Rattle.heights.specs.Lines.{strided}
use Rattle.heights.proofs.Strides.{pair_of, paired_more, paired_all}
use Rattle.heights.proofs.lines.halve_line.Goals as goal
use Rattle.heights.proofs.lines.halve_line.Goals.{In-loop-p}

-- the pair that an iteration halves
pair : (c : In-loop-p) → let ab : List ℤ = get_or c.as_chunks.result.0.now c.loop-p.p [] in
    let f = strided c.args.values.now c.args.stride in (get_or ab 0 (pos 0) ≡ f (2 * c.loop-p.p)) × (get_or ab 1 (pos 0) ≡ f (2 * c.loop-p.p + 1))
pair c = pair_of c.args.values.now c.loop-t.line c.args.stride c.loop-p.p _ c.as_chunks.ensures.front (omega arith) (λ k l. c.loop-t.invariant k (omega arith))

pub halve-low-requires : goal.halve-low-requires
halve-low-requires c =
    let p = pair (goal.at.halve-low-requires c).In-loop-p in
    let a = c.requires.small (2 * c.loop-p.p) (omega arith) in
    let b = c.requires.small (2 * c.loop-p.p + 1) (omega arith) in
    grind (arith, to_z-of_z)

pub loop-p-preserved : goal.loop-p-preserved
loop-p-preserved c =
    let p = pair (goal.at.loop-p-preserved c).In-loop-p in
    paired_more _ _ _ _ _ c.halve-low.result.0 c.halve-low.result.1 c.loop-p.invariant c.requires.some (omega arith) (λ k l. omega (arith, c.requires.inside k (omega arith))) (search rules) (search rules) (grind (arith, to_z-of_z)) (grind (arith, to_z-of_z))

pub returns-clause-line : goal.returns-clause-line
returns-clause-line c =
    let e : c.loop-p.p ≡ length c.as_chunks.result.0.now = omega arith in
    λ t l. paired_all _ _ (length c.args.line.now / 2) _ (length c.args.line.now) _ (rw e at c.loop-p.invariant) (omega arith) c.requires.some refl t l
