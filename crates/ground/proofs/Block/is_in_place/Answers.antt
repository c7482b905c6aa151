use Rattle.std.proofs.Common.{arith, pow_mono}
use lib.Pow.{pow-lt}
use Rattle.std.proofs.lemmas.Bool.{false≢true}
use Rattle.ground.proofs.Block.is_in_place.Goals as goal

pub returns-then-self-exponent : goal.returns-then-self-exponent
returns-then-self-exponent c =
    let l = pow-lt {i = c.args.shape.exponent} {j = c.args.self.side} (omega arith) in
    (λ e. absurd (false≢true e), λ p. absurd (omega (arith, p.0)))

pub fits-requires-clause-room : goal.fits-requires-clause-room
fits-requires-clause-room c = omega (arith, pow_mono {i = c.args.self.side} {j = c.args.shape.exponent} (omega arith))
