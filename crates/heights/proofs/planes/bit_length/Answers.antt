use Rattle.std.proofs.Common.{arith}
use Rattle.std.proofs.lemmas.Nat.{leading_le}
use Rattle.heights.proofs.Digits.{digits}
use Rattle.heights.proofs.planes.bit_length.Goals as goal

pub returns : goal.returns
returns c =
    let l = leading_le 32 c.args.n in
    let d = digits c.args.n _ c.ranges.n.fits (omega arith) in
    record { enough = d.0; least = d.1 }
