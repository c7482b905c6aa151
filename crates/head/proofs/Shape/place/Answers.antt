use Rattle.std.proofs.Common.{◌≡◌, rules}
use Rattle.head.specs.Heads.{place_of}
use Rattle.head.proofs.Places.{place_within}
use Rattle.head.proofs.Shape.place.Goals as goal

pub returns-clause-inside : goal.returns-clause-inside
returns-clause-inside c =
    let m = c.args.self.now.exponent in
    let e : c.then.result ≡ place_of m c.args.row c.args.column = search rules in
    rw e (place_within m c.args.row c.args.column)
