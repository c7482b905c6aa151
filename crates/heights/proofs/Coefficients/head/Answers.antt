use Rattle.std.proofs.Common.{◌≡◌, ◌^◌, length, vec_items, sym, ◌∙◌, arith}
use Rattle.heights.proofs.Digits.{planes_of_top, top_fits}
use Rattle.heights.proofs.Coefficients.head.Goals as goal

pub unwrap-requires : goal.unwrap-requires
unwrap-requires c =
    let l = top_fits _ _ _ c.args.self.now.small c.top.ensures c.bit_length.ensures.least in
    grind arith

pub returns-clause-planes : goal.returns-clause-planes
returns-clause-planes c =
    let s = c.args.self.now in
    let w : length (vec_items s.values) ≡ 4 ^ s.shape.exponent = sym s.values.ok.0 ∙ s.whole in
    let p = planes_of_top s.shape.exponent (vec_items s.values) _ _ w c.top.ensures c.bit_length.ensures.enough c.bit_length.ensures.least in
    grind arith
