use Rattle.std.proofs.Common.{◌-◌, [], ◌∷◌, ◌++◌, sym, ap, ◌∙◌, subst, arith}
use Rattle.std.proofs.lemmas.List.{length_push}
use Rattle.speck.specs.Laws.{AboutGrid}
use Rattle.walk.specs.Walks.{asks}
use Rattle.sender.specs.Asked.{told}
use Rattle.sender.specs.Sending.{survey_of}
use Rattle.sender.proofs.Heads.{never_longer, sends_frame, shape_headed}
use Rattle.sender.proofs.Loops.{asks_about, finish_all, finish_slot, room_for, taken_ok, taken_on, told_none, told_on}
use Rattle.sender.proofs.sending.send.Goals as goal

pub returns-in_err-admit-clause-of_the_frame : goal.returns-in_err-admit-clause-of_the_frame
returns-in_err-admit-clause-of_the_frame g c = let x = c.args.ground.now in sends_frame (g.G.Ground.headed x) (g.G.Ground.grid x) (g.met.G.Ground.counted x)

pub returns-in_err-admit-clause-never_longer : goal.returns-in_err-admit-clause-never_longer
returns-in_err-admit-clause-never_longer g c = let x = c.args.ground.now in never_longer (g.G.Ground.headed x) (g.G.Ground.grid x)

pub returns-in_err-walk-clause-of_the_frame : goal.returns-in_err-walk-clause-of_the_frame
returns-in_err-walk-clause-of_the_frame g c = let x = c.args.ground.now in sends_frame (g.G.Ground.headed x) (g.G.Ground.grid x) (g.met.G.Ground.counted x)

pub returns-in_err-walk-clause-never_longer : goal.returns-in_err-walk-clause-never_longer
returns-in_err-walk-clause-never_longer g c = let x = c.args.ground.now in never_longer (g.G.Ground.headed x) (g.G.Ground.grid x)

pub answer-answer-requires : goal.answer-answer-requires
answer-answer-requires g c =
    let h = g.G.Ground.headed c.args.ground.now in
    subst (λ q. AboutGrid h.shape.exponent h.planes (asks q)) c.in-Some.is (asks_about h c.loop-i.walk c.loop-i.invariant.bits (asks c.question.result) c.question.ensures.machine c.loop-i.invariant.follows)

pub returns-in_default : goal.returns-in_default
returns-in_default g c =
    let x = c.args.ground.now in
    let h = g.G.Ground.headed x in
    let d = g.G.Ground.grid x in
    let v = c.loop-i.invariant in
    let old = c.args.out.now in
    let f = c.in_ok-admit.ensures.0 in
    let n = c.question.ensures.next _ _ _ v.bits d v.follows (shape_headed h.shape h.planes d (g.met.G.Ground.counted x)) v.begins in
    let e = told_none d (asks c.question.result) v.bits (survey_of h d) (sym (ap (λ q. told d (asks q)) c.in_default.is)) n in
    record {
      sends = finish_all v.bits (survey_of h d) c.args.slot c.loop-i.i old c.loop-i.out f (room_for c.args.slot old f) v.count (omega arith) e v.written;
      of_the_frame = sends_frame h d (g.met.G.Ground.counted x);
      never_longer = never_longer h d;
    }

pub unwrap-requires : goal.unwrap-requires
unwrap-requires g c =
    let x = c.args.ground.now in
    let h = g.G.Ground.headed x in
    let d = g.G.Ground.grid x in
    let v = c.loop-i.invariant in
    let s = shape_headed h.shape h.planes d (g.met.G.Ground.counted x) in
    let n = c.question.ensures.next _ _ _ v.bits d v.follows s v.begins in
    let a = c.answer-answer.ensures ∙ sym (ap (λ q. told d (asks q)) c.in-Some.is) in
    let p = told_on d (asks c.question.result) c.answer-answer.result v.bits (survey_of h d) a n in
    taken_ok c.step.result c.step.new.self (h.shape.exponent - h.shape.levels) h.shape.levels h.planes (v.bits ++ c.answer-answer.result ∷ []) (c.step.ensures.judged _ _ _ v.bits v.follows) (d, s, p)

pub loop-i-preserved : goal.loop-i-preserved
loop-i-preserved g c =
    let x = c.args.ground.now in
    let h = g.G.Ground.headed x in
    let d = g.G.Ground.grid x in
    let v = c.loop-i.invariant in
    let b = c.answer-answer.result in
    let old = c.args.out.now in
    let s = shape_headed h.shape h.planes d (g.met.G.Ground.counted x) in
    let n = c.question.ensures.next _ _ _ v.bits d v.follows s v.begins in
    record {
      bits = v.bits ++ b ∷ [];
      count = omega (arith, length_push v.bits b, v.count);
      begins = told_on d (asks c.question.result) b v.bits (survey_of h d) (c.answer-answer.ensures ∙ sym (ap (λ q. told d (asks q)) c.in-Some.is)) n;
      follows = taken_on c.step.result c.unwrap.result c.step.new.self (h.shape.exponent - h.shape.levels) h.shape.levels h.planes (v.bits ++ b ∷ []) c.unwrap.ensures (c.step.ensures.judged _ _ _ v.bits v.follows);
      written = c.put.ensures.packs v.bits old v.count (omega (arith, room_for c.args.slot old c.in_ok-admit.ensures.0)) v.written;
    }

pub returns : goal.returns
returns g c =
    let x = c.args.ground.now in
    let h = g.G.Ground.headed x in
    let d = g.G.Ground.grid x in
    let v = c.loop-i.invariant in
    let old = c.args.out.now in
    let f = c.in_ok-admit.ensures.0 in
    record {
      sends = finish_slot v.bits (survey_of h d) c.args.slot old c.loop-i.out f (room_for c.args.slot old f) (omega (arith, v.count)) v.begins v.written;
      of_the_frame = sends_frame h d (g.met.G.Ground.counted x);
      never_longer = never_longer h d;
    }
