use Rattle.std.proofs.Common.{subst}
use Rattle.sender.specs.Sending.{Sends}
use Rattle.sender.proofs.Heads.{one_survey}
use Rattle.sender.proofs.frames.send_frame.Goals as goal

pub returns : goal.returns
returns c bits s =
    let f = c.args.frame.now in
    subst (λ b. Sends b c.args.slot c.args.out.now c.send.new.out c.send.result) ((one_survey f).1 _ bits (c.send.ensures.of_the_frame f c.in_ok-ground.ensures) s) c.send.ensures.sends
