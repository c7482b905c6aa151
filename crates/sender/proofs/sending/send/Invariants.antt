use Rattle.sender.proofs.Loops.{Sending}
use Rattle.sender.proofs.sending.send.Given as goal

abbrev pub invariant-loop-i : goal.invariant-loop-i
invariant-loop-i g l = Sending (g.G.Ground.headed l.ground) (g.G.Ground.grid l.ground) l.walk l.i l.initial.out l.out
