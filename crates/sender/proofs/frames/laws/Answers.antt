use Rattle.sender.proofs.Heads.{both_alike, one_survey}
use Rattle.sender.proofs.frames.laws.Goals as goal

pub returns : goal.returns
returns c = record { one_survey = one_survey; both_grounds_send_the_same = both_alike }
