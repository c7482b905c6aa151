-- The walk as a state of the machine.
use Rattle.std.specs.Prelude.{◌≡◌, ℕ, Bool, List, Ok, Err, Result, Some, None, Option}
use Rattle.walk.specs.declared.Walk.{Walk}
use Rattle.walk.specs.declared.asking.BitFault.{BitFault}
use Rattle.walk.specs.declared.asking.BitFault.TheVariants as fault
use Rattle.walk.specs.declared.asking.Question.{Question}
use Rattle.walk.specs.declared.asking.Question.TheVariants as question
use Rattle.speck.specs.Machine.{State, Next, going, contradiction, surplus, significant?, negative?, bit?, nothing?, run, start}
use Rattle.speck.specs.Machine as machine
use Rattle.speck.specs.Laws.{BeginsASurvey}
use Rattle.speck.specs.Places.{bare, placed}
use Rattle.walk.specs.Layout.{state_in}

abbrev pub state_of : Walk → State
state_of w = state_in w.asking w.lists

-- what an answer of `step` says of the machine, of which s is the state afterwards
abbrev pub next_of : Result (Unit {0}) BitFault → State → Next
next_of (Ok _) s = going s
next_of (Err fault.Contradiction) s = contradiction
next_of (Err fault.Surplus) s = surplus

-- the machine's question that a question of the walk is
abbrev pub asks : Option Question → machine.Question
asks (Some (question.Significant n p)) = significant? n p
asks (Some (question.Negative r c)) = negative? r c
asks (Some (question.Bit n r c)) = bit? n (placed r c)
asks None = nothing?

-- The walk has taken these bits, from the opening for the head of a grid of side 2^(x + k), k levels and P planes.
pub record Follows (w : Walk) (x k P : ℕ) (bits : List Bool) : Type 0 where
  pub state : State
  pub reached : run (going (start x k P)) bits ≡ going state
  pub places : state_of w ≡ bare state

-- What an answer of `step` says of the bits with the new one behind them: they are taken if the survey of some grid with the head begins so, and refused if none does.
abbrev pub Judged : Result (Unit {0}) BitFault → Walk → ℕ → ℕ → ℕ → List Bool → Type 0
Judged (Ok _) w x k P bits = Follows w x k P bits × BeginsASurvey x k P bits
Judged (Err e) w x k P bits = BeginsASurvey x k P bits → ⊥
