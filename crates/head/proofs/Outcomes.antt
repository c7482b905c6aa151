use Rattle.std.proofs.Common.{◌≡◌, Ok, Option, Result, subst}
use Rattle.head.specs.Faults.{Answers}

-- What holds of the value that it answers.
pub answers_value : {X E : Type 0} (r : Result X E) (fault : Option E) (P : X → Type 0) (x : X) → Answers r fault P → r ≡ Ok x → P x
answers_value r fault P x a e = let F : Result _ _ → Type 0 = λ s. Answers s fault P in (subst F e a).1
