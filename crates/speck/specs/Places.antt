-- The machine that keeps the places of the found cells alone, and not what is known of them: what a walk steps. The values are for the ends to keep.
use Rattle.std.specs.Prelude.{◌≡◌, ℕ, Bool, false, map}
use Rattle.speck.specs.Grid.{Grid}
use Rattle.speck.specs.Survey.{Found}
use Rattle.speck.specs.Machine.{State, owing, asking, sign, refinement, finished, Next, going, contradiction, surplus, step_by, step, ask, answer}

-- a found cell by its place
abbrev pub placed : ℕ → ℕ → Found
placed r c = record { row = r; column = c; negative = false; leading = 0 }

abbrev pub bare_cell : Found → Found
bare_cell e = placed e.row e.column

-- a state without the values of its cells
abbrev pub bare : State → State
bare (owing n p ps free noes old new) = owing n p ps free noes (map bare_cell old) (map bare_cell new)
bare (asking n p free noes old new) = asking n p free noes (map bare_cell old) (map bare_cell new)
bare (sign n r c free noes old new) = sign n r c free noes (map bare_cell old) (map bare_cell new)
bare (refinement n e todo done noes new) = refinement n (bare_cell e) (map bare_cell todo) (map bare_cell done) noes (map bare_cell new)
bare (finished noes old) = finished noes (map bare_cell old)

abbrev pub bare_next : Next → Next
bare_next (going s) = going (bare s)
bare_next contradiction = contradiction
bare_next surplus = surplus

abbrev pub place_step : State → Bool → Next
place_step s b = step_by (λ r c b. placed r c) (λ e b. e) s b

-- It goes as the machine does, refuses as it does, and asks what it asks.
abbrev pub PlacesSuffice : Type 0
PlacesSuffice = (s : State) → ((b : Bool) → bare_next (step s b) ≡ place_step (bare s) b) × ((g : Grid) → answer g (ask (bare s)) ≡ answer g (ask s))
