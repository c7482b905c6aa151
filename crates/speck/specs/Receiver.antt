-- What a state tells of the grid, how many planes are open, and the laws over whole runs.
use Rattle.std.specs.Prelude.{◌≡◌, ℕ, zero, suc, ◌+◌, ◌*◌, ◌^◌, ◌<◌, ◌≤◌, Bool, cond, ◌&&◌, List, [], ◌∷◌, ◌++◌, ℤ, pos, ◌-ℤ◌, ◌==◌}
use Rattle.speck.specs.Grid.{Grid, magnitude, signed}
use Rattle.speck.specs.Survey.{Found, survey}
use Rattle.speck.specs.Machine.{State, owing, asking, sign, refinement, finished, going, run, start}

-- A found cell whose bits down to plane n are known: their sum, with 0 below, and its sign.
unfoldable pub value : ℕ → Found → ℤ
value n e = signed e.negative (e.leading * 2 ^ n)

-- Cells that are not found read 0, and so does one whose sign has not come.
abbrev pub is_at : Found → ℕ → ℕ → Bool
is_at e i j = e.row == i && e.column == j

abbrev pub lookup : ℕ → List Found → ℤ → ℕ → ℕ → ℤ
lookup n [] d i j = d
lookup n (e ∷ es) d i j = cond (is_at e i j) (value n e) (lookup n es d i j)

abbrev pub known : State → Grid
known (owing n p ps free noes old new) i j = lookup (suc n) old (lookup n new (pos 0) i j) i j
known (asking n p free noes old new) i j = lookup (suc n) old (lookup n new (pos 0) i j) i j
known (sign n r c free noes old new) i j = lookup (suc n) old (lookup n new (pos 0) i j) i j
known (refinement n e todo done noes new) i j = lookup (suc n) (e ∷ todo) (lookup n done (lookup n new (pos 0) i j) i j) i j
known (finished noes old) i j = lookup 0 old (pos 0) i j

-- The open planes: those whose last answer has not come.
abbrev pub open_planes : State → ℕ
open_planes (owing n p ps free noes old new) = suc n
open_planes (asking n p free noes old new) = suc n
open_planes (sign n r c free noes old new) = suc n
open_planes (refinement n e todo done noes new) = suc n
open_planes (finished noes old) = 0

-- A grid of side 2^m has the head with P planes if all its magnitudes are below 2^P, and not all below 2^(P - 1).
pub record InGrid (m : ℕ) (i j : ℕ) : Type 0 where
  pub row : i < 2 ^ m
  pub column : j < 2 ^ m

abbrev pub Top : ℕ → ℕ → Grid → Type 0
Top m zero g = Unit {0}
Top m (suc n) g = (i : ℕ) × (j : ℕ) × InGrid m i j × (2 ^ n ≤ magnitude (g i j))

pub record Headed (m P : ℕ) (g : Grid) : Type 0 where
  pub below : (i j : ℕ) → InGrid m i j → magnitude (g i j) < 2 ^ P
  pub top : Top m P g

-- The first bits of a string: none, some or all.
abbrev pub Prefix : List Bool → List Bool → Type 0
Prefix bs ds = (cs : List Bool) × (bs ++ cs ≡ ds)

-- The survey of every grid with this head is taken whole, and gives the grid back.
abbrev pub SurveyGivesGrid : Type 0
SurveyGivesGrid = (x k P : ℕ) (g : Grid) → Headed (x + k) P g →
    (s : State) × (run (going (start x k P)) (survey x k P g) ≡ going s) × (open_planes s ≡ 0) × ((i j : ℕ) → InGrid (x + k) i j → known s i j ≡ g i j)

-- What is taken until no plane is open is the survey of a grid with this head: of the one that it gives.
abbrev pub WholeIsSurvey : Type 0
WholeIsSurvey = (x k P : ℕ) (bits : List Bool) (s : State) → run (going (start x k P)) bits ≡ going s → open_planes s ≡ 0 → Headed (x + k) P (known s) × (bits ≡ survey x k P (known s))

-- The first bits of the survey of a grid are taken, and every coefficient read after them is less than 2^q from the grid's, with q open planes.
abbrev pub NearAfterEveryBit : Type 0
NearAfterEveryBit = (x k P : ℕ) (g : Grid) → Headed (x + k) P g → (bits : List Bool) → Prefix bits (survey x k P g) →
    (s : State) × (run (going (start x k P)) bits ≡ going s) × ((i j : ℕ) → InGrid (x + k) i j → magnitude (known s i j -ℤ g i j) < 2 ^ open_planes s)

-- What is taken without refusal is how the survey of some grid with this head begins.
abbrev pub CanBecomeSurvey : Type 0
CanBecomeSurvey = (x k P : ℕ) (bits : List Bool) (s : State) → run (going (start x k P)) bits ≡ going s → (g : Grid) × Headed (x + k) P g × Prefix bits (survey x k P g)
