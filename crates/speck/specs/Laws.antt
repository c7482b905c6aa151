-- Laws of the survey, in the words of the field.
use Rattle.std.specs.Prelude.{◌≡◌, ℕ, zero, suc, ◌+◌, ◌%◌, ◌^◌, ◌<◌, ◌≤◌, Bool, true, ◌||◌, List, [], ◌∷◌, ◌++◌, length}
use Rattle.speck.specs.declared.Part.{Part}
use Rattle.speck.specs.declared.Part.TheVariants.{Block, Rest}
use Rattle.speck.specs.Grid.{Grid, magnitude, significant, inside, coverage}
use Rattle.speck.specs.Survey.{Found, survey}
use Rattle.speck.specs.Machine.{State, owing, asking, sign, refinement, finished, Question, significant?, negative?, bit?, nothing?, ask, answer, step, Next, going, contradiction, surplus, run, start}
use Rattle.speck.specs.Receiver.{open_planes, InGrid, Headed, Prefix}

-- the machine takes the bits
abbrev pub Taken : ℕ → ℕ → ℕ → List Bool → Type 0
Taken x k P bits = (s : State) × (run (going (start x k P)) bits ≡ going s)

-- the survey of some grid of that head begins with the bits
abbrev pub BeginsASurvey : ℕ → ℕ → ℕ → List Bool → Type 0
BeginsASurvey x k P bits = (g : Grid) × Headed (x + k) P g × Prefix bits (survey x k P g)

-- the machine refuses just those bits that no survey of its head begins with
abbrev pub RefusedExactly : Type 0
RefusedExactly = (x k P : ℕ) (bits : List Bool) → (Taken x k P bits → BeginsASurvey x k P bits) × (BeginsASurvey x k P bits → Taken x k P bits)

-- how many of the found coefficients are at a cell
abbrev pub found_at : List Found → ℕ → ℕ → ℕ
found_at [] i j = 0
found_at (e ∷ es) i j = inside (Block 0 e.row e.column) i j + found_at es i j

-- in how many places a state has a cell: in sets that are to be asked, in sets that said no, in found coefficients
abbrev pub places : State → ℕ → ℕ → ℕ
places (owing n p ps free noes old new) i j = (inside p i j + (coverage ps i j + coverage free i j)) + (coverage noes i j + (found_at old i j + found_at new i j))
places (asking n p free noes old new) i j = (inside p i j + coverage free i j) + (coverage noes i j + (found_at old i j + found_at new i j))
places (sign n r c free noes old new) i j = (inside (Block 0 r c) i j + coverage free i j) + (coverage noes i j + (found_at old i j + found_at new i j))
places (refinement n e todo done noes new) i j = (inside (Block 0 e.row e.column) i j + found_at todo i j) + (found_at done i j + (coverage noes i j + found_at new i j))
places (finished noes old) i j = coverage noes i j + found_at old i j

-- after any bits that are taken, each cell of the grid is in one place
abbrev pub OnePlace : Type 0
OnePlace = (x k P : ℕ) (bits : List Bool) (s : State) → run (going (start x k P)) bits ≡ going s → (i j : ℕ) → InGrid (x + k) i j → places s i j ≡ 1

-- some coefficient of the set has a magnitude of 2 ^ n and more
abbrev pub HasSignificant : Grid → ℕ → Part → Type 0
HasSignificant g n p = (i : ℕ) × (j : ℕ) × (0 < inside p i j) × (2 ^ n ≤ magnitude (g i j))

-- a set is significant at bit plane n just if it has such a coefficient
abbrev pub SignificanceLiteral : Type 0
SignificanceLiteral = (g : Grid) (n : ℕ) (p : Part) → (significant g n p ≡ true → HasSignificant g n p) × (HasSignificant g n p → significant g n p ≡ true)

-- a block is significant just if one of its quarters is
abbrev pub SignificanceByParts : Type 0
SignificanceByParts = (g : Grid) (n s r c : ℕ) →
    significant g n (Block (suc s) r c) ≡ (significant g n (Block s r c) || (significant g n (Block s r (c + 2 ^ s)) || (significant g n (Block s (r + 2 ^ s) c) || significant g n (Block s (r + 2 ^ s) (c + 2 ^ s)))))

-- a grid has one number of bit planes
abbrev pub OnePlaneCount : Type 0
OnePlaneCount = (m : ℕ) (g : Grid) → ((P : ℕ) × Headed m P g) × ((P Q : ℕ) → Headed m P g → Headed m Q g → P ≡ Q)

-- a survey of a grid of side 64 and less, of 15 bit planes and less, has at most 86101 bits
abbrev pub SurveyLength : Type 0
SurveyLength = (x k P : ℕ) (g : Grid) → x + k ≤ 6 → P ≤ 15 → length (survey x k P g) ≤ 86101

-- what comes after an answer, if the machine goes on
abbrev pub onward : (State → List Bool) → Next → List Bool
onward f (going s) = f s
onward f contradiction = []
onward f surplus = []

-- the grid's answer to the next question, then what comes after it
abbrev pub written : Grid → (State → List Bool) → State → List Bool
written g f s = answer g (ask s) ∷ onward f (step s (answer g (ask s)))

-- what a sender writes that asks the machine's next question of the grid, writes the answer and steps on, n times at most
abbrev pub asked : Grid → ℕ → State → List Bool
asked g zero s = []
asked g (suc n) (owing m p ps free noes old new) = written g (asked g n) (owing m p ps free noes old new)
asked g (suc n) (asking m p free noes old new) = written g (asked g n) (asking m p free noes old new)
asked g (suc n) (sign m r c free noes old new) = written g (asked g n) (sign m r c free noes old new)
asked g (suc n) (refinement m e todo done noes new) = written g (asked g n) (refinement m e todo done noes new)
asked g (suc n) (finished noes old) = []

-- such a sender writes the survey: what it has written begins the survey, is taken by the machine, leaves no plane open
-- just when it is the whole survey, and is the whole survey after as many questions as the survey has bits
abbrev pub AskingGivesSurvey : Type 0
AskingGivesSurvey = (x k P : ℕ) (g : Grid) → Headed (x + k) P g → (n : ℕ) →
    Prefix (asked g n (start x k P)) (survey x k P g)
    × ((s : State) × (run (going (start x k P)) (asked g n (start x k P)) ≡ going s)
    × (open_planes s ≡ 0 → asked g n (start x k P) ≡ survey x k P g)
    × (asked g n (start x k P) ≡ survey x k P g → open_planes s ≡ 0))
    × (length (survey x k P g) ≤ n → asked g n (start x k P) ≡ survey x k P g)

-- a question's place in a string of bits: with g's answer behind them the bits are still the first of the string, or they are the whole string and nothing is asked
abbrev pub AsksOn : Question → Grid → List Bool → List Bool → Type 0
AsksOn (significant? n p) g bits all = Prefix (bits ++ answer g (significant? n p) ∷ []) all
AsksOn (negative? r c) g bits all = Prefix (bits ++ answer g (negative? r c) ∷ []) all
AsksOn (bit? n e) g bits all = Prefix (bits ++ answer g (bit? n e) ∷ []) all
AsksOn nothing? g bits all = bits ≡ all

-- after the first bits of a survey the question asked is the survey's next
abbrev pub QuestionIsNext : Type 0
QuestionIsNext = (x k P : ℕ) (g : Grid) (bits : List Bool) (s : State) → Headed (x + k) P g → Prefix bits (survey x k P g) → run (going (start x k P)) bits ≡ going s → AsksOn (ask s) g bits (survey x k P g)

-- A part in its place in a grid of side 2^m: a block lies wholly inside, its row and column multiples of its side; a rest reaches to the edge of the grid.
abbrev pub InPlace : ℕ → Part → Type 0
InPlace m (Block s r c) = (r + 2 ^ s ≤ 2 ^ m) × (c + 2 ^ s ≤ 2 ^ m) × (r % 2 ^ s ≡ 0) × (c % 2 ^ s ≡ 0)
InPlace m (Rest d x) = x + suc d ≡ m

-- a question about a grid of side 2^m and P planes
abbrev pub AboutGrid : ℕ → ℕ → Question → Type 0
AboutGrid m P (significant? n p) = (n < P) × InPlace m p
AboutGrid m P (negative? r c) = InGrid m r c
AboutGrid m P (bit? n e) = (n < P) × InGrid m e.row e.column
AboutGrid m P nothing? = Unit {0}

-- after any bits that are taken, the question is about the grid: nothing outside it is asked for, and no part out of its place
abbrev pub QuestionsAboutGrid : Type 0
QuestionsAboutGrid = (x k P : ℕ) (bits : List Bool) (s : State) → run (going (start x k P)) bits ≡ going s → AboutGrid (x + k) P (ask s)

-- the survey speaks of the cells of the grid alone
abbrev pub SurveyOfCells : Type 0
SurveyOfCells = (x k P : ℕ) (g h : Grid) → Headed (x + k) P g → ((i j : ℕ) → InGrid (x + k) i j → g i j ≡ h i j) → survey x k P g ≡ survey x k P h
