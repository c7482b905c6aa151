-- The survey of a grid, by recursion as the rules tell it: planes from the top, in each the sorting pass and the refinement pass.
use Rattle.std.specs.Prelude.{◌≡◌, ℕ, zero, suc, ◌+◌, ◌*◌, ◌%◌, ◌^◌, ◌<◌, Bool, true, false, cond, List, [], ◌∷◌, ◌++◌, map, filter, ◌==◌, nat_le}
use Rattle.speck.specs.declared.Part.{Part}
use Rattle.speck.specs.declared.Part.TheVariants.{Block, Rest}
use Rattle.speck.specs.Grid.{Grid, magnitude, is_negative, upper, outside, significant}

-- A cell that was found significant: its place, its sign, and the leading bits of its magnitude so far.
pub record Found : Type 0 where
  pub row : ℕ
  pub column : ℕ
  pub negative : Bool
  pub leading : ℕ

-- The order in which waiting parts are asked: from the smallest side to the largest, those of one side in the order of their entry, the rest last. So p may stand before q if its side is at most that of q.
abbrev pub before : Part → Part → Bool
before (Block s r c) (Block t _ _) = nat_le s t
before (Block s r c) (Rest d x) = true
before (Rest d x) (Block t _ _) = false
before (Rest d x) (Rest _ _) = true

unfoldable pub insert : Part → List Part → List Part
insert p [] = p ∷ []
insert p (q ∷ qs) = cond (before p q) (p ∷ q ∷ qs) (q ∷ insert p qs)

unfoldable pub arranged : List Part → List Part
arranged [] = []
arranged (p ∷ ps) = insert p (arranged ps)

-- The same order, said another way: the blocks of each side in turn, as they stand in the list, and then the rest.
abbrev pub has_side : ℕ → Part → Bool
has_side s (Block t _ _) = t == s
has_side s (Rest d x) = false

abbrev pub is_rest : Part → Bool
is_rest (Block s r c) = false
is_rest (Rest d x) = true

abbrev pub of_side : ℕ → List Part → List Part
of_side s l = filter (has_side s) l

abbrev pub rests : List Part → List Part
rests l = filter is_rest l

-- the sides 2^a .. 2^(a + k - 1), from smallest to largest
abbrev pub tiers : ℕ → ℕ → List Part → List Part
tiers a zero l = []
tiers a (suc k) l = of_side a l ++ tiers (suc a) k l

abbrev pub Below : ℕ → List Part → Type 0
Below m [] = Unit {0}
Below m (Block s r c ∷ ps) = (s < m) × Below m ps
Below m (Rest d x ∷ ps) = Below m ps

-- The two orders are one.
abbrev pub Arranges : Type 0
Arranges = (m : ℕ) (l : List Part) → Below m l → arranged l ≡ tiers 0 m l ++ rests l

-- What asking a part gives: the bits of the answers, the parts that said no, which wait, and the cells that were found.
pub record Outcome : Type 0 where
  pub bits : List Bool
  pub waits : List Part
  pub finds : List Found

abbrev pub nothing : Outcome
nothing = record { bits = []; waits = []; finds = [] }

abbrev pub and_then : Outcome → Outcome → Outcome
and_then a b = record { bits = a.bits ++ b.bits; waits = a.waits ++ b.waits; finds = a.finds ++ b.finds }

-- A no: the part waits. A yes of a single cell: its sign follows, and it is found. A yes of a larger part: its own parts are asked in order, each worked through before the next.
abbrev pub said_no : Part → Outcome
said_no p = record { bits = false ∷ []; waits = p ∷ []; finds = [] }

abbrev pub found_cell : Grid → ℕ → ℕ → Outcome
found_cell g r c = record { bits = true ∷ is_negative (g r c) ∷ []; waits = []; finds = record { row = r; column = c; negative = is_negative (g r c); leading = 1 } ∷ [] }

abbrev pub opened : Outcome → Outcome
opened a = record { bits = true ∷ a.bits; waits = a.waits; finds = a.finds }

abbrev pub ask_block : Grid → ℕ → ℕ → ℕ → ℕ → Outcome
ask_block g n zero r c = cond (significant g n (Block zero r c)) (found_cell g r c) (said_no (Block zero r c))
ask_block g n (suc s) r c =
    cond (significant g n (Block (suc s) r c))
    (opened (and_then (ask_block g n s r c) (and_then (ask_block g n s r (c + 2 ^ s)) (and_then (ask_block g n s (r + 2 ^ s) c) (and_then (ask_block g n s (r + 2 ^ s) (c + 2 ^ s)) nothing)))))
    (said_no (Block (suc s) r c))

abbrev pub ask_rest : Grid → ℕ → ℕ → ℕ → Outcome
ask_rest g n zero x =
    cond (significant g n (Rest zero x))
    (opened (and_then (ask_block g n x 0 (2 ^ x)) (and_then (ask_block g n x (2 ^ x) 0) (and_then (ask_block g n x (2 ^ x) (2 ^ x)) nothing))))
    (said_no (Rest zero x))
ask_rest g n (suc d) x =
    cond (significant g n (Rest (suc d) x))
    (opened (and_then (ask_block g n x 0 (2 ^ x)) (and_then (ask_block g n x (2 ^ x) 0) (and_then (ask_block g n x (2 ^ x) (2 ^ x)) (and_then (ask_rest g n d (suc x)) nothing)))))
    (said_no (Rest (suc d) x))

unfoldable pub ask_part : Grid → ℕ → Part → Outcome
ask_part g n (Block s r c) = ask_block g n s r c
ask_part g n (Rest d x) = ask_rest g n d x

abbrev pub ask_all : Grid → ℕ → List Part → Outcome
ask_all g n [] = nothing
ask_all g n (p ∷ ps) = and_then (ask_part g n p) (ask_all g n ps)

-- The bit of a found cell in plane n, and the cell with that bit behind its leading bits.
abbrev pub odd : ℕ → Bool
odd x = nat_le 1 (x % 2)

abbrev pub bit_of : Grid → ℕ → Found → Bool
bit_of g n e = odd (upper n (magnitude (g e.row e.column)))

abbrev pub digit : Bool → ℕ
digit true = 1
digit false = 0

abbrev pub refined : Found → Bool → Found
refined e b = record { row = e.row; column = e.column; negative = e.negative; leading = 2 * e.leading + digit b }

-- Planes n - 1 down to 0, with the parts that wait and the cells found before: first the waiting parts are asked, then each cell found in an earlier plane has its bit sent, in the order of finding.
abbrev pub planes : Grid → ℕ → List Part → List Found → List Bool
planes g zero w f = []
planes g (suc n) w f =
    let a : Outcome = ask_all g n (arranged w) in
    a.bits ++ (map (bit_of g n) f ++ planes g n a.waits (map (λ e. refined e (bit_of g n e)) f ++ a.finds))

-- The survey of a grid of side 2^(x + k) for k levels and P planes: at first the top left block of side 2^x waits, and the rest.
abbrev pub survey : ℕ → ℕ → ℕ → Grid → List Bool
survey x k P g = planes g P (Block x 0 0 ∷ outside k x) []
