-- The question machine: which question comes next, and what its answer does. Both ends step it.
use Rattle.std.specs.Prelude.{ℕ, zero, suc, Bool, true, false, List, [], ◌∷◌, ◌++◌}
use Rattle.speck.specs.declared.Part.{Part}
use Rattle.speck.specs.declared.Part.TheVariants.{Block}
use Rattle.speck.specs.Grid.{Grid, is_negative, outside, View, cell, parts, view, significant}
use Rattle.speck.specs.Survey.{Found, arranged, refined, bit_of}

-- In plane n: a part of a set that said yes and still owes a yes, with the set's other parts; a part that waited or whose set owes nothing; the sign of a cell that said yes; the bit of a found cell; nothing more to ask.
-- Beside it stand: `free`, what is to be asked in this plane still; `noes`, what said no in it; `old` and `new`, the cells found before it and in it.
pub data State : Type 0 where
  owing : (n : ℕ) (p : Part) (ps free noes : List Part) (old new : List Found) → State
  asking : (n : ℕ) (p : Part) (free noes : List Part) (old new : List Found) → State
  sign : (n : ℕ) (r c : ℕ) (free noes : List Part) (old new : List Found) → State
  refinement : (n : ℕ) (e : Found) (todo done : List Found) (noes : List Part) (new : List Found) → State
  finished : (noes : List Part) (old : List Found) → State

-- What is asked, and what a grid answers.
pub data Question : Type 0 where
  significant? : ℕ → Part → Question
  negative? : ℕ → ℕ → Question
  bit? : ℕ → Found → Question
  nothing? : Question

abbrev pub ask : State → Question
ask (owing n p ps free noes old new) = significant? n p
ask (asking n p free noes old new) = significant? n p
ask (sign n r c free noes old new) = negative? r c
ask (refinement n e todo done noes new) = bit? n e
ask (finished noes old) = nothing?

abbrev pub answer : Grid → Question → Bool
answer g (significant? n p) = significant g n p
answer g (negative? r c) = is_negative (g r c)
answer g (bit? n e) = bit_of g n e
answer g nothing? = false

-- On in plane n: the next part to ask; else the next cell to refine; else the next plane, by k.
abbrev pub refine_on_by : (List Part → List Found → State) → ℕ → List Found → List Found → List Part → List Found → State
refine_on_by k n [] done noes new = k noes (done ++ new)
refine_on_by k n (e ∷ todo) done noes new = refinement n e todo done noes new

abbrev pub go_on_by : (List Part → List Found → State) → ℕ → List Part → List Part → List Found → List Found → State
go_on_by k n [] noes old new = refine_on_by k n old [] noes new
go_on_by k n (p ∷ free) noes old new = asking n p free noes old new

-- The next n planes are all open: the first question of the highest.
unfoldable pub enter_plane : ℕ → List Part → List Found → State
enter_plane zero w f = finished w f
enter_plane (suc n) w f = go_on_by (enter_plane n) n (arranged w) [] f []

abbrev pub go_on : ℕ → List Part → List Part → List Found → List Found → State
go_on n = go_on_by (enter_plane n) n

abbrev pub refine_on : ℕ → List Found → List Found → List Part → List Found → State
refine_on n = refine_on_by (enter_plane n) n

-- After a yes: the sign of a single cell, or the parts of a larger part, of which one has to say yes.
abbrev pub unfolded : ℕ → View → List Part → List Part → List Found → List Found → State
unfolded n (cell r c) free noes old new = sign n r c free noes old new
unfolded n (parts k ks) free noes old new = owing n k ks free noes old new

-- After an answer: a state, or a refusal. A contradiction is the no of the last part of a set that said yes, where all the others said no; a surplus is a bit after the last.
pub data Next : Type 0 where
  going : State → Next
  contradiction : Next
  surplus : Next

-- One answer, where `note` makes the record of a cell whose sign came, and `more` adds a bit to one.
abbrev pub step_by : (ℕ → ℕ → Bool → Found) → (Found → Bool → Found) → State → Bool → Next
step_by note more (owing n p ps free noes old new) true = going (unfolded n (view p) (ps ++ free) noes old new)
step_by note more (owing n p [] free noes old new) false = contradiction
step_by note more (owing n p (p₁ ∷ ps) free noes old new) false = going (owing n p₁ ps free (noes ++ p ∷ []) old new)
step_by note more (asking n p free noes old new) true = going (unfolded n (view p) free noes old new)
step_by note more (asking n p free noes old new) false = going (go_on n free (noes ++ p ∷ []) old new)
step_by note more (sign n r c free noes old new) b = going (go_on n free noes old (new ++ note r c b ∷ []))
step_by note more (refinement n e todo done noes new) b = going (refine_on n todo (done ++ more e b ∷ []) noes new)
step_by note more (finished noes old) b = surplus

-- a cell whose sign came: of its magnitude the highest bit is known
abbrev pub noted : ℕ → ℕ → Bool → Found
noted r c b = record { row = r; column = c; negative = b; leading = 1 }

abbrev pub step : State → Bool → Next
step s b = step_by noted refined s b

-- A string of answers; after a refusal nothing is taken.
abbrev pub feed : Next → Bool → Next
feed (going s) b = step s b
feed contradiction b = contradiction
feed surplus b = surplus

abbrev pub run : Next → List Bool → Next
run t [] = t
run t (b ∷ bs) = run (feed t b) bs

-- The opening, for the head of a grid of side 2^(x + k), k levels and P planes. In the top plane the whole grid is a set that said yes, and its parts are the first block and the rest.
abbrev pub start : ℕ → ℕ → ℕ → State
start x k zero = finished (Block x 0 0 ∷ outside k x) []
start x k (suc n) = owing n (Block x 0 0) (outside k x) [] [] [] []
