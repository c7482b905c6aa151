-- What the walk's fields stand for in the machine, and what holds of them.
use Rattle.std.specs.Prelude.{◌≡◌, ℕ, ◌+◌, ◌<◌, ◌≤◌, List, [], map, sum_by, length, take, drop, slice_index_or, Option, Some, None}
use Rattle.std.specs.List.{AllByRecursion}
use Rattle.speck.specs.declared.Part.{Part}
use Rattle.speck.specs.Survey.{Found}
use Rattle.walk.specs.declared.asking.Asking.{Asking}
use Rattle.walk.specs.declared.asking.Asking.TheVariants as asking'
use Rattle.walk.specs.declared.lists.Cell.{Cell}
use Rattle.walk.specs.declared.lists.Lists.{Lists}
use Rattle.walk.specs.Parts.{Within, area}
use Rattle.speck.specs.Places.{placed}
use Rattle.speck.specs.Machine.{State, Next, going, owing, asking, sign, refinement, finished}

abbrev pub todo_of : Lists → List Part
todo_of l = l.pending.parts

abbrev pub noes_of : Lists → List Part
noes_of l = l.waiting.items

abbrev pub found_of : Cell → Found
found_of c = placed c.row c.column

abbrev pub cells_of : Lists → List Found
cells_of l = map found_of l.found.items

abbrev pub old_of : Lists → List Found
old_of l = take l.kept (cells_of l)

abbrev pub new_of : Lists → List Found
new_of l = drop l.kept (cells_of l)

abbrev pub done_of : Lists → List Found
done_of l = take l.at (cells_of l)

abbrev pub blank : Found
blank = placed 0 0

abbrev pub state_in : Option Asking → Lists → State
state_in (Some (asking'.Part p)) l = asking l.plane p (todo_of l) (noes_of l) (old_of l) (new_of l)
state_in (Some (asking'.Quarter p k)) l = owing l.plane p (take k (todo_of l)) (drop k (todo_of l)) (noes_of l) (old_of l) (new_of l)
state_in (Some (asking'.Sign c)) l = sign l.plane c.row c.column (todo_of l) (noes_of l) (old_of l) (new_of l)
state_in (Some asking'.Refinement) l = refinement l.plane (slice_index_or (cells_of l) l.at blank) (drop (l.at + 1) (old_of l)) (done_of l) (noes_of l) (new_of l)
state_in None l = finished (noes_of l) (cells_of l)

-- each of the three lists has room for so many
pub record RoomFor (n : ℕ) (l : Lists) : Type 0 where
  pub pending : n ≤ l.pending.room
  pub waiting : n ≤ l.waiting.cap
  pub found : n ≤ l.found.cap

-- there is room for what is pending, what was waiting, what was found and so many more cells
pub record Sound (more : ℕ) (l : Lists) : Type 0 where
  pub plane : l.plane ≤ 14
  pub pending : AllByRecursion Within (todo_of l)
  pub waiting : AllByRecursion Within (noes_of l)
  pub room : RoomFor (more + sum_by area (todo_of l) + sum_by area (noes_of l) + length (cells_of l)) l
  pub known : l.kept ≤ length (cells_of l)
  pub position : l.at ≤ l.kept

pub record Opened (size n : ℕ) (l : Lists) : Type 0 where
  pub plane : l.plane ≡ n
  pub todo : todo_of l ≡ []
  pub noes : noes_of l ≡ []
  pub cells : cells_of l ≡ []
  pub kept : l.kept ≡ 0
  pub at : l.at ≡ 0
  pub room : RoomFor size l

pub record Sorts (more : ℕ) (l : Lists) : Type 0 where
  pub sound : Sound more l
  pub at : l.at ≡ 0

pub record Refines (l : Lists) : Type 0 where
  pub sound : Sound 0 l
  pub none : length (todo_of l) ≡ 0
  pub at : l.at < l.kept

-- the part is within the grid, and there is room for its cells
pub record Held (p : Part) (l : Lists) : Type 0 where
  pub sorts : Sorts (area p) l
  pub within : Within p

abbrev pub Good : Option Asking → Lists → Type 0
Good (Some (asking'.Part p)) l = Held p l
Good (Some (asking'.Quarter p k)) l = Held p l × (k ≤ length (todo_of l))
Good (Some (asking'.Sign c)) l = Sorts 1 l
Good (Some asking'.Refinement) l = Refines l
Good None l = Unit {0}

-- what is asked of the lists is what the machine goes on to
pub record Now (a : Option Asking) (l : Lists) (n : Next) : Type 0 where
  pub state : going (state_in a l) ≡ n
  pub good : Good a l
