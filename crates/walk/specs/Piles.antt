-- What a pile is in contracts: its parts, the next one first, and the room that is reserved for them.
use Rattle.std.specs.Prelude.{ℕ, ◌+◌, ◌≤◌, List, ◌++◌, length}
use Rattle.speck.specs.declared.Part.{Part}

pub record Stack : Type 0 where
  pub parts : List Part
  pub room : ℕ

-- the parts put on it, the first on top
abbrev pub laid : List Part → Stack → Stack
laid ps s = record { parts = ps ++ s.parts; room = s.room }

-- it has room for so many more
abbrev pub HasRoom : ℕ → Stack → Type 0
HasRoom n s = n + length s.parts ≤ s.room
