use Rattle.std.specs.Prelude.{ℕ, List, codes}
use Rattle.head.specs.declared.refusals.Refusal.{Refusal}
use Rattle.head.specs.declared.refusals.Refusal.TheVariants.{Side, Levels, Planes, Height, Cell, ToldTwice, Edition, Slot, Buffer, Surplus, Contradiction, Trailer, Padding}

-- the number of each refusal
abbrev pub number_of : Refusal → ℕ
number_of Side = 1
number_of Levels = 2
number_of Planes = 3
number_of Height = 4
number_of Cell = 5
number_of ToldTwice = 6
number_of Edition = 7
number_of Slot = 8
number_of Buffer = 9
number_of Surplus = 10
number_of Contradiction = 11
number_of Trailer = 12
number_of Padding = 13

-- and its word
abbrev pub word_of : Refusal → List ℕ
word_of Side = codes "side"
word_of Levels = codes "levels"
word_of Planes = codes "planes"
word_of Height = codes "height"
word_of Cell = codes "cell"
word_of ToldTwice = codes "told twice"
word_of Edition = codes "edition"
word_of Slot = codes "slot"
word_of Buffer = codes "buffer"
word_of Surplus = codes "surplus"
word_of Contradiction = codes "contradiction"
word_of Trailer = codes "trailer"
word_of Padding = codes "padding"
