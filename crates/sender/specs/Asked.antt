use Rattle.std.specs.Prelude.{Bool, Some, None, Option}
use Rattle.speck.specs.Grid.{Grid, is_negative, significant}
use Rattle.speck.specs.Machine.{Question, significant?, negative?, bit?, nothing?}
use Rattle.speck.specs.Survey.{bit_of}

-- the grid's answer to a question; none where nothing is asked
abbrev pub told : Grid → Question → Option Bool
told g (significant? n p) = Some (significant g n p)
told g (negative? r c) = Some (is_negative (g r c))
told g (bit? n e) = Some (bit_of g n e)
told g nothing? = None
