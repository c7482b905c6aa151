use Rattle.std.specs.Prelude.{Bool, true, ◌&&◌, ℤ, pos, negsuc, Some, None, Option, int_le}

-- whether a height is of the span: -8192 to 8191
abbrev pub in_span : ℤ → Bool
in_span h = int_le (negsuc 8191) h && int_le h (pos 8191)

-- A cell may be untold, or have a height of the span.
abbrev pub may_stand : Option ℤ → Bool
may_stand None = true
may_stand (Some h) = in_span h

-- The height that a cell has in a closed frame: an untold one stands there as -8192.
abbrev pub settled : Option ℤ → ℤ
settled None = negsuc 8191
settled (Some h) = h
