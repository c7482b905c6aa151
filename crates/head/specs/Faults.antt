use Rattle.std.specs.Prelude.{◌≡◌, Some, None, Ok, Err, Option, Result}

-- A call answers the fault that applies, or, where none does, a value of which P holds.
abbrev pub Answers : {X E : Type 0} → Result X E → Option E → (X → Type 0) → Type 0
Answers (Ok x) fault P = (fault ≡ None) × P x
Answers (Err e) fault P = fault ≡ Some e

-- The first of two faults that applies.
abbrev pub or_else : {E : Type 0} → Option E → Option E → Option E
or_else None other = other
or_else (Some e) other = Some e
