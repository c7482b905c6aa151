-- Searching rectangles of a grid, row by row.
use Rattle.std.proofs.Common.{◌≡◌, ℕ, ◌+◌, ◌-◌, ◌*◌, ◌^◌, ◌<◌, ◌≤◌, ◌↔◌, List, length, get_or, take, drop, ℤ, pos, nat_abs, sym, ap, ◌∙◌, subst, mul-le-mul_right, arith}
use Rattle.std.proofs.lemmas.List.{get_or-drop, get_or-take, length-drop, length-take}
use Rattle.head.proofs.Squares.{area}
use Rattle.transform.specs.Transform.{grid_of}
use Rattle.speck.specs.Grid.{Grid}
use Rattle.ground.specs.Tells.{InRectangle, Reaches, SomeReach}
use Rattle.ground.proofs.Ranges.{Within}

-- a row ends within the grid
pub row_end : (m side row right n : ℕ) → side ≡ 2 ^ m → n ≡ 4 ^ m → row < side → right ≤ side → row * side + right ≤ n
row_end m side row right n s e h k =
    let a : side * side ≡ n = ap (λ w. w * w) s ∙ (area m ∙ sym e) in
    let l : (row + 1) * side ≤ side * side = mul-le-mul_right side (omega arith) in
    omega arith

module _ (m side : ℕ) (xs : List ℤ) (row left right least : ℕ) (s : side ≡ 2 ^ m) (whole : length xs ≡ 4 ^ m) (inside : row < 2 ^ m) (columns : right ≤ 2 ^ m) (across : left ≤ right) where
  abbrev part : List ℤ
  part = take ((row * side + right) - (row * side + left)) (drop (row * side + left) xs)

  long : length part ≡ right - left
  long =
      let e = row_end m side row right (length xs) s whole (omega arith) (omega arith) in
      let n : (row * side + right) - (row * side + left) ≡ right - left = omega arith in
      omega (arith, length-take ((row * side + right) - (row * side + left)) (drop (row * side + left) xs), length-drop (row * side + left) xs)

  cell_at : (p : ℕ) → p < right - left → get_or part p (pos 0) ≡ grid_of m xs row (left + p)
  cell_at p h =
      let e : row * side + left + p ≡ row * 2 ^ m + (left + p) = rw s (omega arith) in
      get_or-take ((row * side + right) - (row * side + left)) (drop (row * side + left) xs) p (pos 0) (omega arith) ∙ get_or-drop (row * side + left) xs p (pos 0) ∙ ap (λ q. get_or xs q (pos 0)) e

  -- what is found in a part of a row is in the grid
  pub row_tells : SomeReach part least ↔ Reaches m (grid_of m xs) least (InRectangle row (row + 1) left right)
  row_tells = (
    λ (p, h, l). let q : p < right - left = omega (arith, long) in record {
      row = row;
      column = left + p;
      within = record { row = inside; column = omega arith };
      named = record { below = omega arith; above = omega arith; beside = omega arith; before = omega arith };
      large = subst (λ z. least ≤ nat_abs z) (cell_at p q) l;
    },
    λ r.
        let p = r.column - left in
        let h : p < right - left = omega (arith, r.named.beside, r.named.before) in
        let i : r.row ≡ row = omega (arith, r.named.below, r.named.above) in
        let j : r.column ≡ left + p = omega (arith, r.named.beside) in
        (p, omega (arith, long), subst (λ z. least ≤ nat_abs z) (ap (λ k. grid_of m xs k r.column) i ∙ ap (grid_of m xs row) j ∙ sym (cell_at p h)) r.large),
  )

-- a rectangle is its rows
pub rows_tell : (m : ℕ) (g : Grid) (least top bottom left right : ℕ) → Within top bottom (λ row. Reaches m g least (InRectangle row (row + 1) left right)) ↔ Reaches m g least (InRectangle top bottom left right)
rows_tell m g least top bottom left right = (
  λ (row, t, b, r). record {
    row = r.row;
    column = r.column;
    within = r.within;
    named = record { below = omega (arith, r.named.below); above = omega (arith, r.named.above); beside = r.named.beside; before = r.named.before };
    large = r.large;
  },
  λ r. (
    r.row,
    r.named.below,
    r.named.above,
    record {
      row = r.row;
      column = r.column;
      within = r.within;
      named = record { below = omega arith; above = omega arith; beside = r.named.beside; before = r.named.before };
      large = r.large;
    },
  ),
)
