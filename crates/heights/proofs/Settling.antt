use Rattle.std.proofs.Common.{◌≡◌, ℕ, ◌+◌, ◌*◌, ◌^◌, ◌<◌, true, List, map, length, get_or, ℤ, pos, nat_abs, Some, None, Option, ap, ◌∙◌, inl, inr, arith}
use borrow.Author.Differences.{ints}
use Rattle.std.proofs.lemmas.List.{get_or-map, get_or_past, length-map}
use Rattle.std.proofs.lemmas.Bool.{cases_lt}
use Rattle.frame.specs.Cells.{may_stand, settled}
use Rattle.frame.specs.Frames.{heights_of}
use Rattle.head.proofs.Squares.{place_in}
use Rattle.transform.specs.Transform.{On, grid_of, transform, undone}
use Rattle.transform.specs.Planes.{Span, BelowPlanes}
use Rattle.transform.proofs.Levels.{comes_back, transform_local}
use Rattle.transform.proofs.Planes.{fifteen_planes}
use Rattle.transform.proofs.Errors.{undone_local}
use Rattle.heights.proofs.Sides.{at_places}

stands_span : (o : Option ℤ) → may_stand o ≡ true → Span (settled o)
stands_span None e = omega (arith, ints)
stands_span (Some h) e = grind (arith, ints)

-- what is small at every cell of the square is small at every place, since past the end there is 0
small_places : (m : ℕ) (xs : List ℤ) → length xs ≡ 4 ^ m → BelowPlanes m (grid_of m xs) 15 → (p : ℕ) → nat_abs (get_or xs p (pos 0)) < 2 ^ 15
small_places m xs e small p = elim (cases_lt p (4 ^ m)) [ inl l ↦ at_places m (2 ^ 15) xs small p l | inr l ↦ rw (get_or_past xs p (pos 0) (omega arith)) (omega arith) ]

-- hs are the heights of a frame of side 2^m with these cells
pub record Settled (m : ℕ) (cells : List (Option ℤ)) (hs : List ℤ) : Type 0 where
  pub whole : length cells ≡ 4 ^ m
  pub stand : (p : ℕ) → may_stand (get_or cells p None) ≡ true
  pub are : hs ≡ map settled cells

module _ {m : ℕ} {cells : List (Option ℤ)} {hs : List ℤ} (s : Settled m cells hs) where
  heights_are : On (2 ^ m) (λ i j. grid_of m hs i j ≡ heights_of m cells i j)
  heights_are i j p q = ap (λ u. grid_of m u i j) s.are ∙ get_or-map settled cells (i * 2 ^ m + j) None (pos 0) (omega (arith, s.whole, place_in m i j p q))

  pub heights_span : On (2 ^ m) (λ i j. Span (grid_of m hs i j))
  heights_span i j p q = rw (heights_are i j p q) (stands_span (get_or cells (i * 2 ^ m + j) None) (s.stand (i * 2 ^ m + j)))

  pub heights_whole : length hs ≡ 4 ^ m
  heights_whole = ap length s.are ∙ length-map cells settled ∙ s.whole

  -- and zs their transform
  module _ (k : ℕ) (zs : List ℤ) (long : length zs ≡ length hs) (turned : On (2 ^ m) (λ i j. grid_of m zs i j ≡ transform m k (grid_of m hs) i j)) where
    pub coefficients_small : (p : ℕ) → nat_abs (get_or zs p (pos 0)) < 2 ^ 15
    coefficients_small = small_places m zs (long ∙ heights_whole) (λ i j p q. rw (turned i j p q) (fifteen_planes m k (grid_of m hs) heights_span i j p q))

    pub coefficients_defined : On (2 ^ m) (λ i j. grid_of m zs i j ≡ transform m k (heights_of m cells) i j)
    coefficients_defined i j p q = turned i j p q ∙ transform_local m k (grid_of m hs) (heights_of m cells) heights_are i j p q

    pub coefficients_back : On (2 ^ m) (λ i j. undone m k (grid_of m zs) i j ≡ heights_of m cells i j)
    coefficients_back i j p q = undone_local m k (grid_of m zs) (transform m k (heights_of m cells)) coefficients_defined i j p q ∙ comes_back m k (heights_of m cells) i j p q
