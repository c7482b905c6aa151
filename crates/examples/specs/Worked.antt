use Rattle.std.specs.Prelude.{◌≡◌, ℕ, Bool, true, false, [], ◌∷◌, take, pos, negsuc}
use Rattle.speck.specs.Machine.{contradiction, going, owing, run, start}
use Rattle.speck.specs.Survey.{survey}
use Rattle.speck.specs.declared.Part.TheVariants.{Block, Rest}
use Rattle.transform.specs.Transform.{Grid, On, difference_of, grid_of, low_of, transform}
use Rattle.transform.specs.Planes.{PlaneCount}
use Rattle.transform.specs.Errors.{bound_of}

-- the map 10 7 / 4 5, and its coefficients by one level
abbrev pub map2 : Grid
map2 = grid_of 1 (pos 10 ∷ pos 7 ∷ pos 4 ∷ pos 5 ∷ [])

abbrev pub coefficients2 : Grid
coefficients2 = grid_of 1 (pos 6 ∷ pos 1 ∷ pos 4 ∷ pos 4 ∷ [])

abbrev pub zeros : Grid
zeros i j = pos 0

-- a grid of side 8 for two levels, with six planes
abbrev pub grid8 : Grid
grid8 = grid_of 3 (
    pos 63 ∷ negsuc 33 ∷ pos 49 ∷ pos 10 ∷ pos 7 ∷ pos 13 ∷ negsuc 11 ∷ pos 7 ∷
    negsuc 30 ∷ pos 23 ∷ pos 14 ∷ negsuc 12 ∷ pos 3 ∷ pos 4 ∷ pos 6 ∷ negsuc 0 ∷
    pos 15 ∷ pos 14 ∷ pos 3 ∷ negsuc 11 ∷ pos 5 ∷ negsuc 6 ∷ pos 3 ∷ pos 9 ∷
    negsuc 8 ∷ negsuc 6 ∷ negsuc 13 ∷ pos 8 ∷ pos 4 ∷ negsuc 1 ∷ pos 3 ∷ pos 2 ∷
    negsuc 4 ∷ pos 9 ∷ negsuc 0 ∷ pos 47 ∷ pos 4 ∷ pos 6 ∷ negsuc 1 ∷ pos 2 ∷
    pos 3 ∷ pos 0 ∷ negsuc 2 ∷ pos 2 ∷ pos 3 ∷ negsuc 1 ∷ pos 0 ∷ pos 4 ∷
    pos 2 ∷ negsuc 2 ∷ pos 6 ∷ negsuc 3 ∷ pos 3 ∷ pos 6 ∷ pos 3 ∷ pos 6 ∷
    pos 5 ∷ pos 11 ∷ pos 5 ∷ pos 6 ∷ pos 0 ∷ pos 3 ∷ negsuc 3 ∷ pos 4 ∷ [])

-- yes and no
abbrev l : Bool
l = true

abbrev o : Bool
o = false

-- Worked by hand.
pub record WorkedExamples : Type 0 where
  pub halving_low : low_of (negsuc 2) (pos 4) ≡ pos 0
  pub halving_difference : difference_of (negsuc 2) (pos 4) ≡ negsuc 6
  pub transformed : On 2 (λ i j. transform 1 1 map2 i j ≡ coefficients2 i j)
  pub planes : PlaneCount 1 (transform 1 1 map2) 3
  pub zeros_planes : (m k : ℕ) → PlaneCount m (transform m k zeros) 0
  pub bound_open : bound_of 3 1 ≡ 17
  pub bound_one_closed : bound_of 2 1 ≡ 8
  pub bound_two_closed : bound_of 1 1 ≡ 3
  pub bound_closed : bound_of 0 1 ≡ 0
  pub survey_of_map : survey 0 1 3 coefficients2 ≡ (l ∷ o ∷ l ∷ o ∷ l ∷ o ∷ l ∷ o ∷ o ∷ l ∷ o ∷ o ∷ l ∷ o ∷ o ∷ o ∷ o ∷ [])
  pub survey_of_zeros : (x k : ℕ) → survey x k 0 zeros ≡ []
  pub first_no_is_taken : run (going (start 0 1 1)) (o ∷ []) ≡ going (owing 0 (Rest 0 0) [] [] (Block 0 0 0 ∷ []) [] [])
  pub second_no_contradicts : run (going (start 0 1 1)) (o ∷ o ∷ []) ≡ contradiction
  pub fourth_no_is_taken : run (going (start 0 1 1)) (o ∷ l ∷ o ∷ o ∷ []) ≡ going (owing 0 (Block 0 1 1) [] [] (Block 0 0 0 ∷ Block 0 0 1 ∷ Block 0 1 0 ∷ []) [] [])
  pub fifth_no_contradicts : run (going (start 0 1 1)) (o ∷ l ∷ o ∷ o ∷ o ∷ []) ≡ contradiction
  pub survey_of_grid8 : take 50 (survey 1 2 6 grid8) ≡ (l ∷ l ∷ o ∷ l ∷ l ∷ o ∷ o ∷ l ∷ l ∷ l ∷ o ∷ o ∷ o ∷ o ∷ o ∷ o ∷ l ∷ o ∷ l ∷ o ∷ l ∷ o ∷ l ∷ o ∷ o ∷ o ∷ o ∷ o ∷ o ∷ l ∷ l ∷ l ∷ o ∷ o ∷ o ∷ o ∷ o ∷ o ∷ o ∷ o ∷ o ∷ o ∷ o ∷ o ∷ o ∷ o ∷ l ∷ o ∷ l ∷ o ∷ [])
