-- How many bits a survey has at most: by the nodes of the quadtree and the cells.
use Rattle.std.proofs.Common.{◌≡◌, ℕ, zero, suc, ◌+◌, ◌*◌, ◌≤◌, Bool, true, false, cond, List, [], ◌∷◌, ◌++◌, map, length, sym, refl, ap, ◌∙◌, subst, add-zero, add-suc, suc-mul, suc-add, zero-mul, arith, length-append}
use Rattle.std.proofs.lemmas.List.Recursion.{is_sum_by}
use Rattle.std.proofs.lemmas.List.Sorted.{sum_by-IsPermutation}
use lib.ListN.{length-map}
use Rattle.std.specs.List.{AllByRecursion}
use Rattle.speck.specs.declared.Part.{Part}
use Rattle.speck.specs.declared.Part.TheVariants.{Block, Rest}
use Rattle.speck.specs.Grid.{Grid, outside, View, cell, parts, view, significant}
use Rattle.speck.specs.Survey.{Found, arranged, refined, bit_of, Outcome, and_then, said_no, found_cell, opened, ask_part, ask_all, planes, survey}
use Rattle.speck.specs.Laws.{SurveyLength}
use Rattle.speck.proofs.Walk.{AskBy, ask_by}
use Rattle.speck.proofs.Lists.{arranged_moves}
use Rattle.speck.proofs.Geometry.{part_ind}

-- the nodes of a block's quadtree, and of the tree of a Rest
abbrev pub block_nodes : ℕ → ℕ
block_nodes zero = 1
block_nodes (suc s) = 1 + 4 * block_nodes s

abbrev pub rest_nodes : ℕ → ℕ → ℕ
rest_nodes zero x = 1 + 3 * block_nodes x
rest_nodes (suc d) x = 1 + (3 * block_nodes x + rest_nodes d (suc x))

abbrev pub nodes : Part → ℕ
nodes (Block s r c) = block_nodes s
nodes (Rest d x) = rest_nodes d x

-- their cells
abbrev pub block_area : ℕ → ℕ
block_area zero = 1
block_area (suc s) = 4 * block_area s

abbrev pub rest_area : ℕ → ℕ → ℕ
rest_area zero x = 3 * block_area x
rest_area (suc d) x = 3 * block_area x + rest_area d (suc x)

abbrev pub area : Part → ℕ
area (Block s r c) = block_area s
area (Rest d x) = rest_area d x

-- sums over a list of parts
abbrev sum_of : (Part → ℕ) → List Part → ℕ
sum_of f [] = 0
sum_of f (p ∷ ps) = f p + sum_of f ps

sum_append : (f : Part → ℕ) (xs ys : List Part) → sum_of f (xs ++ ys) ≡ sum_of f xs + sum_of f ys
sum_append f [] ys = omega arith
sum_append f (x ∷ xs) ys = omega (arith, sum_append f xs ys)

sum_arrange : (f : Part → ℕ) (ps : List Part) → sum_of f (arranged ps) ≡ sum_of f ps
sum_arrange f ps =
    let s = is_sum_by (sum_of f) f refl (λ _ _. refl) in
    s (arranged ps) ∙ sum_by-IsPermutation f ps (arranged ps) (arranged_moves ps) ∙ sym (s ps)

-- what is asked of sets with so many nodes and so many cells
record Bounded (a : Outcome) (N A : ℕ) : Type 0 where
  bits_few : length a.bits ≤ N + length a.finds
  nodes_left : sum_of nodes a.waits + length a.finds ≤ N
  cells_left : sum_of area a.waits + length a.finds ≤ A

both_bounded : (a b : Outcome) (N M A B : ℕ) → Bounded a N A → Bounded b M B → Bounded (and_then a b) (N + M) (A + B)
both_bounded a b N M A B h k = record {
  bits_few = omega (arith, h.bits_few, k.bits_few, length-append a.bits b.bits, length-append a.finds b.finds);
  nodes_left = omega (arith, h.nodes_left, k.nodes_left, sum_append nodes a.waits b.waits, length-append a.finds b.finds);
  cells_left = omega (arith, h.cells_left, k.cells_left, sum_append area a.waits b.waits, length-append a.finds b.finds);
}

some_nodes : (p : Part) → 1 ≤ nodes p
some_nodes (Block zero r c) = omega arith
some_nodes (Block (suc s) r c) = omega arith
some_nodes (Rest zero x) = omega arith
some_nodes (Rest (suc d) x) = omega arith

no_bounded : (p : Part) → Bounded (said_no p) (nodes p) (area p)
no_bounded p = record { bits_few = omega (arith, some_nodes p); nodes_left = omega arith; cells_left = omega arith }

opened_bounded : (a : Outcome) (N A : ℕ) → Bounded a N A → Bounded (opened a) (1 + N) A
opened_bounded a N A h = record { bits_few = omega (arith, h.bits_few); nodes_left = omega (arith, h.nodes_left); cells_left = omega (arith, h.cells_left) }

found_bounded : (g : Grid) (r c : ℕ) → Bounded (found_cell g r c) 1 1
found_bounded g r c = record { bits_few = omega arith; nodes_left = omega arith; cells_left = omega arith }

-- a set has a node more than its parts, and their cells
abbrev Sizes : Part → View → Type 0
Sizes p (cell r c) = Unit {0}
Sizes p (parts k ks) = (nodes p ≡ 1 + sum_of nodes (k ∷ ks)) × (area p ≡ sum_of area (k ∷ ks))

sizes : (p : Part) → Sizes p (view p)
sizes (Block zero r c) = tt
sizes (Block (suc s) r c) = (omega arith, omega arith)
sizes (Rest zero x) = (omega arith, omega arith)
sizes (Rest (suc d) x) = (omega arith, omega arith)

nodes_by : (p k : Part) (ks : List Part) → view p ≡ parts k ks → (nodes p ≡ 1 + sum_of nodes (k ∷ ks)) × (area p ≡ sum_of area (k ∷ ks))
nodes_by p k ks e = subst (Sizes p) e (sizes p)

module _ (g : Grid) (n : ℕ) where
  Few : Part → Type 0
  Few p = Bounded (ask_part g n p) (nodes p) (area p)

  all_few : (ps : List Part) → AllByRecursion Few ps → Bounded (ask_all g n ps) (sum_of nodes ps) (sum_of area ps)
  unfolding Few
  all_few [] h = record { bits_few = omega arith; nodes_left = omega arith; cells_left = omega arith }
  all_few (p ∷ ps) h = both_bounded (ask_part g n p) (ask_all g n ps) (nodes p) (sum_of nodes ps) (area p) (sum_of area ps) h.0 (all_few ps h.1)

  few_one : (r c : ℕ) → Few (Block 0 r c)
  unfolding Few
  few_one r c = rw (ask_by g n (Block 0 r c)) (by (significant g n (Block 0 r c)))
    where
      by : (b : Bool) → Bounded (cond b (found_cell g r c) (said_no (Block 0 r c))) 1 1
      by true = found_bounded g r c
      by false = no_bounded (Block 0 r c)

  few_more : (p k : Part) (ks : List Part) → view p ≡ parts k ks → AllByRecursion Few (k ∷ ks) → Few p
  unfolding Few
  few_more p k ks e h =
      let a : ask_part g n p ≡ cond (significant g n p) (opened (ask_all g n (k ∷ ks))) (said_no p) = subst (AskBy g n p) e (ask_by g n p) in
      rw a (by (significant g n p) (all_few (k ∷ ks) h))
    where
      by : (b : Bool) → Bounded (ask_all g n (k ∷ ks)) (sum_of nodes (k ∷ ks)) (sum_of area (k ∷ ks)) → Bounded (cond b (opened (ask_all g n (k ∷ ks))) (said_no p)) (nodes p) (area p)
      by true y = rw ((nodes_by p k ks e).0, (nodes_by p k ks e).1) (opened_bounded (ask_all g n (k ∷ ks)) (sum_of nodes (k ∷ ks)) (sum_of area (k ∷ ks)) y)
      by false y = no_bounded p

  few_each : (ps : List Part) → AllByRecursion Few ps
  few_each [] = tt
  few_each (p ∷ ps) = (part_ind Few few_one few_more p, few_each ps)

  plane_few : (w : List Part) → Bounded (ask_all g n (arranged w)) (sum_of nodes w) (sum_of area w)
  plane_few w = rw (sum_arrange nodes w, sum_arrange area w) at (all_few (arranged w) (few_each (arranged w)))

-- the numbers of one plane
count_plane : (B F p f w f' nN N A : ℕ) → B ≤ w + F → w + f ≤ N → f' ≡ f + F → p + f' ≤ nN + A → (B + (f + p)) + f ≤ (nN + N) + A
count_plane B F p f w f' nN N A h k e l = omega arith

planes_length : (g : Grid) (n : ℕ) (w : List Part) (f : List Found) (N A : ℕ) → sum_of nodes w + length f ≤ N → sum_of area w + length f ≤ A → length (planes g n w f) + length f ≤ n * N + A
planes_length g zero w f N A h k = rw (zero-mul N) (omega arith)
planes_length g (suc n) w f N A h k =
    let a : Outcome = ask_all g n (arranged w) in
    let b : Bounded a (sum_of nodes w) (sum_of area w) = plane_few g n w in
    let f' : List Found = map (λ e. refined e (bit_of g n e)) f ++ a.finds in
    let r : List Bool = planes g n a.waits f' in
    let l : length f' ≡ length f + length a.finds = length-append (map (λ e. refined e (bit_of g n e)) f) a.finds ∙ ap (λ u. u + length a.finds) (length-map f (λ e. refined e (bit_of g n e))) in
    let i : length r + length f' ≤ n * N + A = planes_length g n a.waits f' N A (omega (arith, b.nodes_left)) (omega (arith, b.cells_left)) in
    let e : length (a.bits ++ (map (bit_of g n) f ++ r)) ≡ length a.bits + (length f + length r) = length-append a.bits (map (bit_of g n) f ++ r) ∙ ap (λ u. length a.bits + u) (length-append (map (bit_of g n) f) r ∙ ap (λ u. u + length r) (length-map f (bit_of g n))) in
    rw (suc-mul n N, e) (count_plane (length a.bits) (length a.finds) (length r) (length f) (sum_of nodes w) (length f') (n * N) N A b.bits_few h l i)

-- the first sets have the nodes and the cells of the whole square
whole_nodes : (k x : ℕ) → sum_of nodes (Block x 0 0 ∷ outside k x) ≤ block_nodes (x + k)
whole_nodes zero x = rw (add-zero x) (omega arith)
whole_nodes (suc d) x = rw (add-suc x d) (omega (arith, rest d x))
  where
    rest : (d x : ℕ) → block_nodes x + rest_nodes d x ≤ 1 + 4 * block_nodes (x + d)
    rest zero x = rw (add-zero x) (omega arith)
    rest (suc d) x = rw (add-suc x d) (omega (arith, rw (suc-add x d) at (rest d (suc x))))

whole_area : (k x : ℕ) → sum_of area (Block x 0 0 ∷ outside k x) ≤ block_area (x + k)
whole_area zero x = rw (add-zero x) (omega arith)
whole_area (suc d) x = rw (add-suc x d) (omega (arith, rest d x))
  where
    rest : (d x : ℕ) → block_area x + rest_area d x ≤ 4 * block_area (x + d)
    rest zero x = rw (add-zero x) (omega arith)
    rest (suc d) x = rw (add-suc x d) (omega (arith, rw (suc-add x d) at (rest d (suc x))))

nodes_mono : (a b : ℕ) → a ≤ b → block_nodes a ≤ block_nodes b
nodes_mono zero zero h = omega arith
nodes_mono zero (suc b) h = omega arith
nodes_mono (suc a) zero h = absurd (omega arith)
nodes_mono (suc a) (suc b) h = omega (arith, nodes_mono a b (omega arith))

area_mono : (a b : ℕ) → a ≤ b → block_area a ≤ block_area b
area_mono zero zero h = omega arith
area_mono zero (suc b) h = omega (arith, area_mono zero b (omega arith))
area_mono (suc a) zero h = absurd (omega arith)
area_mono (suc a) (suc b) h = omega (arith, area_mono a b (omega arith))

-- each plane asks of each node once at most, and each cell has one sign
pub planes_and_signs : (x k P : ℕ) (g : Grid) → length (survey x k P g) ≤ P * block_nodes (x + k) + block_area (x + k)
planes_and_signs x k P g = omega (arith, planes_length g P (Block x 0 0 ∷ outside k x) [] (block_nodes (x + k)) (block_area (x + k)) (omega (arith, whole_nodes k x)) (omega (arith, whole_area k x)))

pub survey_length : SurveyLength
survey_length x k P g h p =
    let N : sum_of nodes (Block x 0 0 ∷ outside k x) + 0 ≤ 5461 = omega (arith, whole_nodes k x, nodes_mono (x + k) 6 h) in
    let A : sum_of area (Block x 0 0 ∷ outside k x) + 0 ≤ 4096 = omega (arith, whole_area k x, area_mono (x + k) 6 h) in
    omega (arith, planes_length g P (Block x 0 0 ∷ outside k x) [] 5461 4096 N A)
