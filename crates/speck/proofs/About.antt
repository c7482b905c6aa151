-- Every question is about the grid, so grids that agree there have one survey.
use Rattle.std.proofs.Common.{◌≡◌, ℕ, zero, suc, ◌+◌, ◌*◌, ◌%◌, ◌^◌, ◌<◌, ◌≤◌, Bool, true, false, ◌||◌, List, [], ◌∷◌, ◌++◌, length, sym, refl, ap, ◌∙◌, subst, pow-suc, arith, pow_mono}
use native.Mathlib.Nat.{mul-mod_left}
use Rattle.std.specs.List.{AllByRecursion}
use Rattle.speck.specs.declared.Part.{Part}
use Rattle.speck.specs.declared.Part.TheVariants.{Block, Rest}
use Rattle.speck.specs.Grid.{Grid, magnitude, is_negative, upper, outside, View, cell, parts, view, significant, significant_cell, any_significant}
use Rattle.speck.specs.Survey.{Found, arranged, odd, refined, survey}
use Rattle.speck.specs.Machine.{State, owing, asking, sign, refinement, finished, refine_on_by, go_on_by, enter_plane, unfolded, ask, answer, step, noted, Next, going, contradiction, surplus, run, feed, start}
use Rattle.speck.specs.Receiver.{InGrid, Headed, Top}
use Rattle.speck.specs.Laws.{InPlace, AboutGrid, QuestionsAboutGrid, SurveyOfCells, asked, onward, written}
use Rattle.speck.proofs.Asking.{asking_gives}
use Rattle.speck.proofs.Lists.{each_append, each_arranged}
use Rattle.speck.proofs.Geometry.{LoudBy, part_ind, significant_by, significant_one_cell}

-- a place a multiple of the side, and inside the grid
record Fits (m s r : ℕ) : Type 0 where
  times : ℕ
  is : r ≡ times * 2 ^ s
  within : r + 2 ^ s ≤ 2 ^ m

abbrev Aligned : ℕ → Part → Type 0
Aligned m (Block s r c) = Fits m s r × Fits m s c
Aligned m (Rest d x) = x + suc d ≡ m

first_half : (m s r : ℕ) → Fits m (suc s) r → Fits m s r
first_half m s r f =
    let e = pow-suc 2 s in
    record { times = 2 * f.times; is = f.is ∙ rw e (omega arith); within = omega (arith, f.within) }

second_half : (m s r : ℕ) → Fits m (suc s) r → Fits m s (r + 2 ^ s)
second_half m s r f =
    let e = pow-suc 2 s in
    record { times = 2 * f.times + 1; is = ap (λ y. y + 2 ^ s) f.is ∙ rw e (omega arith); within = omega (arith, f.within) }

at_zero : (m x d : ℕ) → x + suc d ≡ m → Fits m x 0
at_zero m x d e = record { times = 0; is = omega arith; within = omega (arith, pow_mono {i = x} {j = m} (omega arith)) }

at_side : (m x d : ℕ) → x + suc d ≡ m → Fits m x (2 ^ x)
at_side m x d e = record { times = 1; is = omega arith; within = omega (arith, pow-suc 2 x, pow_mono {i = suc x} {j = m} (omega arith)) }

-- what a part opens to
abbrev Opens : ℕ → View → Type 0
Opens m (cell r c) = InGrid m r c
Opens m (parts k ks) = AllByRecursion (Aligned m) (k ∷ ks)

opens : (m : ℕ) (p : Part) → Aligned m p → Opens m (view p)
opens m (Block zero r c) a = record { row = omega (arith, a.0.within); column = omega (arith, a.1.within) }
opens m (Block (suc s) r c) a =
    let r0 = first_half m s r a.0 in
    let r1 = second_half m s r a.0 in
    let c0 = first_half m s c a.1 in
    let c1 = second_half m s c a.1 in
    ((r0, c0), ((r0, c1), ((r1, c0), ((r1, c1), tt))))
opens m (Rest zero x) e =
    let z = at_zero m x 0 e in
    let s = at_side m x 0 e in
    ((z, s), ((s, z), ((s, s), tt)))
opens m (Rest (suc d) x) e =
    let z = at_zero m x (suc d) e in
    let s = at_side m x (suc d) e in
    ((z, s), ((s, z), ((s, s), (omega arith, tt))))

in_place : (m : ℕ) (p : Part) → Aligned m p → InPlace m p
in_place m (Block s r c) a = (
  a.0.within,
  a.1.within,
  ap (λ y. y % 2 ^ s) a.0.is ∙ mul-mod_left a.0.times (2 ^ s),
  ap (λ y. y % 2 ^ s) a.1.is ∙ mul-mod_left a.1.times (2 ^ s),
)
in_place m (Rest d x) e = e

-- lists of parts in their places, and of cells in the grid
abbrev Cells : ℕ → List Found → Type 0
Cells m = AllByRecursion (λ e. InGrid m e.row e.column)

-- what a state has is of the grid, and its plane one of the P
record OfGrid (m P n : ℕ) (todo noes : List Part) (cells : List Found) : Type 0 where
  plane : n < P
  todo_in : AllByRecursion (Aligned m) todo
  noes_in : AllByRecursion (Aligned m) noes
  cells_in : Cells m cells

abbrev Within : ℕ → ℕ → State → Type 0
Within m P (owing n p ps free noes old new) = OfGrid m P n (p ∷ (ps ++ free)) noes (old ++ new)
Within m P (asking n p free noes old new) = OfGrid m P n (p ∷ free) noes (old ++ new)
Within m P (sign n r c free noes old new) = InGrid m r c × OfGrid m P n free noes (old ++ new)
Within m P (refinement n e todo done noes new) = InGrid m e.row e.column × Cells m todo × OfGrid m P n [] noes (done ++ new)
Within m P (finished noes old) = Unit {0}

cells_left : (m : ℕ) (xs ys : List Found) → Cells m (xs ++ ys) → Cells m xs
cells_left m [] ys h = tt
cells_left m (x ∷ xs) ys h = (h.0, cells_left m xs ys h.1)

cells_right : (m : ℕ) (xs ys : List Found) → Cells m (xs ++ ys) → Cells m ys
cells_right m [] ys h = h
cells_right m (x ∷ xs) ys h = cells_right m xs ys h.1

-- the continuation at a plane's end
abbrev Enters : ℕ → ℕ → (List Part → List Found → State) → Type 0
Enters m P k = (w : List Part) (f : List Found) → AllByRecursion (Aligned m) w → Cells m f → Within m P (k w f)

refines : (m P n : ℕ) (k : List Part → List Found → State) → Enters m P k → (todo done : List Found) (noes : List Part) (new : List Found) → Cells m todo → OfGrid m P n [] noes (done ++ new) → Within m P (refine_on_by k n todo done noes new)
refines m P n k H [] done noes new c o = H noes (done ++ new) o.noes_in o.cells_in
refines m P n k H (e ∷ todo) done noes new c o = (c.0, c.1, o)

goes : (m P n : ℕ) (k : List Part → List Found → State) → Enters m P k → (free noes : List Part) (old new : List Found) → OfGrid m P n free noes (old ++ new) → Within m P (go_on_by k n free noes old new)
goes m P n k H [] noes old new o =
    refines m P n k H old [] noes new (cells_left m old new o.cells_in) (record { plane = o.plane; todo_in = tt; noes_in = o.noes_in; cells_in = cells_right m old new o.cells_in })
goes m P n k H (p ∷ free) noes old new o = o

enters : (m P n : ℕ) → n ≤ P → Enters m P (enter_plane n)
unfolding enter_plane
enters m P zero h w f a c = tt
enters m P (suc n) h w f a c =
    goes m P n (enter_plane n) (enters m P n (omega arith)) (arranged w) [] f [] (record { plane = omega arith; todo_in = each_arranged (Aligned m) w a; noes_in = tt; cells_in = each_append (λ e. InGrid m e.row e.column) f [] c tt })

unfolds : (m P n : ℕ) (v : View) (free noes : List Part) (old new : List Found) → Opens m v → OfGrid m P n free noes (old ++ new) → Within m P (unfolded n v free noes old new)
unfolds m P n (cell r c) free noes old new h o = (h, o)
unfolds m P n (parts k ks) free noes old new h o =
    record { plane = o.plane; todo_in = each_append (Aligned m) (k ∷ ks) free h o.todo_in; noes_in = o.noes_in; cells_in = o.cells_in }

abbrev GoesWithin : ℕ → ℕ → Next → Type 0
GoesWithin m P (going s) = Within m P s
GoesWithin m P contradiction = Unit {0}
GoesWithin m P surplus = Unit {0}

module _ (m P : ℕ) where
  -- a part is taken off what is to be asked
  off : (n : ℕ) (p : Part) (todo noes : List Part) (cells : List Found) → OfGrid m P n (p ∷ todo) noes cells → OfGrid m P n todo noes cells
  off n p todo noes cells o = record { plane = o.plane; todo_in = o.todo_in.1; noes_in = o.noes_in; cells_in = o.cells_in }

  -- and waits
  passed : (n : ℕ) (p : Part) (todo noes : List Part) (cells : List Found) → OfGrid m P n (p ∷ todo) noes cells → OfGrid m P n todo (noes ++ p ∷ []) cells
  passed n p todo noes cells o = record { plane = o.plane; todo_in = o.todo_in.1; noes_in = each_append (Aligned m) noes (p ∷ []) o.noes_in (o.todo_in.0, tt); cells_in = o.cells_in }

  steps : (s : State) (b : Bool) → Within m P s → GoesWithin m P (step s b)
  steps (owing n p ps free noes old new) true o = unfolds m P n (view p) (ps ++ free) noes old new (opens m p o.todo_in.0) (off n p (ps ++ free) noes (old ++ new) o)
  steps (owing n p [] free noes old new) false o = tt
  steps (owing n p (p₁ ∷ ps) free noes old new) false o = passed n p (p₁ ∷ (ps ++ free)) noes (old ++ new) o
  steps (asking n p free noes old new) true o = unfolds m P n (view p) free noes old new (opens m p o.todo_in.0) (off n p free noes (old ++ new) o)
  steps (asking n p free noes old new) false o = goes m P n (enter_plane n) (enters m P n (omega (arith, o.plane))) free (noes ++ p ∷ []) old new (passed n p free noes (old ++ new) o)
  steps (sign n r c free noes old new) b o =
      let cs = o.1.cells_in in
      let found = each_append (λ e. InGrid m e.row e.column) old (new ++ noted r c b ∷ []) (cells_left m old new cs) (each_append (λ e. InGrid m e.row e.column) new (noted r c b ∷ []) (cells_right m old new cs) (o.0, tt)) in
      goes m P n (enter_plane n) (enters m P n (omega (arith, o.1.plane))) free noes old (new ++ noted r c b ∷ []) (record { plane = o.1.plane; todo_in = o.1.todo_in; noes_in = o.1.noes_in; cells_in = found })
  steps (refinement n e todo done noes new) b o =
      let cs = o.2.cells_in in
      let found = each_append (λ e. InGrid m e.row e.column) (done ++ refined e b ∷ []) new (each_append (λ e. InGrid m e.row e.column) done (refined e b ∷ []) (cells_left m done new cs) (o.0, tt)) (cells_right m done new cs) in
      refines m P n (enter_plane n) (enters m P n (omega (arith, o.2.plane))) todo (done ++ refined e b ∷ []) noes new o.1 (record { plane = o.2.plane; todo_in = tt; noes_in = o.2.noes_in; cells_in = found })
  steps (finished noes old) b o = tt

  feeds : (t : Next) (b : Bool) → GoesWithin m P t → GoesWithin m P (feed t b)
  feeds (going s) b h = steps s b h
  feeds contradiction b h = tt
  feeds surplus b h = tt

  runs : (bits : List Bool) (t : Next) → GoesWithin m P t → GoesWithin m P (run t bits)
  runs [] t h = h
  runs (b ∷ bits) t h = runs bits (feed t b) (feeds t b h)

  about : (s : State) → Within m P s → AboutGrid m P (ask s)
  about (owing n p ps free noes old new) o = (o.plane, in_place m p o.todo_in.0)
  about (asking n p free noes old new) o = (o.plane, in_place m p o.todo_in.0)
  about (sign n r c free noes old new) o = o.0
  about (refinement n e todo done noes new) o = (o.2.plane, o.0)
  about (finished noes old) o = tt

outside_in : (k x : ℕ) → AllByRecursion (Aligned (x + k)) (outside k x)
outside_in zero x = tt
outside_in (suc k) x = (refl, tt)

starts : (x k P : ℕ) → Within (x + k) P (start x k P)
starts x k zero = tt
starts x k (suc n) =
    let f : Fits (x + k) x 0 = record { times = 0; is = omega arith; within = omega (arith, pow_mono {i = x} {j = x + k} (omega arith)) } in
    record { plane = omega arith; todo_in = ((f, f), each_append (Aligned (x + k)) (outside k x) [] (outside_in k x) tt); noes_in = tt; cells_in = tt }

pub about_grid : QuestionsAboutGrid
about_grid x k P bits s e = about (x + k) P s (subst (GoesWithin (x + k) P) e (runs (x + k) P bits (going (start x k P)) (starts x k P)))

-- Two grids that agree on the square answer each question alike.
module _ (m P : ℕ) (g h : Grid) (agree : (i j : ℕ) → InGrid m i j → g i j ≡ h i j) where
  same_cell : (n r c : ℕ) → Aligned m (Block 0 r c) → significant g n (Block 0 r c) ≡ significant h n (Block 0 r c)
  same_cell n r c a = significant_one_cell g n r c ∙ (ap (significant_cell n) (agree r c (opens m (Block 0 r c) a)) ∙ sym (significant_one_cell h n r c))

  abbrev Same : ℕ → Part → Type 0
  Same n p = Aligned m p → significant g n p ≡ significant h n p

  same_any : (n : ℕ) (ps : List Part) → AllByRecursion (Same n) ps → AllByRecursion (Aligned m) ps → any_significant g n ps ≡ any_significant h n ps
  same_any n [] e a = refl
  same_any n (p ∷ ps) e a = ap (λ b. b || any_significant g n ps) (e.0 a.0) ∙ ap (λ b. significant h n p || b) (same_any n ps e.1 a.1)

  same_more : (n : ℕ) (p k : Part) (ks : List Part) → view p ≡ parts k ks → AllByRecursion (Same n) (k ∷ ks) → Same n p
  same_more n p k ks v e a =
      let a' : AllByRecursion (Aligned m) (k ∷ ks) = subst (Opens m) v (opens m p a) in
      subst (LoudBy g n p) v (significant_by g n p) ∙ (same_any n (k ∷ ks) e a' ∙ sym (subst (LoudBy h n p) v (significant_by h n p)))

  same_part : (n : ℕ) (p : Part) → Same n p
  same_part n = part_ind (Same n) (same_cell n) (same_more n)

  same_answer : (s : State) → Within m P s → answer g (ask s) ≡ answer h (ask s)
  same_answer (owing n p ps free noes old new) o = same_part n p o.todo_in.0
  same_answer (asking n p free noes old new) o = same_part n p o.todo_in.0
  same_answer (sign n r c free noes old new) o = ap is_negative (agree r c o.0)
  same_answer (refinement n e todo done noes new) o = ap (λ z. odd (upper n (magnitude z))) (agree e.row e.column o.0)
  same_answer (finished noes old) o = refl

  abbrev AskedAlike : ℕ → Type 0
  AskedAlike n = (s : State) → Within m P s → asked g n s ≡ asked h n s

  onward_same : (n : ℕ) → AskedAlike n → (t : Next) → GoesWithin m P t → onward (asked g n) t ≡ onward (asked h n) t
  onward_same n ih (going s) o = ih s o
  onward_same n ih contradiction o = refl
  onward_same n ih surplus o = refl

  written_same : (n : ℕ) → AskedAlike n → (s : State) → Within m P s → written g (asked g n) s ≡ written h (asked h n) s
  written_same n ih s o =
      ap (λ l. answer g (ask s) ∷ l) (onward_same n ih (step s (answer g (ask s))) (steps m P s (answer g (ask s)) o))
      ∙ ap (λ b. b ∷ onward (asked h n) (step s b)) (same_answer s o)

  asked_same : (n : ℕ) → AskedAlike n
  asked_same zero s o = refl
  asked_same (suc n) (owing a p ps free noes old new) o = written_same n (asked_same n) (owing a p ps free noes old new) o
  asked_same (suc n) (asking a p free noes old new) o = written_same n (asked_same n) (asking a p free noes old new) o
  asked_same (suc n) (sign a r c free noes old new) o = written_same n (asked_same n) (sign a r c free noes old new) o
  asked_same (suc n) (refinement a e todo done noes new) o = written_same n (asked_same n) (refinement a e todo done noes new) o
  asked_same (suc n) (finished noes old) o = refl

  same_top : (Q : ℕ) → Top m Q g → Top m Q h
  same_top zero t = tt
  same_top (suc n) t = (t.0, t.1, t.2, subst (λ z. 2 ^ n ≤ magnitude z) (agree t.0 t.1 t.2) t.3)

  pub same_head : (Q : ℕ) → Headed m Q g → Headed m Q h
  same_head Q d = record { below = λ i j c. subst (λ z. magnitude z < 2 ^ Q) (agree i j c) (d.below i j c); top = same_top Q d.top }

pub of_cells : SurveyOfCells
of_cells x k P g h d agree =
    let n = length (survey x k P g) + length (survey x k P h) in
    let a = (asking_gives x k P g d n).2 (omega arith) in
    let b = (asking_gives x k P h (same_head (x + k) P g h agree P d) n).2 (omega arith) in
    sym a ∙ (asked_same (x + k) P g h agree n (start x k P) (starts x k P) ∙ b)
