-- Which grids a state still allows.
use Rattle.std.proofs.Common.{◌≡◌, ℕ, zero, suc, ◌<◌, List, [], ◌∷◌, ◌++◌, arith}
use Rattle.speck.specs.declared.Part.{Part}
use Rattle.speck.specs.Grid.{Grid, magnitude, is_negative, upper, coverage}
use Rattle.speck.specs.Survey.{Found, arranged}
use Rattle.speck.specs.Machine.{State, owing, asking, sign, refinement, finished, refine_on_by, go_on_by, enter_plane}
use Rattle.speck.proofs.Lists.{coverage_arrange}

-- each cell of the parts is below 2 ^ n
abbrev pub Insignificant : Grid → ℕ → List Part → Type 0
Insignificant g n ps = (i j : ℕ) → 0 < coverage ps i j → upper n (magnitude (g i j)) ≡ 0

-- some cell of the parts is not
pub record Significant (g : Grid) (n : ℕ) (ps : List Part) : Type 0 where
  pub row : ℕ
  pub column : ℕ
  pub there : 0 < coverage ps row column
  pub big : 0 < upper n (magnitude (g row column))

pub record Fits (g : Grid) (n : ℕ) (e : Found) : Type 0 where
  pub size : upper n (magnitude (g e.row e.column)) ≡ e.leading
  pub side : is_negative (g e.row e.column) ≡ e.negative

abbrev pub Known : Grid → ℕ → List Found → Type 0
Known g n [] = Unit {0}
Known g n (e ∷ es) = Fits g n e × Known g n es

pub known_append : (g : Grid) (n : ℕ) (xs ys : List Found) → Known g n xs → Known g n ys → Known g n (xs ++ ys)
known_append g n [] ys h k = k
known_append g n (x ∷ xs) ys h k = (h.0, known_append g n xs ys h.1 k)

pub known_left : (g : Grid) (n : ℕ) (xs ys : List Found) → Known g n (xs ++ ys) → Known g n xs
known_left g n [] ys h = tt
known_left g n (x ∷ xs) ys h = (h.0, known_left g n xs ys h.1)

pub known_right : (g : Grid) (n : ℕ) (xs ys : List Found) → Known g n (xs ++ ys) → Known g n ys
known_right g n [] ys h = h
known_right g n (x ∷ xs) ys h = known_right g n xs ys h.1

-- plane n is under way: what is still to be asked, what said no, found before, found in this plane
pub record Base (g : Grid) (n : ℕ) (asks noes : List Part) (old new : List Found) : Type 0 where
  pub waits : Insignificant g (suc n) asks
  pub calm : Insignificant g n noes
  pub known : Known g (suc n) old
  pub fresh : Known g n new

pub record Turn (g : Grid) (n : ℕ) (todo done : List Found) (noes : List Part) (new : List Found) : Type 0 where
  pub calm : Insignificant g n noes
  pub known : Known g (suc n) todo
  pub refined : Known g n done
  pub fresh : Known g n new

pub record Over (g : Grid) (n : ℕ) (noes : List Part) (old : List Found) : Type 0 where
  pub calm : Insignificant g n noes
  pub known : Known g n old

abbrev pub Possible : State → Grid → Type 0
Possible (owing n p ps free noes old new) g = Base g n (p ∷ ps ++ free) noes old new × Significant g n (p ∷ ps)
Possible (asking n p free noes old new) g = Base g n (p ∷ free) noes old new
Possible (sign n r c free noes old new) g = Base g n free noes old new × (upper n (magnitude (g r c)) ≡ 1)
Possible (refinement n e todo done noes new) g = Turn g n (e ∷ todo) done noes new
Possible (finished noes old) g = Over g 0 noes old

-- what is under way is settled: the same of the next state
pub turn_by_in : (g : Grid) (n : ℕ) (k : List Part → List Found → State) → ((w : List Part) (f : List Found) → Over g n w f → Possible (k w f) g) → (todo done : List Found) (noes : List Part) (new : List Found) → Turn g n todo done noes new → Possible (refine_on_by k n todo done noes new) g
turn_by_in g n k H [] done noes new t = H noes (done ++ new) (record { calm = t.calm; known = known_append g n done new t.refined t.fresh })
turn_by_in g n k H (e ∷ todo) done noes new t = t

pub turn_by_out : (g : Grid) (n : ℕ) (k : List Part → List Found → State) → ((w : List Part) (f : List Found) → Possible (k w f) g → Over g n w f) → (todo done : List Found) (noes : List Part) (new : List Found) → Possible (refine_on_by k n todo done noes new) g → Turn g n todo done noes new
turn_by_out g n k H [] done noes new c =
    let o = H noes (done ++ new) c in
    record { calm = o.calm; known = tt; refined = known_left g n done new o.known; fresh = known_right g n done new o.known }
turn_by_out g n k H (e ∷ todo) done noes new c = c

pub go_by_in : (g : Grid) (n : ℕ) (k : List Part → List Found → State) → ((w : List Part) (f : List Found) → Over g n w f → Possible (k w f) g) → (free noes : List Part) (old new : List Found) → Base g n free noes old new → Possible (go_on_by k n free noes old new) g
go_by_in g n k H [] noes old new b = turn_by_in g n k H old [] noes new (record { calm = b.calm; known = b.known; refined = tt; fresh = b.fresh })
go_by_in g n k H (p ∷ free) noes old new b = b

none_insignificant : (g : Grid) (n : ℕ) → Insignificant g n []
none_insignificant g n i j h = omega arith

pub go_by_out : (g : Grid) (n : ℕ) (k : List Part → List Found → State) → ((w : List Part) (f : List Found) → Possible (k w f) g → Over g n w f) → (free noes : List Part) (old new : List Found) → Possible (go_on_by k n free noes old new) g → Base g n free noes old new
go_by_out g n k H [] noes old new c =
    let t = turn_by_out g n k H old [] noes new c in
    record { waits = none_insignificant g (suc n); calm = t.calm; known = t.known; fresh = t.fresh }
go_by_out g n k H (p ∷ free) noes old new c = c

pub enter_in : (g : Grid) (n : ℕ) (w : List Part) (f : List Found) → Over g n w f → Possible (enter_plane n w f) g
unfolding enter_plane
enter_in g zero w f o = o
enter_in g (suc n) w f o = go_by_in g n (enter_plane n) (enter_in g n) (arranged w) [] f [] (record { waits = λ i j h. o.calm i j (rw coverage_arrange at h); calm = none_insignificant g n; known = o.known; fresh = tt })

pub enter_out : (g : Grid) (n : ℕ) (w : List Part) (f : List Found) → Possible (enter_plane n w f) g → Over g n w f
unfolding enter_plane
enter_out g zero w f c = c
enter_out g (suc n) w f c =
    let b = go_by_out g n (enter_plane n) (enter_out g n) (arranged w) [] f [] c in
    record { calm = λ i j h. b.waits i j (rw coverage_arrange h); known = b.known }
