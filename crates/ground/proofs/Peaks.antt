-- Where peaks are kept, and what they tell.
use Rattle.std.proofs.Common.{◌≡◌, ℕ, zero, suc, ◌+◌, ◌-◌, ◌*◌, ◌/◌, ◌%◌, ◌^◌, ◌<◌, ◌≤◌, max, Bool, true, ◌&&◌, eqb, ◌⊎◌, List, [], ◌∷◌, length, get_or, set, nat_abs, sym, refl, ap, ◌∙◌, subst, inl, inr, pow-suc, add-one, arith}
use Rattle.std.proofs.lemmas.Nat.{div-mul-add, mod-mul-add, mul-add-lt}
use Rattle.std.proofs.lemmas.List.{get_or-set_other, get_or-set_same}
use Rattle.std.proofs.lemmas.Bool.Decides.{Decides-below_and, Decides-eqb}
use Rattle.std.proofs.lemmas.Bool.{cases_eq, cases_order}
use Rattle.head.proofs.Squares.{area}
use Rattle.speck.specs.Grid.{Grid, upper}
use Rattle.speck.proofs.Upper.{none_upper}
use Rattle.ground.specs.Peaks.{Filled, InTree, Right, above, peak_of, place_at}

-- the table counts the blocks, by one computed test
table : List ℕ
table = 0 ∷ 1 ∷ 5 ∷ 21 ∷ 85 ∷ 341 ∷ 1365 ∷ 5461 ∷ []

agrees : ℕ → Bool
agrees d = eqb (get_or table d 0) (above d)

agrees_below : ℕ → Bool
agrees_below zero = true
agrees_below (suc n) = agrees n && agrees_below n

pub above_table : (d : ℕ) → d ≤ 7 → get_or (0 ∷ 1 ∷ 5 ∷ 21 ∷ 85 ∷ 341 ∷ 1365 ∷ 5461 ∷ []) d 0 ≡ above d
unfolding agrees agrees_below above table
above_table d h = (Decides-below_and agrees (λ q. get_or table q 0 ≡ above q) agrees_below (λ q. Decides-eqb (get_or table q 0) (above q)) refl (λ _. refl) 8).0 refl d (omega arith)

above_more : (d : ℕ) → above (suc d) ≡ above d + 4 ^ d
unfolding above
above_more d = refl

above_mono : (d e : ℕ) → above d ≤ above (d + e)
above_mono d zero = let z : d + 0 ≡ d = omega arith in rw z (omega arith)
above_mono d (suc e) = let z : d + suc e ≡ suc (d + e) = omega arith in rw z (omega (arith, above_mono d e, above_more (d + e)))

pub above_le : (d e : ℕ) → d ≤ e → above d ≤ above e
above_le d e h = let z : d + (e - d) ≡ e = omega arith in subst (λ n. above d ≤ above n) z (above_mono d (e - d))

-- a depth's places
pub place_below : (d i j : ℕ) → i < 2 ^ d → j < 2 ^ d → above d + (i * 2 ^ d + j) < above (suc d)
place_below d i j h k = omega (arith, above_more d, area d, mul-add-lt i (2 ^ d) j (2 ^ d) h k)

pub place_within : (m s i j : ℕ) → InTree m s i j → place_at m s i j < above (suc m)
place_within m s i j t = omega (arith, place_below (m - s) i j t.row t.column, above_le (suc (m - s)) (suc m) (omega arith))

-- no two blocks have one place
same_depth : (d e i j k l : ℕ) → i < 2 ^ d → j < 2 ^ d → k < 2 ^ e → l < 2 ^ e → above d + (i * 2 ^ d + j) ≡ above e + (k * 2 ^ e + l) → d ≡ e
same_depth d e i j k l hi hj hk hl q = by (cases_order d e)
  where
    by : (d ≡ e) ⊎ ((d < e) ⊎ (e < d)) → d ≡ e
    by (inl p) = p
    by (inr (inl p)) = absurd (omega (arith, place_below d i j hi hj, above_le (suc d) e (omega arith)))
    by (inr (inr p)) = absurd (omega (arith, place_below e k l hk hl, above_le (suc e) d (omega arith)))

same_cell : (d i j k l : ℕ) → j < 2 ^ d → l < 2 ^ d → i * 2 ^ d + j ≡ k * 2 ^ d + l → (i ≡ k) × (j ≡ l)
same_cell d i j k l hj hl q = (
  sym (div-mul-add i (2 ^ d) j hj) ∙ (ap (λ n. n / 2 ^ d) q ∙ div-mul-add k (2 ^ d) l hl),
  sym (mod-mul-add i (2 ^ d) j hj) ∙ (ap (λ n. n % 2 ^ d) q ∙ mod-mul-add k (2 ^ d) l hl),
)

pub one_block : (m s i j t k l : ℕ) → InTree m s i j → InTree m t k l → place_at m s i j ≡ place_at m t k l → (s ≡ t) × (i ≡ k) × (j ≡ l)
one_block m s i j t k l a b e =
    let d : m - s ≡ m - t = same_depth (m - s) (m - t) i j k l a.row a.column b.row b.column e in
    let s≡t : s ≡ t = omega (arith, a.side, b.side) in
    let f : i * 2 ^ (m - t) + j ≡ k * 2 ^ (m - t) + l =
    let q = ap (λ n. above n + (i * 2 ^ n + j)) d in omega arith in
    let g = same_cell (m - t) i j k l (subst (λ n. j < 2 ^ n) d a.column) b.column f in
    (s≡t, g.0, g.1)

-- a peak written at its place
module _ (m : ℕ) (g : Grid) (s i j : ℕ) (here : InTree m s i j) (old : List ℕ) (v : ℕ) (room : length old ≡ above (suc m)) (is : v ≡ peak_of g s i j) where
  abbrev new : List ℕ
  new = set old (place_at m s i j) v

  pub own_right : Right m g new s i j
  own_right = get_or-set_same old (place_at m s i j) v 0 (omega (arith, place_within m s i j here)) ∙ is

  pub still_right : (t k l : ℕ) → InTree m t k l → Right m g old t k l → Right m g new t k l
  still_right t k l w r = by (cases_eq (place_at m t k l) (place_at m s i j))
    where
      by : (place_at m t k l ≡ place_at m s i j) ⊎ (place_at m t k l ≡ place_at m s i j → ⊥) → Right m g new t k l
      by (inl e) =
          let q = one_block m t k l s i j w here e in
          ap (λ p. get_or new p 0) e ∙ (own_right ∙ (ap (λ n. peak_of g n i j) (sym q.0) ∙ (ap (λ n. peak_of g t n j) (sym q.1) ∙ ap (peak_of g t k) (sym q.2))))
      by (inr e) = get_or-set_other old (place_at m s i j) (place_at m t k l) v 0 e ∙ r

-- a block within another lies in the tree
upper_below : (e k d : ℕ) → upper e k < 2 ^ d → k < 2 ^ (d + e)
upper_below zero k d h = let z : d + 0 ≡ d = omega arith in rw z h
upper_below (suc e) k d h =
    let z : d + suc e ≡ suc d + e = omega arith in
    rw z (upper_below e k (suc d) (omega (arith, pow-suc 2 d)))

inner_tree : (m s i j t e k l : ℕ) → InTree m s i j → t + e ≡ s → upper e k ≡ i → upper e l ≡ j → InTree m t k l
inner_tree m s i j t e k l w q p r =
    let z : (m - s) + e ≡ m - t = omega (arith, w.side) in
    record {
      side = omega (arith, w.side);
      row = subst (λ n. k < 2 ^ n) z (upper_below e k (m - s) (subst (λ x. x < 2 ^ (m - s)) (sym p) w.row));
      column = subst (λ n. l < 2 ^ n) z (upper_below e l (m - s) (subst (λ x. x < 2 ^ (m - s)) (sym r) w.column));
    }

pub peak_cell : (g : Grid) (s i j : ℕ) → s ≡ 0 → peak_of g s i j ≡ nat_abs (g i j)
unfolding peak_of
peak_cell g zero i j e = refl
peak_cell g (suc s) i j e = absurd (omega arith)

pub peak_more : (g : Grid) (s t i j a b c d : ℕ) → s ≡ t + 1 → a ≡ peak_of g t (2 * i) (2 * j) → b ≡ peak_of g t (2 * i) (2 * j + 1) → c ≡ peak_of g t (2 * i + 1) (2 * j) → d ≡ peak_of g t (2 * i + 1) (2 * j + 1) → max (max a b) (max c d) ≡ peak_of g s i j
unfolding peak_of
peak_more g s t i j a b c d e p q r u = rw (p, q, r, u) (ap (λ n. peak_of g n i j) (sym (e ∙ add-one t)))

pub filled_cell : (m : ℕ) (g : Grid) (s i j : ℕ) (old : List ℕ) (v : ℕ) → InTree m s i j → length old ≡ above (suc m) → s ≡ 0 → v ≡ nat_abs (g i j) → Filled m g s i j old (set old (place_at m s i j) v)
filled_cell m g s i j old v w room z is =
    let p : v ≡ peak_of g s i j = is ∙ sym (peak_cell g s i j z) in
    record {
      inner = λ t e k l q a b.
          let t≡s : t ≡ s = omega arith in
          let e≡0 : e ≡ 0 = omega arith in
          let a' : k ≡ i = subst (λ n. upper n k ≡ i) e≡0 a in
          let b' : l ≡ j = subst (λ n. upper n l ≡ j) e≡0 b in
          rw (t≡s, a', b') (own_right m g s i j w old v room p);
      kept = still_right m g s i j w old v room p;
    }

-- the four quarters of a block in turn, and then its own peak
module _ (m : ℕ) (g : Grid) (s t i j : ℕ) (old p₁ p₂ p₃ p₄ : List ℕ) (v : ℕ) (w : InTree m s i j) (room : length p₄ ≡ above (suc m)) (e : s ≡ t + 1) (is : v ≡ peak_of g s i j)
    (f₁ : Filled m g t (2 * i) (2 * j) old p₁) (f₂ : Filled m g t (2 * i) (2 * j + 1) p₁ p₂) (f₃ : Filled m g t (2 * i + 1) (2 * j) p₂ p₃) (f₄ : Filled m g t (2 * i + 1) (2 * j + 1) p₃ p₄) where
  abbrev last : List ℕ
  last = set p₄ (place_at m s i j) v

  from_4 : (u k l : ℕ) → InTree m u k l → Right m g p₄ u k l → Right m g last u k l
  from_4 = still_right m g s i j w p₄ v room is

  from_3 : (u k l : ℕ) → InTree m u k l → Right m g p₃ u k l → Right m g last u k l
  from_3 u k l x r = from_4 u k l x (f₄.kept u k l x r)

  from_2 : (u k l : ℕ) → InTree m u k l → Right m g p₂ u k l → Right m g last u k l
  from_2 u k l x r = from_3 u k l x (f₃.kept u k l x r)

  from_1 : (u k l : ℕ) → InTree m u k l → Right m g p₁ u k l → Right m g last u k l
  from_1 u k l x r = from_2 u k l x (f₂.kept u k l x r)

  halves : (n x : ℕ) → n / 2 ≡ x → (n ≡ 2 * x) ⊎ (n ≡ 2 * x + 1)
  halves n x h = grind arith

  in_quarters : (u d k l : ℕ) → u + d ≡ t → InTree m u k l → (upper d k ≡ 2 * i) ⊎ (upper d k ≡ 2 * i + 1) → (upper d l ≡ 2 * j) ⊎ (upper d l ≡ 2 * j + 1) → Right m g last u k l
  in_quarters u d k l q x (inl a) (inl b) = from_1 u k l x (f₁.inner u d k l q a b)
  in_quarters u d k l q x (inl a) (inr b) = from_2 u k l x (f₂.inner u d k l q a b)
  in_quarters u d k l q x (inr a) (inl b) = from_3 u k l x (f₃.inner u d k l q a b)
  in_quarters u d k l q x (inr a) (inr b) = from_4 u k l x (f₄.inner u d k l q a b)

  inners : (u d k l : ℕ) → u + d ≡ s → upper d k ≡ i → upper d l ≡ j → Right m g last u k l
  inners u zero k l q a b = let z : u ≡ s = omega arith in rw (z, a, b) (own_right m g s i j w p₄ v room is)
  inners u (suc d) k l q a b = in_quarters u d k l (omega arith) (inner_tree m s i j u (suc d) k l w q a b) (halves (upper d k) i a) (halves (upper d l) j b)

  pub filled_block : Filled m g s i j old last
  filled_block = record { inner = inners; kept = λ u k l x r. from_1 u k l x (f₁.kept u k l x r) }

-- the whole tree
pub all_right : (m : ℕ) (g : Grid) (old new : List ℕ) → Filled m g m 0 0 old new → (t k l : ℕ) → InTree m t k l → Right m g new t k l
all_right m g old new f t k l w = f.inner t (m - t) k l (omega (arith, w.side)) (none_upper (m - t) k w.row) (none_upper (m - t) l w.column)

pub above_small : (m : ℕ) → m ≤ 6 → above (suc m) ≤ 5461
above_small m h = let e = above_table 7 (omega arith) in omega (arith, above_le (suc m) 7 (omega arith))
