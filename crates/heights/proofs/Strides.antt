use Rattle.std.proofs.Common.{◌≡◌, ℕ, zero, suc, ◌+◌, ◌-◌, ◌*◌, ◌/◌, ◌%◌, ◌^◌, ◌<◌, ◌≤◌, ◌≢◌, List, [], length, get_or, take, drop, set, ℤ, pos, sym, refl, ap, ◌∙◌, inl, inr, mul-lt-mul_of_pos_right, mul-one, arith, w32, SFits, to_z, of_z, below_more, ◌⊎◌, rules}
use mathlib.Core.Path.{fun_ext}
use Rattle.std.proofs.lemmas.Int.{to_z-of_z}
use Rattle.std.proofs.lemmas.Bool.{le-ltb, cases_lt, cases_eq, cond-false}
use Rattle.std.proofs.lemmas.Bool.Decides.{nat_tests}
use Rattle.std.proofs.lemmas.Grind.{elements}
use Rattle.std.proofs.lemmas.Nat.{mul-add-lt, div-mul-add, mod-mul-add}
use Rattle.std.proofs.lemmas.List.{get_or-take, get_or-drop, take_rest, places}
use borrow.Rule.Slice.PartMut.{put_mid}
use Rattle.std.specs.Simd.{first_chunks}
use Rattle.transform.specs.Transform.{Grid, On, grid_of, low_of, difference_of, halved, in_rows, in_columns, level}
use Rattle.transform.specs.Planes.{BelowPlanes}
use Rattle.transform.proofs.Planes.{rows_small}
use Rattle.transform.proofs.Halving.{halved_low, halved_difference, halved_rest, halved_local}
use Rattle.heights.specs.Lines.{Apart, Small, Within, lines_of, strided}

-- two places of a line
ne : (stride i j : ℕ) → 0 < stride → i < j → i * stride ≢ j * stride
ne stride i j some p e = let d : i * stride < j * stride = mul-lt-mul_of_pos_right p some in omega arith

-- one of a pair of a list cut into pairs
pair_in : (xs : List ℤ) (k t j n : ℕ) → t < k → j < 2 → n ≡ 2 * t + j → get_or (get_or (first_chunks 2 k xs) t []) j (pos 0) ≡ get_or xs n (pos 0)
pair_in xs zero t j n p q e = absurd (omega arith)
pair_in xs (suc k) zero j n p q e = grind (arith, get_or-take)
pair_in xs (suc k) (suc t) j n p q e = grind (arith, get_or-drop, pair_in (drop 2 xs) k t j (2 * t + j))

-- and both of a pair of a line's copy
pub pair_of : (xs line : List ℤ) (stride t : ℕ) (ps : List (List ℤ)) → ps ≡ first_chunks 2 (length line / 2) line → t < length line / 2 → ((k : ℕ) → k < length line → get_or line k (pos 0) ≡ strided xs stride k) →
    (get_or (get_or ps t []) 0 (pos 0) ≡ strided xs stride (2 * t)) × (get_or (get_or ps t []) 1 (pos 0) ≡ strided xs stride (2 * t + 1))
pair_of xs line stride t ps e l copy =
    rw e (pair_in line (length line / 2) t 0 (2 * t) l (omega arith) (omega arith) ∙ copy (2 * t) (omega arith), pair_in line (length line / 2) t 1 (2 * t + 1) l (omega arith) refl ∙ copy (2 * t + 1) (omega arith))

-- The first n of h pairs of a line of `before`, halved: lows from the front of the line, differences from its middle.
pub record Paired (before : List ℤ) (stride h n : ℕ) (xs : List ℤ) : Type 0 where
  pub low : (k : ℕ) → k < n → strided xs stride k ≡ low_of (strided before stride (2 * k)) (strided before stride (2 * k + 1))
  pub difference : (k : ℕ) → k < n → strided xs stride (h + k) ≡ difference_of (strided before stride (2 * k)) (strided before stride (2 * k + 1))
  pub rest : (p : ℕ) → ((k : ℕ) → k < 2 * h → p ≢ k * stride) → get_or xs p (pos 0) ≡ get_or before p (pos 0)

pub paired_more : (before : List ℤ) (stride h n : ℕ) (xs : List ℤ) (x y : ℤ) → Paired before stride h n xs → 0 < stride → n < h → ((k : ℕ) → k < 2 * h → k * stride < length xs) → SFits w32 x → SFits w32 y →
    x ≡ low_of (strided before stride (2 * n)) (strided before stride (2 * n + 1)) → y ≡ difference_of (strided before stride (2 * n)) (strided before stride (2 * n + 1)) →
    Paired before stride h (n + 1) (set (set xs (n * stride) (to_z w32 (of_z w32 x))) ((h + n) * stride) (to_z w32 (of_z w32 y)))
paired_more before stride h n xs x y inv some l inside fx fy ex ey =
    let r = inside n (omega arith) in
    let t = inside (h + n) (omega arith) in
    let u = ne stride n (h + n) some (omega arith) in
    record {
      low = below_more _ _ (λ k p. let a = ne stride k n some p in let b = ne stride k (h + n) some (omega arith) in grind (arith, elements, inv.low k p)) (grind (arith, elements, to_z-of_z));
      difference = below_more _ _ (λ k p. let a = ne stride n (h + k) some (omega arith) in let b = ne stride (h + k) (h + n) some (omega arith) in grind (arith, elements, inv.difference k p)) (grind (arith, elements, to_z-of_z));
      rest = λ p out. let a = out n (omega arith) in let b = out (h + n) (omega arith) in grind (arith, elements, inv.rest p out);
    }

pub paired_all : (before : List ℤ) (stride h n w : ℕ) (xs : List ℤ) → Paired before stride n n xs → n ≡ h → 0 < stride → h ≡ w / 2 → (t : ℕ) → t < w → strided xs stride t ≡ halved h (strided before stride) t
paired_all before stride h n w xs all e some half t l = let inv = rw e at all in elim (cases_lt t h) [
  | inl p ↦ inv.low t p ∙ sym (halved_low h (strided before stride) t p)
  | inr p ↦ elim (cases_lt t (2 * h)) [
    | inl q ↦
        let e : h + (t - h) ≡ t = omega arith in
        let k : t - h < h = omega arith in
        ap (strided xs stride) (sym e) ∙ inv.difference (t - h) k ∙ sym (halved_difference h (strided before stride) (t - h) k) ∙ ap (halved h (strided before stride)) e
    | inr q ↦ inv.rest (t * stride) (λ k r same. ne stride k t some (omega arith) (sym same)) ∙ sym (halved_rest h (strided before stride) t q)
  ]
]

-- what stands in a list when its tail from a on has become zs, and in that tail before
kept : (xs zs : List ℤ) (a p : ℕ) → a ≤ length xs → p < a → get_or (put_mid a (length xs - a) xs zs) p (pos 0) ≡ get_or xs p (pos 0)
kept xs zs a p in_xs l = search (rules, places)

put : (xs zs : List ℤ) (a q : ℕ) → a ≤ length xs → q < length zs → get_or (put_mid a (length xs - a) xs zs) (a + q) (pos 0) ≡ get_or zs q (pos 0)
put xs zs a q in_xs l = search (rules, places)

was : (xs : List ℤ) (a q : ℕ) → get_or (take (length xs - a) (drop a xs)) q (pos 0) ≡ get_or xs (a + q) (pos 0)
was xs a q = rw take_rest (get_or-drop a xs q (pos 0))

-- Lines of a square, the first n of them halved as far as w.
pub lines_more : (xs zs : List ℤ) (g : Grid) (s across along w n : ℕ) → n < w → w ≤ s → s * s ≤ length xs → Apart s across along → Within s across along (s * s) → length zs ≡ length xs - n * across →
    On s (λ i j. lines_of xs across along i j ≡ in_rows n (halved (w / 2)) g i j) →
    ((t : ℕ) → t < w → strided zs along t ≡ halved (w / 2) (strided (take (length xs - n * across) (drop (n * across) xs)) along) t) →
    ((p : ℕ) → ((t : ℕ) → t < w → p ≢ t * along) → get_or zs p (pos 0) ≡ get_or (take (length xs - n * across) (drop (n * across) xs)) p (pos 0)) →
    On s (λ i j. lines_of (put_mid (n * across) (length xs - n * across) xs zs) across along i j ≡ in_rows (n + 1) (halved (w / 2)) g i j)
lines_more xs zs g s across along w n l le room apart within long inv line rest i j p q =
    let a : ℕ = n * across in
    let f : ℕ → ℤ = strided (take (length xs - a) (drop a xs)) along in
    let b = within n j (omega arith) q in
    elim (cases_eq i n) [
      | inl e ↦
          let now : (u : ℕ) → u < s → f u ≡ g n u = λ u k. was xs a (u * along) ∙ inv n u (omega arith) k ∙ cond-false _ _ _ (le-ltb n n (omega arith)) in
          let here : get_or zs (j * along) (pos 0) ≡ halved (w / 2) (g n) j = elim (cases_lt j w) [
            | inl k ↦ line j k ∙ halved_local (w / 2) s f (g n) (omega arith) now j q
            | inr k ↦ rest (j * along) (λ t v r. absurd (let b = (apart n j n t (omega arith) q (omega arith) (omega arith) (ap (λ x. a + x) r)).1 in omega arith)) ∙ now j q ∙ sym (halved_rest (w / 2) (g n) j (omega arith))
          ] in
          let made = put xs zs a (j * along) (omega arith) (omega arith) ∙ here in
          grind (arith, nat_tests)
      | inr e ↦ other e (cases_lt (i * across + j * along) a) ∙ inv i j p q ∙ same_side e
    ]
  where
    other : i ≢ n → (i * across + j * along < n * across) ⊎ (n * across ≤ i * across + j * along) → lines_of (put_mid (n * across) (length xs - n * across) xs zs) across along i j ≡ lines_of xs across along i j
    other e (inl k) = let b = within n j (omega arith) q in kept xs zs (n * across) (i * across + j * along) (omega arith) k
    other e (inr k) =
        let a : ℕ = n * across in
        let r : ℕ = i * across + j * along - a in
        let at : a + r ≡ i * across + j * along = omega arith in
        let b = within i j p q in
        let b2 = within n j (omega arith) q in
        ap (λ x. get_or (put_mid a (length xs - a) xs zs) x (pos 0)) (sym at) ∙ put xs zs a r (omega arith) (omega arith) ∙ rest r (λ t v y. absurd (e (apart i j n t p q (omega arith) (omega arith) (omega arith)).0)) ∙ was xs a r ∙ ap (λ x. get_or xs x (pos 0)) at

    same_side : i ≢ n → in_rows n (halved (w / 2)) g i j ≡ in_rows (n + 1) (halved (w / 2)) g i j
    same_side e = grind (arith, nat_tests)

-- rows and columns of s rows of s numbers
pub rows_apart : (s : ℕ) → Apart s s 1
rows_apart s i j i' j' p q p' q' e =
    let f : i * s + j ≡ i' * s + j' = omega arith in
    (sym (div-mul-add i s j q) ∙ ap (λ x. x / s) f ∙ div-mul-add i' s j' q', sym (mod-mul-add i s j q) ∙ ap (λ x. x % s) f ∙ mod-mul-add i' s j' q')

pub columns_apart : (s : ℕ) → Apart s 1 s
columns_apart s i j i' j' p q p' q' e = let r = rows_apart s j i j' i' q p q' p' (omega arith) in (r.1, r.0)

pub rows_within : (s : ℕ) → Within s s 1 (s * s)
rows_within s i j p q = omega (arith, mul-add-lt i s j s p q)

pub columns_within : (s : ℕ) → Within s 1 s (s * s)
columns_within s i j p q = omega (arith, mul-add-lt j s i s q p)

rows_are : (m : ℕ) (xs : List ℤ) → lines_of xs (2 ^ m) 1 ≡ grid_of m xs
rows_are m xs = fun_ext (λ i. fun_ext (λ j. ap (λ x. get_or xs (i * 2 ^ m + x) (pos 0)) (mul-one j)))

columns_are : (m : ℕ) (xs : List ℤ) (i j : ℕ) → lines_of xs 1 (2 ^ m) j i ≡ grid_of m xs i j
columns_are m xs i j = let e : j * 1 + i * 2 ^ m ≡ i * 2 ^ m + j = omega arith in ap (λ x. get_or xs x (pos 0)) e

-- the grid whose rows are changed, column by column
rows_made : (m w h : ℕ) (xs ys : List ℤ) → On (2 ^ m) (λ i j. lines_of ys (2 ^ m) 1 i j ≡ in_rows w (halved h) (lines_of xs (2 ^ m) 1) i j) → (i j : ℕ) → i < 2 ^ m → j < 2 ^ m → lines_of ys 1 (2 ^ m) j i ≡ in_rows w (halved h) (grid_of m xs) i j
rows_made m w h xs ys rows i j p q = columns_are m ys i j ∙ sym (ap (λ u. u i j) (rows_are m ys)) ∙ rows i j p q ∙ ap (λ u. in_rows w (halved h) u i j) (rows_are m xs)

-- What the rows of xs are halved to is small enough to be halved once more.
pub columns_fit : (m w : ℕ) (xs ys : List ℤ) → w % 2 ≡ 0 → w ≤ 2 ^ m → BelowPlanes m (grid_of m xs) 15 →
    On (2 ^ m) (λ i j. lines_of ys (2 ^ m) 1 i j ≡ in_rows w (halved (w / 2)) (lines_of xs (2 ^ m) 1) i j) → On (2 ^ m) (λ i j. Small (lines_of ys 1 (2 ^ m) i j))
columns_fit m w xs ys even le small rows i j p q =
    let s = rows_small w (w / 2) (2 ^ m) 32767 (grid_of m xs) (omega arith) (λ i j p q. omega (arith, small i j p q)) j i q p in
    rw (rows_made m w (w / 2) xs ys rows j i q p) (omega arith)

-- One level: the rows of xs halved are ys, and the columns of ys halved are zs.
pub level_made : (m w : ℕ) (xs ys zs : List ℤ) → w % 2 ≡ 0 → w ≤ 2 ^ m →
    On (2 ^ m) (λ i j. lines_of ys (2 ^ m) 1 i j ≡ in_rows w (halved (w / 2)) (lines_of xs (2 ^ m) 1) i j) →
    On (2 ^ m) (λ i j. lines_of zs 1 (2 ^ m) i j ≡ in_rows w (halved (w / 2)) (lines_of ys 1 (2 ^ m)) i j) →
    On (2 ^ m) (λ i j. grid_of m zs i j ≡ level (w / 2) (grid_of m xs) i j)
level_made m w xs ys zs even le rows columns i j p q =
    let e : w ≡ 2 * (w / 2) = omega arith in
    let between : (r : ℕ) → r < 2 ^ m → lines_of ys 1 (2 ^ m) j r ≡ in_rows w (halved (w / 2)) (grid_of m xs) r j = λ r k. rows_made m w (w / 2) xs ys rows r j k q in
    let here = halved_local (w / 2) (2 ^ m) _ _ (omega arith) between i p in
    let stays = between i p in
    let c = columns j i q p in
    let z = columns_are m zs i j in
    let made : grid_of m zs i j ≡ in_columns w (halved (w / 2)) (in_rows w (halved (w / 2)) (grid_of m xs)) i j = grind (arith, nat_tests) in
    made ∙ ap (λ u. in_columns u (halved (w / 2)) (in_rows u (halved (w / 2)) (grid_of m xs)) i j) e
