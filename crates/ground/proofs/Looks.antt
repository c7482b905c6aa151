-- A look at a block's peak tells its significance.
use Rattle.std.proofs.Common.{◌↔◌, IsTrue, ◌≡◌, ℕ, zero, suc, ◌+◌, ◌-◌, ◌*◌, ◌/◌, ◌%◌, ◌^◌, ◌<◌, ◌≤◌, max, Bool, true, false, ◌||◌, ltb, leb, ◌⊎◌, [], ◌∷◌, nat_abs, sym, refl, ap, ◌∙◌, subst, inl, inr, pow-suc, div-add-mod', mul-one, arith, pow_pos, pow-add}
use Rattle.std.proofs.lemmas.Nat.{div_below}
use Rattle.std.proofs.lemmas.Bool.{cases_lt, false≢true, le-leb, lt-leb, lt-ltb, le-ltb}
use Rattle.std.proofs.lemmas.Bool.Decides.{nat_tests}
use Rattle.speck.specs.declared.Part.TheVariants.{Block, Rest}
use Rattle.speck.specs.Grid.{Grid, any_significant, outside, significant, upper}
use Rattle.speck.specs.Laws.{InPlace}
use Rattle.speck.proofs.Consequences.{by_parts}
use Rattle.speck.proofs.Geometry.{significant_by, significant_one_cell}
use Rattle.speck.proofs.Upper.{none_upper, some_upper}
use Rattle.ground.specs.Peaks.{InTree, peak_of}
use Rattle.ground.specs.Tells.{BlockTells, RestTells}
use Rattle.ground.proofs.Parts.{block_exactly, rest_exactly}
use Rattle.ground.proofs.Ranges.{Within}

cell_look : (n x : ℕ) → ltb 0 (upper n x) ≡ leb (2 ^ n) x
cell_look n x = by (cases_lt x (2 ^ n))
  where
    by : (x < 2 ^ n) ⊎ (2 ^ n ≤ x) → ltb 0 (upper n x) ≡ leb (2 ^ n) x
    by (inl h) = le-ltb 0 (upper n x) (omega (arith, none_upper n x h)) ∙ sym (lt-leb (2 ^ n) x h)
    by (inr h) = lt-ltb 0 (upper n x) (some_upper n x h) ∙ sym (le-leb (2 ^ n) x h)

max_look : (w a b : ℕ) → leb w (max a b) ≡ (leb w a || leb w b)
max_look w a b = grind (arith, nat_tests)

or_or : (a b c d : Bool) → (a || (b || (c || d))) ≡ ((a || b) || (c || d))
or_or true b c d = refl
or_or false true c d = refl
or_or false false c d = refl

peak_look : (w a b c d : ℕ) → leb w (max (max a b) (max c d)) ≡ (leb w a || (leb w b || (leb w c || leb w d)))
peak_look w a b c d =
    max_look w (max a b) (max c d) ∙ (ap (λ x. x || leb w (max c d)) (max_look w a b) ∙ (ap (λ x. (leb w a || leb w b) || x) (max_look w c d) ∙ sym (or_or (leb w a) (leb w b) (leb w c) (leb w d))))

four : {a a' b b' c c' d d' : Bool} → a ≡ a' → b ≡ b' → c ≡ c' → d ≡ d' → (a || (b || (c || d))) ≡ (a' || (b' || (c' || d')))
four p q r s = cc

-- the first and the second half of a block's rows, in units of its quarters' side
first_half : (s i : ℕ) → (2 * i) * 2 ^ s ≡ i * 2 ^ suc s
first_half s i = rw (pow-suc 2 s) (omega arith)

second_half : (s i : ℕ) → (2 * i + 1) * 2 ^ s ≡ i * 2 ^ suc s + 2 ^ s
second_half s i = rw (pow-suc 2 s) (omega arith)

pub peak_tells : (g : Grid) (n s i j : ℕ) → significant g n (Block s (i * 2 ^ s) (j * 2 ^ s)) ≡ leb (2 ^ n) (peak_of g s i j)
unfolding peak_of
peak_tells g n zero i j = rw (mul-one i, mul-one j) (significant_one_cell g n i j ∙ cell_look n (nat_abs (g i j)))
peak_tells g n (suc s) i j =
    let a = peak_tells g n s (2 * i) (2 * j) in
    let b = peak_tells g n s (2 * i) (2 * j + 1) in
    let c = peak_tells g n s (2 * i + 1) (2 * j) in
    let d = peak_tells g n s (2 * i + 1) (2 * j + 1) in
    let i₀ = first_half s i in
    let i₁ = second_half s i in
    let j₀ = first_half s j in
    let j₁ = second_half s j in
    by_parts g n s (i * 2 ^ suc s) (j * 2 ^ suc s)
    ∙ (four (at i₀ j₀ ∙ a) (at i₀ j₁ ∙ b) (at i₁ j₀ ∙ c) (at i₁ j₁ ∙ d)
    ∙ sym (peak_look (2 ^ n) (peak_of g s (2 * i) (2 * j)) (peak_of g s (2 * i) (2 * j + 1)) (peak_of g s (2 * i + 1) (2 * j)) (peak_of g s (2 * i + 1) (2 * j + 1))))
  where
    at : {r r' c c' : ℕ} → r' ≡ r → c' ≡ c → significant g n (Block s r c) ≡ significant g n (Block s r' c')
    at {r} {r'} {c} {c'} p q = ap (λ k. significant g n (Block s k c)) (sym p) ∙ ap (λ k. significant g n (Block s r' k)) (sym q)

-- the blocks around the top left one
pub ring_tree : (m s i j : ℕ) → s < m → i ≤ 1 → j ≤ 1 → InTree m s i j
ring_tree m s i j h p q =
    let e : m - s ≡ suc (m - suc s) = omega arith in
    let w = ap (λ n. 2 ^ n) e ∙ pow-suc 2 (m - suc s) in
    record { side = omega arith; row = omega (arith, pow_pos (m - suc s)); column = omega (arith, pow_pos (m - suc s)) }

-- whether one of the three is significant
abbrev pub ring : Grid → ℕ → ℕ → Bool
ring g n s = any_significant g n (Block s 0 (2 ^ s) ∷ Block s (2 ^ s) 0 ∷ Block s (2 ^ s) (2 ^ s) ∷ [])

or_true : (a : Bool) {b : Bool} → b ≡ true → (a || b) ≡ true
or_true true e = refl
or_true false e = e

-- a rest is its ring and the rest beyond
or_none : (a b c d : Bool) → ((a || (b || (c || d))) || false) ≡ ((a || (b || (c || false))) || d)
or_none true b c d = refl
or_none false true c d = refl
or_none false false true d = refl
or_none false false false true = refl
or_none false false false false = refl

pub outside_more : (g : Grid) (n d s : ℕ) → any_significant g n (outside (suc d) s) ≡ (ring g n s || any_significant g n (outside d (suc s)))
outside_more g n d s =
    ap (λ b. b || false) (significant_by g n (Rest d s))
    ∙ or_none (significant g n (Block s 0 (2 ^ s))) (significant g n (Block s (2 ^ s) 0)) (significant g n (Block s (2 ^ s) (2 ^ s))) (any_significant g n (outside d (suc s)))

-- some part outside a square of side 2^x is significant, if a ring from there up to side 2^e is
pub rings_tell : (g : Grid) (n d x e : ℕ) → x + d ≡ e → Within x e (λ s. ring g n s ≡ true) ↔ IsTrue (any_significant g n (outside d x))
rings_tell g n zero x e h = (λ (s, a, b, r). absurd (omega arith), λ f. absurd (false≢true f))
rings_tell g n (suc d) x e h =
    let more = outside_more g n d x in
    let beyond = rings_tell g n d (suc x) e (omega arith) in
    (λ (s, a, b, r). more ∙ here beyond s a b r (cases_lt x s), λ y. apart beyond (ring g n x) refl (sym more ∙ y))
  where
    rest : Bool
    rest = any_significant g n (outside d (suc x))

    here : Within (suc x) e (λ s. ring g n s ≡ true) ↔ IsTrue rest → (s : ℕ) → x ≤ s → s < e → ring g n s ≡ true → (x < s) ⊎ (s ≤ x) → (ring g n x || rest) ≡ true
    here beyond s a b r (inl l) = or_true (ring g n x) (beyond.0 (s, omega arith, b, r))
    here beyond s a b r (inr l) = let i : s ≡ x = omega arith in ap (λ k. ring g n k || rest) (sym i) ∙ ap (λ k. k || rest) r

    apart : Within (suc x) e (λ s. ring g n s ≡ true) ↔ IsTrue rest → (r : Bool) → ring g n x ≡ r → (ring g n x || rest) ≡ true → Within x e (λ s. ring g n s ≡ true)
    apart beyond true i y = (x, omega arith, omega arith, i)
    apart beyond false i y = let w = beyond.1 (sym (ap (λ k. k || rest) i) ∙ y) in (w.0, omega (arith, w.1), w.2, w.3)

or_false : (b : Bool) → (b || false) ≡ b
or_false true = refl
or_false false = refl

pub rest_part_exactly : (m : ℕ) (g : Grid) (n d x : ℕ) → x + suc d ≡ m → n ≤ 14 → (IsTrue (significant g n (Rest d x)) ↔ RestTells m g (2 ^ x) n)
rest_part_exactly m g n d x e l = let q = rest_exactly m g n d x e in (λ y. record { exponent = x; power = refl; plane = l; reaches = q.0 y }, λ t. q.1 t.reaches)

pub rest_tells_exactly : (m : ℕ) (g : Grid) (n x w : ℕ) → x < m → w ≡ 2 ^ x → n ≤ 14 → (IsTrue (any_significant g n (outside (m - x) x)) ↔ RestTells m g w n)
rest_tells_exactly m g n x w h p l =
    let d = m - suc x in
    let e : m - x ≡ suc d = omega arith in
    let q = subst (λ v. IsTrue (significant g n (Rest d x)) ↔ RestTells m g v n) (sym p) (rest_part_exactly m g n d x (omega arith) l) in
    let s : any_significant g n (outside (m - x) x) ≡ significant g n (Rest d x) = ap (λ k. any_significant g n (outside k x)) e ∙ or_false (significant g n (Rest d x)) in
    (λ y. q.0 (sym s ∙ y), λ t. s ∙ q.1 t)

pub block_tells_exactly : (m : ℕ) (g : Grid) (n s r c : ℕ) → InPlace m (Block s r c) → n ≤ 14 → (IsTrue (significant g n (Block s r c)) ↔ BlockTells m g r c s n)
block_tells_exactly m g n s r c p l = let q = block_exactly m g n s r c p in (λ y. record { place = p; plane = l; reaches = q.0 y }, λ t. q.1 t.reaches)

-- a block in its place, in units of its side
pub place_tree : (m s r c : ℕ) → InPlace m (Block s r c) → s ≤ m → InTree m s (r / 2 ^ s) (c / 2 ^ s)
place_tree m s r c p h = record { side = h; row = unit_below m s r p.0 h; column = unit_below m s c p.1 h }
  where
    unit_below : (m s r : ℕ) → r + 2 ^ s ≤ 2 ^ m → s ≤ m → r / 2 ^ s < 2 ^ (m - s)
    unit_below m s r p h =
        let e : m ≡ (m - s) + s = omega arith in
        let w : 2 ^ m ≡ 2 ^ (m - s) * 2 ^ s = ap (λ k. 2 ^ k) e ∙ pow-add 2 (m - s) s in
        div_below r (2 ^ s) (2 ^ (m - s)) (pow_pos s) (omega (arith, pow_pos s))

pub unit_back : (r s : ℕ) → r % 2 ^ s ≡ 0 → r / 2 ^ s * 2 ^ s ≡ r
unit_back r s h = omega (arith, div-add-mod' r (2 ^ s))
