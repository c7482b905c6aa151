use Rattle.std.proofs.Common.{◌≡◌, ◌≢◌, ℕ, ◌^◌, ◌<◌, ◌≤◌, MatchOption, Some, None, Option, rules, arith}
use Rattle.std.proofs.lemmas.Nat.{one_shl}
use Rattle.std.proofs.lemmas.Iterator.{first_from_Range}
use Rattle.ground.proofs.questions.inner_exponent.Goals as goal

-- what was found among the exponents below n, which fit a shift
found : (inner n m : ℕ) (r : Option ℕ) → n ≡ m → m ≤ 6
    → MatchOption r ((k : ℕ) → 0 ≤ k → k < n → k < 64 → inner ≢ 2 ^ k) (λ i. (0 ≤ i) × (i < n) × (i < 64 → inner ≡ 2 ^ i) × ((k : ℕ) → 0 ≤ k → k < i → k < 64 → inner ≢ 2 ^ k))
    → MatchOption r ((x : ℕ) → x < m → inner ≢ 2 ^ x) (λ x. (x < m) × (inner ≡ 2 ^ x))
found inner n m None e h f = λ x l. f x (omega arith) (omega arith) (omega arith)
found inner n m (Some i) e h f = (omega (arith, f.1), f.2 (omega (arith, f.1)))

pub returns : goal.returns
returns c =
    found c.args.inner _ _ _ c.exponent.ensures c.args.shape.small
    (first_from_Range _ _ _ c.find.result (λ x. x < 64 → c.args.inner ≡ 2 ^ x) (λ x. x < 64 → c.args.inner ≢ 2 ^ x) c.find.ensures.ran
    (λ x q k h. rw (← one_shl x 64 h) (search rules))
    (λ x q k. (search rules, λ h. rw (← one_shl x 64 h) (search rules))))
