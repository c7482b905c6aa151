-- `any` over a range, said of the numbers in it.
use Rattle.std.proofs.Common.{◌≡◌, ℕ, ◌+◌, ◌-◌, ◌<◌, ◌≤◌, ◌↔◌, Bool, true, false, IsTrue, MatchBool, List, length, Option, sym, refl, ◌∙◌, subst, arith}
use Rattle.std.specs.Fn.{Called}
use Rattle.std.specs.Iterator.{YieldsThen}
use Rattle.std.specs.List.{FoldsTo, AllWithin, HoldsAt, range_with_len}
use Rattle.std.specs.Option.{MatchOption}
use Rattle.std.proofs.lemmas.Bool.{false≢true}
use Rattle.std.proofs.lemmas.Iterator.{YieldsList-from_range, cases_from_any}
use Rattle.std.proofs.lemmas.List.FromFn.{get_or-range_with_len, length-range_with_len}
use Rattle.std.proofs.iter.Yields.{nat_range_steps}
use Rattle.std.specs.declared.ops.Range.{Range}
use denote.Param.Members.{Mut}

-- some number from a up to b
abbrev pub Within : ℕ → ℕ → (ℕ → Type 0) → Type 0
Within a b P = (k : ℕ) × (a ≤ k) × (k < b) × P k

told : (a n b : ℕ) (r : Bool) (Yes : ℕ → Type 0) → b - a ≡ n
    → MatchBool r ((k : ℕ) × (k < length (range_with_len a n)) × HoldsAt Yes (range_with_len a n) k) (AllWithin (λ k. Yes k → ⊥) (range_with_len a n) 0 (length (range_with_len a n)))
    → IsTrue r ↔ Within a b Yes
told a n b true Yes e (k, h, y) =
    let l : k < n = omega (arith, length-range_with_len a n) in
    (λ _. (a + k, omega arith, omega arith, subst Yes (get_or-range_with_len a n k 0 l) (y 0)), λ _. refl)
told a n b false Yes e none = (
  λ f. absurd (false≢true f),
  λ (k, l, h, y).
      let i : k - a < n = omega arith in
      let j : a + (k - a) ≡ k = omega arith in
      absurd (none (k - a) 0 (omega arith) (omega (arith, length-range_with_len a n)) (subst Yes (sym (get_or-range_with_len a n (k - a) 0 i ∙ j)) y)),
)

module _ {F : Type 0} {g : Mut F (ℕ × Unit {0}) Bool} (s u : Range ℕ) (f : F) (r : Bool) (Yes : ℕ → Type 0) where
  pub any_from_Range : (xs : List ℕ) × (o : Option ℕ) × (j : F) × YieldsThen nat_range_steps s xs o u × FoldsTo (λ p x q. Called g p (x, tt) false q) f xs j × MatchOption o (r ≡ false) (λ x. (r ≡ true) × ((h : F) × Called g j (x, tt) true h))
      → ((x : ℕ) (q : F) → Called g f (x, tt) true q → Yes x) → ((x : ℕ) (q : F) → Called g f (x, tt) false q → (q ≡ f) × (Yes x → ⊥)) → IsTrue r ↔ Within s.start s.end Yes
  any_from_Range ran y n = told s.start (s.end - s.start) s.end r Yes refl (cases_from_any u f r Yes (λ k. Yes k → ⊥) ran (YieldsList-from_range s.start s.end _ refl refl) y n)
