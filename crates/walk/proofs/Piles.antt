-- What a chain of parts leaves on a pile.
use Rattle.std.proofs.Common.{◌≡◌, ℕ, ◌≤◌, Bool, true, false, cond, List, [], ◌∷◌, ◌++◌, filter, length, reverse, Some, None, Option, Iter, sym, refl, ap, ◌∙◌, append_assoc, arith}
use Rattle.std.specs.Option.{option_to_list, is_some}
use mir.Val.{bool_byte}
use Rattle.std.specs.Iterator.{Yields, Drains}
use Rattle.std.proofs.lemmas.Iterator.{YieldsList}
use denote.Param.Members.{Mut}
use denote.Ref.{Bor}
use Rattle.std.specs.declared.iter.Copied.{Copied}
use Rattle.std.specs.declared.iter.Filter.{Filter}
use Rattle.std.specs.declared.iter.Rev.{Rev}
use Rattle.std.specs.Fn.{CalledAt}
use Rattle.std.specs.Iterator.Adapters.{copied_source, filter_source, filter_callee, filter_steps, rev_source, rev_steps}
use Rattle.std.specs.Slice.Iter.{iter_rest, iter_steps_back}
use Rattle.std.proofs.iter.Yields.{copies}
use Rattle.std.proofs.lemmas.Iterator.Adapters.{YieldsList-from_rev_slice, at_most_from_yields_List}
use Rattle.std.proofs.lemmas.Iterator.Consumers.{YieldsList-at, YieldsList-end, YieldsList-from_copied, YieldsList-from_filter}
use Rattle.std.proofs.lemmas.List.{reverse-append, length-reverse, map-id}
use Rattle.std.proofs.lemmas.List.Elements.{filter-append}
use Rattle.speck.specs.declared.Part.{Part}
use Rattle.walk.specs.Piles.{Stack, HasRoom, laid}

pub reverse-filter : {X : Type 0} (p : X → Bool) (xs : List X) → reverse (filter p (reverse xs)) ≡ filter p xs
reverse-filter p [] = refl
reverse-filter p (x ∷ xs) =
    ap (λ l. reverse (filter p l)) (reverse-append (x ∷ []) xs) ∙ ap reverse (filter-append p (reverse xs) (x ∷ [])) ∙ reverse-append (filter p (reverse xs)) (filter p (x ∷ [])) ∙ ap (λ l. reverse (filter p (x ∷ [])) ++ l) (reverse-filter p xs) ∙ elim (p x) as (λ b. reverse (cond b (x ∷ []) []) ++ filter p xs ≡ cond b (x ∷ filter p xs) (filter p xs)) [ true ↦ refl | false ↦ refl ]

-- A chain that gives the parts ks, the last one first: where the pile has room for them, it has room for what the chain has given so far,
pub chain_room : {S : Type 0} {steps : S → Option Part → S → Type 0} {s : S} {all : List Part} (old : Stack) (ks : List Part) → YieldsList steps (λ x. x) s all → reverse all ≡ ks → HasRoom (length ks) old → (xs : List Part) (t : S) → Yields steps s xs t → HasRoom (length xs) old
chain_room {all} old ks e r h xs t y =
    let n : length all ≡ length ks = sym (length-reverse all) ∙ ap length r in
    let k : length xs ≤ length all = (at_most_from_yields_List {n = length all} e (omega arith)).runs xs t y in
    omega arith

-- and in the end they are on it.
pub chain_laid : {S : Type 0} {steps : S → Option Part → S → Type 0} {s : S} {all : List Part} (old new : Stack) (ks : List Part) → YieldsList steps (λ x. x) s all → reverse all ≡ ks → (xs : List Part) × Drains steps s xs × (new ≡ laid (reverse xs) old) → new ≡ laid ks old
chain_laid old new ks e r (xs, (u, (t, y, z)), h) = h ∙ ap (λ l. laid (reverse l) old) (sym (map-id xs) ∙ (YieldsList-end e xs t y None u refl z).0) ∙ ap (λ l. laid l old) r

pub laid_twice : (xs ys : List Part) (s : Stack) → laid xs (laid ys s) ≡ laid (xs ++ ys) s
laid_twice xs ys s = ap (λ t. record { parts = t; room = s.room }) (sym (append_assoc xs ys s.parts))

-- a part or none
pub reverse-option : (o : Option Part) (ks : List Part) → option_to_list o ≡ ks → reverse (option_to_list o) ≡ ks
reverse-option None ks e = e
reverse-option (Some p) ks e = e

pub length-option : (o : Option Part) (ks : List Part) (n : ℕ) → option_to_list o ≡ ks → n ≡ bool_byte (is_some o) → n ≡ length ks
length-option None ks n e h = h ∙ ap length e
length-option (Some p) ks n e h = h ∙ ap length e

-- what passes a test, the last one first
pub sifted : {F : Type 0} (g : Mut F (Bor (Bor Part) × Unit {0}) Bool) (p : Part → Bool) (l : List Part) {f : F} {s : Copied (Filter (Rev (Iter Part)) F)} {t : Filter (Rev (Iter Part)) F} {u : Rev (Iter Part)} → copied_source s ≡ t → filter_source t ≡ u → iter_rest (rev_source u) ≡ l → filter_callee t ≡ f → ((x : Bor Part) (b : Bool) (q : F) → CalledAt g f x b q → (q ≡ f) × (b ≡ p x.now)) → YieldsList (copies (filter_steps (rev_steps iter_steps_back) g)) (λ x. x) s (filter p (reverse l))
sifted g p l a b c d h = YieldsList-from_copied (YieldsList-at a (YieldsList-from_filter g p (YieldsList-at b (YieldsList-from_rev_slice l c)) d h))
