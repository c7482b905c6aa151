-- The survey is what the questions of the machine are answered by.
use Rattle.std.proofs.Common.{◌≡◌, ℕ, zero, suc, Bool, true, false, cond, List, [], ◌∷◌, ◌++◌, map, sym, refl, ap, ◌∙◌, subst, append_assoc, append-nil}
use Rattle.std.proofs.lemmas.Bool.{false≢true}
use Rattle.std.specs.List.{AllByRecursion}
use Rattle.speck.specs.declared.Part.{Part}
use Rattle.speck.specs.declared.Part.TheVariants.{Block, Rest}
use Rattle.speck.specs.Grid.{Grid, outside, View, cell, parts, view, significant, any_significant}
use Rattle.speck.specs.Survey.{Found, arranged, insert, refined, bit_of, Outcome, and_then, said_no, found_cell, opened, ask_part, ask_all, planes, survey}
use Rattle.speck.specs.Machine.{State, owing, asking, finished, ask, answer, enter_plane, go_on, refine_on, unfolded, step, Next, going, start, significant?}
use Rattle.speck.proofs.Trace.{Trace, trace_append}
use Rattle.speck.proofs.Geometry.{part_ind, LoudBy, significant_by}

-- what is got of a part, by its view
abbrev pub AskBy : Grid → ℕ → Part → View → Type 0
AskBy g n p (cell r c) = ask_part g n p ≡ cond (significant g n p) (found_cell g r c) (said_no p)
AskBy g n p (parts k ks) = ask_part g n p ≡ cond (significant g n p) (opened (ask_all g n (k ∷ ks))) (said_no p)

pub ask_by : (g : Grid) (n : ℕ) (p : Part) → AskBy g n p (view p)
unfolding ask_part
ask_by g n (Block zero r c) = refl
ask_by g n (Block (suc s) r c) = refl
ask_by g n (Rest zero x) = refl
ask_by g n (Rest (suc d) x) = refl

-- a no takes one bit
ask_no : (g : Grid) (n : ℕ) (p : Part) → significant g n p ≡ false → ask_part g n p ≡ said_no p
ask_no g n p e = by (view p) (ask_by g n p)
  where
    by : (v : View) → AskBy g n p v → ask_part g n p ≡ said_no p
    by (cell r c) h = rw e at h
    by (parts k ks) h = rw e at h

module _ (g : Grid) (n : ℕ) where
  -- from t, g answers `a`, and the receiver is at what `a` leaves
  abbrev Leads : Next → Outcome → List Part → List Part → List Found → List Found → Type 0
  Leads t a free no₀ old new = Trace g a.bits t (going (go_on n free (no₀ ++ a.waits) old (new ++ a.finds)))

  Walk : Part → Type 0
  Walk p = significant g n p ≡ true → (s : State) (free no₀ : List Part) (old new : List Found) → ask s ≡ significant? n p → step s true ≡ going (unfolded n (view p) free no₀ old new) → Leads (going s) (ask_part g n p) free no₀ old new

  -- two stretches, one after the other
  both : (t : Next) (a b : Outcome) (mid free no₀ : List Part) (old new : List Found) → Leads t a mid no₀ old new → Leads (going (go_on n mid (no₀ ++ a.waits) old (new ++ a.finds))) b free (no₀ ++ a.waits) old (new ++ a.finds) → Leads t (and_then a b) free no₀ old new
  both t a b mid free no₀ old new h k = trace_append g a.bits b.bits t _ _ h (rw (append_assoc no₀, append_assoc new) at k)

  may_walk : (p : Part) → Walk p → (free no₀ : List Part) (old new : List Found) → Leads (going (asking n p free no₀ old new)) (ask_part g n p) free no₀ old new
  unfolding Walk
  may_walk p w free no₀ old new = by (significant g n p) refl
    where
      by : (b : Bool) → significant g n p ≡ b → Leads (going (asking n p free no₀ old new)) (ask_part g n p) free no₀ old new
      by true e = w e _ free no₀ old new refl refl
      by false e = rw (ask_no g n p e) (e, rw (append-nil new))

  all_walk : (ps : List Part) → AllByRecursion Walk ps → (free no₀ : List Part) (old new : List Found) → Leads (going (go_on n (ps ++ free) no₀ old new)) (ask_all g n ps) free no₀ old new
  all_walk [] w free no₀ old new = rw (append-nil no₀, append-nil new)
  all_walk (p ∷ ps) w free no₀ old new = both _ (ask_part g n p) (ask_all g n ps) (ps ++ free) free no₀ old new (may_walk p w.0 (ps ++ free) no₀ old new) (all_walk ps w.1 free _ old _)

  must_yes : (p : Part) (ps : List Part) → AllByRecursion Walk (p ∷ ps) → significant g n p ≡ true → (free no₀ : List Part) (old new : List Found) → Leads (going (owing n p ps free no₀ old new)) (ask_all g n (p ∷ ps)) free no₀ old new
  unfolding Walk
  must_yes p ps w e free no₀ old new = both _ (ask_part g n p) (ask_all g n ps) (ps ++ free) free no₀ old new (w.0 e _ (ps ++ free) no₀ old new refl refl) (all_walk ps w.1 free _ old _)

  must_walk : (ps : List Part) (p : Part) → AllByRecursion Walk (p ∷ ps) → any_significant g n (p ∷ ps) ≡ true → (free no₀ : List Part) (old new : List Found) → Leads (going (owing n p ps free no₀ old new)) (ask_all g n (p ∷ ps)) free no₀ old new
  must_walk [] p w a free no₀ old new = by (significant g n p) refl
    where
      by : (b : Bool) → significant g n p ≡ b → Leads (going (owing n p [] free no₀ old new)) (ask_all g n (p ∷ [])) free no₀ old new
      by true e = must_yes p [] w e free no₀ old new
      by false e = absurd (false≢true (rw e at a))
  must_walk (p₁ ∷ ps) p w a free no₀ old new = by (significant g n p) refl (must_walk ps p₁ w.1)
    where
      by : (b : Bool) → significant g n p ≡ b → (any_significant g n (p₁ ∷ ps) ≡ true → (free no₀ : List Part) (old new : List Found) → Leads (going (owing n p₁ ps free no₀ old new)) (ask_all g n (p₁ ∷ ps)) free no₀ old new) → Leads (going (owing n p (p₁ ∷ ps) free no₀ old new)) (ask_all g n (p ∷ p₁ ∷ ps)) free no₀ old new
      by true e ih = must_yes p (p₁ ∷ ps) w e free no₀ old new
      by false e ih = rw (ask_no g n p e) (e, rw (append_assoc no₀) at (ih (rw e at a) free (no₀ ++ p ∷ []) old new))

  walk_one : (r c : ℕ) → Walk (Block 0 r c)
  unfolding Walk
  walk_one r c l s free no₀ old new q h = rw (ask_by g n (Block 0 r c), l) (ap (answer g) q ∙ l, rw h (refl, rw (append-nil no₀)))

  walk_more : (p k : Part) (ks : List Part) → view p ≡ parts k ks → AllByRecursion Walk (k ∷ ks) → Walk p
  unfolding Walk
  walk_more p k ks e w l s free no₀ old new q h =
      let a : ask_part g n p ≡ cond (significant g n p) (opened (ask_all g n (k ∷ ks))) (said_no p) = subst (AskBy g n p) e (ask_by g n p) in
      let b : significant g n p ≡ any_significant g n (k ∷ ks) = subst (LoudBy g n p) e (significant_by g n p) in
      rw (a, l) (ap (answer g) q ∙ l, rw (h, e) (must_walk ks k w (sym b ∙ l) free no₀ old new))

  walk : (p : Part) → Walk p
  walk = part_ind Walk walk_one walk_more

  walks : (ps : List Part) → AllByRecursion Walk ps
  walks [] = tt
  walks (p ∷ ps) = (walk p, walks ps)

  -- the bits of the cells found before
  turn_walk : (todo done : List Found) (no₀ : List Part) (new : List Found) → Trace g (map (bit_of g n) todo) (going (refine_on n todo done no₀ new)) (going (enter_plane n no₀ (done ++ (map (λ e. refined e (bit_of g n e)) todo ++ new))))
  turn_walk [] done no₀ new = refl
  turn_walk (e ∷ todo) done no₀ new = (refl, rw (append_assoc done) at (turn_walk todo (done ++ refined e (bit_of g n e) ∷ []) no₀ new))

-- g answers the bits from t to the end
pub record Whole (g : Grid) (bs : List Bool) (t : Next) : Type 0 where
  pub waits : List Part
  pub finds : List Found
  pub trace : Trace g bs t (going (finished waits finds))

whole_append : (g : Grid) (xs ys : List Bool) (t u : Next) → Trace g xs t u → Whole g ys u → Whole g (xs ++ ys) t
whole_append g xs ys t u h w = record { waits = w.waits; finds = w.finds; trace = trace_append g xs ys t u _ h w.trace }

pub planes_walk : (g : Grid) (n : ℕ) (w : List Part) (f : List Found) → Whole g (planes g n w f) (going (enter_plane n w f))
unfolding enter_plane
planes_walk g zero w f = record { waits = w; finds = f; trace = refl }
planes_walk g (suc n) w f =
    let a : Outcome = ask_all g n (arranged w) in
    let f' = map (λ e. refined e (bit_of g n e)) f ++ a.finds in
    let r = planes g n a.waits f' in
    let e₁ = all_walk g n (arranged w) (walks g n (arranged w)) [] [] f [] in
    let e₂ = turn_walk g n f [] a.waits a.finds in
    whole_append g a.bits _ _ _ (rw (append-nil (arranged w)) at e₁) (whole_append g (map (bit_of g n) f) r _ _ e₂ (planes_walk g n a.waits f'))

keeps : (k x : ℕ) → arranged (Block x 0 0 ∷ outside k x) ≡ Block x 0 0 ∷ outside k x
unfolding arranged insert
keeps zero x = refl
keeps (suc k) x = refl

-- the survey of a grid with a cell that its top plane has leads to the end
pub survey_walk : (x k n : ℕ) (g : Grid) → any_significant g n (Block x 0 0 ∷ outside k x) ≡ true → Whole g (survey x k (suc n) g) (going (start x k (suc n)))
survey_walk x k n g l =
    let w : List Part = Block x 0 0 ∷ outside k x in
    let a : Outcome = ask_all g n w in
    let e = must_walk g n (outside k x) (Block x 0 0) (walks g n w) l [] [] [] [] in
    rw (keeps k x) (whole_append g a.bits _ _ _ e (planes_walk g n a.waits a.finds))
