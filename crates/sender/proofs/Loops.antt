-- The sender's loop: what is written so far begins the survey.
use Rattle.std.proofs.Common.{◌≡◌, ℕ, ◌+◌, ◌-◌, ◌≤◌, Bool, true, false, cond, leb, List, [], ◌∷◌, ◌++◌, length, take, is_ok, Some, None, Ok, Err, Result, sym, refl, ap, ◌∙◌, subst, arith}
use Rattle.std.proofs.lemmas.List.{length-take, take_all, take-append-le}
use Rattle.std.proofs.lemmas.Bool.{leb-true}
use Rattle.bits.specs.Bits.{Written, bytes_for, overwritten}
use Rattle.bits.proofs.Writes.{written_list}
use Rattle.head.specs.declared.Head.{Head}
use Rattle.speck.specs.Grid.{Grid}
use Rattle.speck.specs.Laws.{AboutGrid, AsksOn, BeginsASurvey}
use Rattle.speck.specs.Machine.{Question, State, owing, asking, sign, refinement, finished, significant?, negative?, bit?, nothing?, answer, ask}
use Rattle.speck.specs.Places.{bare}
use Rattle.speck.specs.Receiver.{Prefix}
use Rattle.speck.proofs.About.{about_grid}
use Rattle.walk.specs.Walks.{Follows, Judged, state_of}
use Rattle.walk.specs.declared.Walk.{Walk}
use Rattle.walk.specs.declared.asking.BitFault.{BitFault}
use Rattle.sender.specs.declared.SendFault.TheVariants as fault
use Rattle.sender.specs.Asked.{told}
use Rattle.sender.specs.Sending.{Sends, slot_fault, survey_of}

-- a walk that has taken the bits of a head's survey
abbrev pub Followed : Walk → Head → List Bool → Type 0
Followed w h = Follows w (h.shape.exponent - h.shape.levels) h.shape.levels h.planes

pub record Sending (h : Head) (g : Grid) (w : Walk) (i : ℕ) (old new : List ℕ) : Type 0 where
  pub bits : List Bool
  pub count : length bits ≡ i
  pub begins : Prefix bits (survey_of h g)
  pub follows : Followed w h bits
  pub written : Written bits old new

-- what a walk asks is about the grid
bare_about : (m P : ℕ) (s : State) → AboutGrid m P (ask s) → AboutGrid m P (ask (bare s))
bare_about m P (owing n p ps free noes old new) a = a
bare_about m P (asking n p free noes old new) a = a
bare_about m P (sign n r c free noes old new) a = a
bare_about m P (refinement n e todo done noes new) a = a
bare_about m P (finished noes old) a = a

pub asks_about : (h : Head) (w : Walk) (bits : List Bool) (q : Question) → q ≡ ask (state_of w) → Followed w h bits → AboutGrid h.shape.exponent h.planes q
asks_about h w bits q e f =
    let k = h.shape.levels in
    let x = h.shape.exponent - k in
    let m : x + k ≡ h.shape.exponent = omega (arith, h.shape.within) in
    subst (AboutGrid h.shape.exponent h.planes) (sym (e ∙ ap ask f.places))
    (bare_about h.shape.exponent h.planes f.state (subst (λ n. AboutGrid n h.planes (ask f.state)) m (about_grid x k h.planes bits f.state f.reached)))

-- the grid's answer goes on with the survey, and where nothing is asked the survey is written
pub told_on : (g : Grid) (q : Question) (b : Bool) (bits all : List Bool) → Some b ≡ told g q → AsksOn q g bits all → Prefix (bits ++ b ∷ []) all
told_on g (significant? n p) b bits all e a = let f : b ≡ answer g (significant? n p) = cc in subst (λ d. Prefix (bits ++ d ∷ []) all) (sym f) a
told_on g (negative? r c) b bits all e a = let f : b ≡ answer g (negative? r c) = cc in subst (λ d. Prefix (bits ++ d ∷ []) all) (sym f) a
told_on g (bit? n d) b bits all e a = let f : b ≡ answer g (bit? n d) = cc in subst (λ d. Prefix (bits ++ d ∷ []) all) (sym f) a
told_on g nothing? b bits all e a = absurd (let z : ◌≡◌ {A = ℕ} 0 1 = cc in omega arith)

pub told_none : (g : Grid) (q : Question) (bits all : List Bool) → None ≡ told g q → AsksOn q g bits all → bits ≡ all
told_none g (significant? n p) bits all e a = absurd (let z : ◌≡◌ {A = ℕ} 0 1 = cc in omega arith)
told_none g (negative? r c) bits all e a = absurd (let z : ◌≡◌ {A = ℕ} 0 1 = cc in omega arith)
told_none g (bit? n d) bits all e a = absurd (let z : ◌≡◌ {A = ℕ} 0 1 = cc in omega arith)
told_none g nothing? bits all e a = a

-- so the walk takes it
pub taken_ok : (r : Result (Unit {0}) BitFault) (w : Walk) (x k P : ℕ) (bits : List Bool) → Judged r w x k P bits → BeginsASurvey x k P bits → is_ok r ≡ true
taken_ok (Ok u) w x k P bits j b = refl
taken_ok (Err e) w x k P bits j b = absurd (j b)

pub taken_on : (r : Result (Unit {0}) BitFault) (u : Unit {0}) (w : Walk) (x k P : ℕ) (bits : List Bool) → r ≡ Ok u → Judged r w x k P bits → Follows w x k P bits
taken_on r u w x k P bits e j = (subst (λ s. Judged s w x k P bits) e j).0

-- the end of the loop
abbrev pub Sent : List Bool → ℕ → List ℕ → List ℕ → ℕ → Type 0
Sent all slot old new n = Sends all slot old new (Ok n)

finish : (bits all : List Bool) (slot i : ℕ) (old new : List ℕ) → slot_fault slot old ≡ None → bytes_for slot ≤ length old → length bits ≡ i → i ≤ slot → take slot all ≡ bits → Written bits old new → Sent all slot old new i
finish bits all slot i old new f room e l t w = (
  f,
  omega (arith, ap length t, length-take slot all),
  written_list bits old new (omega arith) w ∙ ap (λ b. overwritten b old) (sym t),
)

pub finish_slot : (bits all : List Bool) (slot : ℕ) (old new : List ℕ) → slot_fault slot old ≡ None → bytes_for slot ≤ length old → length bits ≡ slot → Prefix bits all → Written bits old new → Sent all slot old new slot
finish_slot bits all slot old new f room e p w = finish bits all slot slot old new f room e (omega arith) (sym (ap (take slot) p.1) ∙ front) w
  where
    front : take slot (bits ++ p.0) ≡ bits
    front = take-append-le slot bits p.0 (omega arith) ∙ take_all slot bits (omega arith)

pub finish_all : (bits all : List Bool) (slot i : ℕ) (old new : List ℕ) → slot_fault slot old ≡ None → bytes_for slot ≤ length old → length bits ≡ i → i ≤ slot → bits ≡ all → Written bits old new → Sent all slot old new i
finish_all bits all slot i old new f room e l q w = finish bits all slot i old new f room e l (ap (take slot) (sym q) ∙ take_all slot bits (omega arith)) w

-- what the check of slot and buffer says
pub room_for : (slot : ℕ) (old : List ℕ) → slot_fault slot old ≡ None → bytes_for slot ≤ length old
room_for slot old e = by (leb slot 86101) (leb (bytes_for slot) (length old)) refl e
  where
    by : (a b : Bool) → leb (bytes_for slot) (length old) ≡ b → cond a (cond b None (Some fault.Buffer)) (Some fault.Slot) ≡ None → bytes_for slot ≤ length old
    by true true q h = leb-true (bytes_for slot) (length old) q
    by true false q h = absurd (let z : ◌≡◌ {A = ℕ} 0 1 = cc in omega arith)
    by false b q h = absurd (let z : ◌≡◌ {A = ℕ} 0 1 = cc in omega arith)
