-- One slot. Its case is sound where the previous outputs are in range, so that what holds of a dispatch holds of it: as many outputs as sets, none above 10,000, and a cost in range. And what the code leaves of a slot is the slot of the rules.
use mathlib.Core.Path.{◌≡◌, refl, sym, ap, ◌∙◌}
use Prim.Native.Nat.{ℕ, suc, ◌+◌, ◌≤◌}
use native.Mathlib.Omega.{arith}
use mathlib.Core.Bool.{Bool, true, false, true≢false, cond, ◌&&◌}
use mathlib.Core.List.{List, [], ◌∷◌}
use lib.Dec.{ltb, eqb}
use lib.ListN.{length, length-append}
use Rattle.fields.proofs.Width.{length-bytes}
use Rattle.rules.specs.Lists.{over, Every}
use Rattle.rules.specs.Unit.{Unit, permitted}
use Rattle.rules.specs.Layout.{Case}
use Rattle.rules.specs.Problem.{Problem, problem_of, allocation}
use Rattle.rules.specs.Bisection.{solvable, solve}
use Rattle.rules.specs.Promise.{ReplyPromise}
use Rattle.rules.specs.Sound.{Sound}
use Rattle.rules.proofs.Lists.{every_more}
use Rattle.rules.proofs.Verdicts.{and-true}
use Rattle.rules.proofs.Sound.{sound-previous}
use Rattle.rules.proofs.Demand3.{allocation-small}
use Rattle.rules.proofs.Economics.Solution.{reply-promise}
use Rattle.rules.proofs.Economics.Totals.{total_cost_range}
use Rattle.solving.specs.declared.Reply as code
use Rattle.day.specs.declared.History.{History}
use Rattle.day.specs.Day.{each_with_previous, slot_case, histories_after, slot_bytes, solved_slot, refused_slot, one_slot}
use Rattle.day.specs.Clauses.{HistoryInRange, Replies, Leaves}
use Rattle.day.proofs.Histories.{after-taken}

-- ---- the case of a slot

units-long : (us : List Unit) (hs : List History) → length hs ≡ length us → length (each_with_previous us hs) ≡ length us
units-long [] hs e = refl
units-long (u ∷ us) [] e = absurd (omega (arith, e))
units-long (u ∷ us) (h ∷ hs) e = ap suc (units-long us hs (omega (arith, e)))

units-sound : (us : List Unit) (hs : List History) → Every Sound us → Every (λ h. h.previous ≤ 10000) hs → Every Sound (each_with_previous us hs)
units-sound [] hs s p = tt
units-sound (u ∷ us) [] s p = tt
units-sound (u ∷ us) (h ∷ hs) s p = (sound-previous u h.previous s.0 p.0, units-sound us hs s.1 p.1)

allocation-long : (us : List Unit) (ps : List ℕ) → allocation us ps ≡ true → length ps ≡ length us
unfolding allocation
allocation-long [] [] e = refl
allocation-long [] (p ∷ ps) e = absurd (true≢false (sym e))
allocation-long (u ∷ us) [] e = absurd (true≢false (sym e))
allocation-long (u ∷ us) (p ∷ ps) e = ap suc (allocation-long us ps ((and-true (permitted u p) (allocation us ps)).0 e).1)

-- ---- histories after it

after-long : (hs : List History) (ps : List ℕ) → length ps ≡ length hs → length (histories_after hs ps) ≡ length hs
after-long [] ps e = refl
after-long (h ∷ hs) [] e = absurd (omega (arith, e))
after-long (h ∷ hs) (p ∷ ps) e = ap suc (after-long hs ps (omega (arith, e)))

counted : (b : Bool) (s k : ℕ) → s ≤ k → cond b (s + 1) s ≤ suc k
counted true s k h = omega arith
counted false s k h = omega arith

in_range_after : (k : ℕ) (hs : List History) (ps : List ℕ) → Every (HistoryInRange k) hs → Every (λ p. p ≤ 10000) ps → Every (HistoryInRange (suc k)) (histories_after hs ps)
in_range_after k [] ps m s = tt
in_range_after k (h ∷ hs) [] m s = tt
in_range_after k (h ∷ hs) (p ∷ ps) m s =
    (record { previous = s.0; starts = counted (eqb h.previous 0 && ltb 0 p) h.starts k m.0.starts }, in_range_after k hs ps m.1 s.1)

pub in_range_more : (k : ℕ) (hs : List History) → Every (HistoryInRange k) hs → Every (HistoryInRange (suc k)) hs
in_range_more k hs = every_more (HistoryInRange k) (HistoryInRange (suc k)) (λ h m. record { previous = m.previous; starts = omega (arith, m.starts) }) hs

-- ---- a slot of the rules

pub bytes-long : (status cost gap : ℕ) → length (slot_bytes status cost gap) ≡ 18
bytes-long status cost gap = simp length-append (omega (arith, length-bytes 2 status, length-bytes 8 cost, length-bytes 8 gap))

module _ (c : Case) (hs : List History) (d : ℕ) where
  abbrev q : Problem
  q = problem_of (slot_case c hs d)

  pub slot_long : length (one_slot c hs d).trace ≡ 18
  unfolding one_slot
  slot_long = by (solvable q)
    where
      by : (b : Bool) → length (cond b (solved_slot hs (solve q)) (refused_slot hs)).trace ≡ 18
      by true = bytes-long 0 (solve q).cost (solve q).gap
      by false = bytes-long 11 0 0

  module _ (sound : Every Sound c.units) (small : Every (λ h. h.previous ≤ 10000) hs) (long : length hs ≡ length c.units) where
    pub slot_sound : Every Sound (slot_case c hs d).units
    unfolding slot_case
    slot_sound = units-sound c.units hs sound small

    pub slot_promise : solvable q ≡ true → ReplyPromise (slot_case c hs d) (solve q)
    slot_promise e = reply-promise (slot_case c hs d) slot_sound e

    case-long : length (slot_case c hs d).units ≡ length hs
    unfolding slot_case
    case-long = units-long c.units hs long ∙ sym long

    pub outputs-long : solvable q ≡ true → length (solve q).outputs ≡ length hs
    outputs-long e = allocation-long (slot_case c hs d).units (solve q).outputs (slot_promise e).permitted ∙ case-long

    pub outputs-small : solvable q ≡ true → Every (λ p. p ≤ 10000) (solve q).outputs
    outputs-small e = allocation-small (slot_case c hs d).units (solve q).outputs slot_sound (slot_promise e).permitted

    pub slot_histories : length (one_slot c hs d).histories ≡ length hs
    unfolding one_slot
    slot_histories = by (solvable q) refl
      where
        by : (b : Bool) → solvable q ≡ b → length (cond b (solved_slot hs (solve q)) (refused_slot hs)).histories ≡ length hs
        by true e = after-long hs (solve q).outputs (outputs-long e)
        by false e = refl

    pub slot_in_range : (k : ℕ) → Every (HistoryInRange k) hs → Every (HistoryInRange (suc k)) (one_slot c hs d).histories
    unfolding one_slot
    slot_in_range k m = by (solvable q) refl
      where
        by : (b : Bool) → solvable q ≡ b → Every (HistoryInRange (suc k)) (cond b (solved_slot hs (solve q)) (refused_slot hs)).histories
        by true e = in_range_after k hs (solve q).outputs m (outputs-small e)
        by false e = in_range_more k hs m

    pub slot_cost : length hs ≤ 32 → (one_slot c hs d).total ≤ 6432000000000
    unfolding one_slot
    slot_cost few = by (solvable q) refl
      where
        by : (b : Bool) → solvable q ≡ b → (cond b (solved_slot hs (solve q)) (refused_slot hs)).total ≤ 6432000000000
        by true e = omega (arith, (slot_promise e).cost, total_cost_range (slot_case c hs d).units (solve q).outputs slot_sound (outputs-small e), case-long, few)
        by false e = omega arith

-- ---- what the code leaves of it

module _ (c : Case) (hs : List History) (d : ℕ) {before after : List ℕ} where
  pub refused-leaves : solvable (problem_of (slot_case c hs d)) ≡ false → after ≡ over (slot_bytes 11 0 0) before → Leaves (one_slot c hs d) before after hs 0
  unfolding one_slot
  refused-leaves e w = rw e (record { trace = w; histories = refl; cost = refl })

  pub solved-leaves : {r : code.Reply} {histories : List History} → Replies (problem_of (slot_case c hs d)) (length hs) r → after ≡ over (slot_bytes 0 r.cost r.gap) before → histories ≡ histories_after hs r.outputs → Leaves (one_slot c hs d) before after histories r.cost
  unfolding one_slot
  solved-leaves {r} e w h = rw (e.solvable, ← e.reply) (record { trace = w; histories = h ∙ after-taken hs r.outputs; cost = refl })
