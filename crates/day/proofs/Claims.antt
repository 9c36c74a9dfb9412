-- What holds of every day: laws of the slots one by one, by induction over the demands.
use Rattle.std.specs.Prelude.{Ok, Err}
use mathlib.Core.Path.{◌≡◌, refl, sym, ap, ◌∙◌}
use Prim.Native.Nat.{ℕ, suc, ◌+◌, ◌*◌, ◌≤◌}
use native.Mathlib.Omega.{arith}
use mathlib.Core.Bool.{Bool, true, false, cond, ◌&&◌}
use mathlib.Core.List.{List, [], ◌∷◌, ◌++◌, map, append_assoc, append-nil}
use mathlib.Core.Logic.{◌↔◌}
use Rattle.std.specs.Prelude.{Err}
use lib.Dec.{ltb, eqb}
use lib.ListN.{length, length-map, drop, length-append}
use lib.Seq.{drop_at}
use borrow.Author.Tests.{le-ltb}
use Rattle.rules.specs.Lists.{sum, Every, over}
use Rattle.rules.specs.Unit.{Unit}
use Rattle.rules.specs.Layout.{Case, count, case_of}
use Rattle.rules.specs.Refusal.{file_verdict, Verdict}
use Rattle.rules.specs.Problem.{Problem, problem_of}
use Rattle.rules.specs.Bisection.{solvable, solve}
use Rattle.rules.specs.Promise.{Permitted, Covering}
use Rattle.rules.specs.Sound.{Sound}
use Rattle.rules.specs.declared.Refusal.{Refusal}
use Rattle.rules.proofs.Lists.{every_map, every_more}
use Rattle.rules.proofs.Demands.{valid-demands}
use Rattle.rules.proofs.Encoding.SoundFile.{sound-file, units-sound}
use Rattle.rules.proofs.Economics.Solution.{reply-promise, covering-net, permitted-given}
use Rattle.rules.proofs.Economics.Solvable.{unsolvable, case-proper}
use Rattle.day.specs.declared.History.{History}
use Rattle.day.specs.Day.{slot_case, histories_after, histories_of, Slots, slot_bytes, solved_slot, refused_slot, one_slot, slots_more, slots_from, no_slot, day_of, day_verdict, day_ends, scheduled}
use Rattle.day.specs.Claims.{cases_from, slot_cases, cost_of, bytes_of, joined, SumOfSlots, SlotPromise, EachSlot, last_outputs, previous_outputs, PreviousOfLastSolved, OneMore, solved_of, DayBounded, RefusesAsFile, Untouched}
use Rattle.day.proofs.OneSlot.{slot_long, slot_sound, outputs-long, outputs-small, slot_histories, slot_cost}
use Rattle.day.proofs.Folding.{units-counted, from_more}
use Rattle.day.proofs.Opens.{accepts-day}

-- ---- the total and the trace

module _ (c : Case) (hs : List History) (d : ℕ) where
  abbrev q : Problem
  q = problem_of (slot_case c hs d)

  one-total : (one_slot c hs d).total ≡ cost_of (slot_case c hs d)
  unfolding one_slot
  one-total = by (solvable q)
    where
      by : (b : Bool) → (cond b (solved_slot hs (solve q)) (refused_slot hs)).total ≡ cond b (solve q).cost 0
      by true = refl
      by false = refl

  one-trace : (one_slot c hs d).trace ≡ bytes_of (slot_case c hs d)
  unfolding one_slot
  one-trace = by (solvable q)
    where
      by : (b : Bool) → (cond b (solved_slot hs (solve q)) (refused_slot hs)).trace ≡ cond b (slot_bytes 0 (solve q).cost (solve q).gap) (slot_bytes 11 0 0)
      by true = refl
      by false = refl

from-total : (c : Case) (s : Slots) (ds : List ℕ) → (slots_from c s ds).total ≡ s.total + sum (map cost_of (cases_from c s.histories ds))
unfolding slots_more
from-total c s [] = omega arith
from-total c s (d ∷ ds) =
    let more = slots_more c s d in
    let e : (slots_from c more ds).total ≡ (s.total + (one_slot c s.histories d).total) + sum (map cost_of (cases_from c (one_slot c s.histories d).histories ds)) = from-total c more ds in
    omega (arith, e, one-total c s.histories d)

from-trace : (c : Case) (s : Slots) (ds : List ℕ) → (slots_from c s ds).trace ≡ s.trace ++ joined (map bytes_of (cases_from c s.histories ds))
unfolding slots_more
from-trace c s [] = sym (append-nil s.trace)
from-trace c s (d ∷ ds) =
    let rest = joined (map bytes_of (cases_from c (one_slot c s.histories d).histories ds)) in
    from-trace c (slots_more c s d) ds
    ∙ append_assoc s.trace (one_slot c s.histories d).trace rest
    ∙ ap (λ (t : List ℕ). s.trace ++ (t ++ rest)) (one-trace c s.histories d)

pub sum_of_slots : (c : Case) (demands : List ℕ) → SumOfSlots c demands (day_of c demands)
unfolding day_of
sum_of_slots c demands = record { total = let e = from-total c (no_slot (histories_of c)) demands in omega (arith, e); trace = from-trace c (no_slot (histories_of c)) demands }

-- ---- each slot of an accepted file

promise : (x : Case) → Every Sound x.units → SlotPromise x
promise x sound =
    record {
      solved = reply-promise x sound;
      refused = (
        λ e ps permitted covering. absurd (omega (arith, unsolvable (problem_of x) (case-proper x sound) e ps (permitted-given x ps permitted), covering-net x ps covering)),
        λ none. by none (solvable (problem_of x)) refl,
      );
    }
  where
    by : ((ps : List ℕ) → Permitted x ps → Covering x ps → ⊥) → (b : Bool) → solvable (problem_of x) ≡ b → solvable (problem_of x) ≡ false
    by none false e = e
    by none true e = let p = reply-promise x sound e in absurd (none (solve (problem_of x)).outputs p.permitted p.covering)

-- the histories of a case: one to a unit, with a previous output in range
pub record Fitting (c : Case) (hs : List History) : Type 0 where
  pub long : length hs ≡ length c.units
  pub small : Every (λ h. h.previous ≤ 10000) hs

pub after-previous : (hs : List History) (ps : List ℕ) → length ps ≡ length hs → previous_outputs (histories_after hs ps) ≡ ps
after-previous [] [] e = refl
after-previous [] (p ∷ ps) e = absurd (omega (arith, e))
after-previous (h ∷ hs) [] e = absurd (omega (arith, e))
after-previous (h ∷ hs) (p ∷ ps) e = ap (λ (l : List ℕ). p ∷ l) (after-previous hs ps (omega (arith, e)))

after_small : (hs : List History) (ps : List ℕ) → Every (λ p. p ≤ 10000) ps → Every (λ h. h.previous ≤ 10000) (histories_after hs ps)
after_small [] ps s = tt
after_small (h ∷ hs) [] s = tt
after_small (h ∷ hs) (p ∷ ps) s = (s.0, after_small hs ps s.1)

module _ (c : Case) (sound : Every Sound c.units) where
  pub fitting-more : (hs : List History) (d : ℕ) → Fitting c hs → Fitting c (one_slot c hs d).histories
  unfolding one_slot
  fitting-more hs d f = record { long = slot_histories c hs d sound f.small f.long ∙ f.long; small = by (solvable (problem_of (slot_case c hs d))) refl }
    where
      by : (b : Bool) → solvable (problem_of (slot_case c hs d)) ≡ b → Every (λ h. h.previous ≤ 10000) (cond b (solved_slot hs (solve (problem_of (slot_case c hs d)))) (refused_slot hs)).histories
      by true e = after_small hs (solve (problem_of (slot_case c hs d))).outputs (outputs-small c hs d sound f.small f.long e)
      by false e = f.small

  each_from : (hs : List History) (ds : List ℕ) → Fitting c hs → Every SlotPromise (cases_from c hs ds)
  each_from hs [] f = tt
  each_from hs (d ∷ ds) f = (promise (slot_case c hs d) (slot_sound c hs d sound f.small f.long), each_from (one_slot c hs d).histories ds (fitting-more hs d f))

  -- previous outputs
  one-previous : (hs : List History) (d : ℕ) → Fitting c hs → previous_outputs (one_slot c hs d).histories ≡ cond (solvable (problem_of (slot_case c hs d))) (solve (problem_of (slot_case c hs d))).outputs (previous_outputs hs)
  unfolding one_slot
  one-previous hs d f = by (solvable (problem_of (slot_case c hs d))) refl
    where
      by : (b : Bool) → solvable (problem_of (slot_case c hs d)) ≡ b → previous_outputs (cond b (solved_slot hs (solve (problem_of (slot_case c hs d)))) (refused_slot hs)).histories ≡ cond b (solve (problem_of (slot_case c hs d))).outputs (previous_outputs hs)
      by true e = after-previous hs (solve (problem_of (slot_case c hs d))).outputs (outputs-long c hs d sound f.small f.long e)
      by false e = refl

  from-previous : (s : Slots) (ds : List ℕ) → Fitting c s.histories → previous_outputs (slots_from c s ds).histories ≡ last_outputs (previous_outputs s.histories) (cases_from c s.histories ds)
  unfolding slots_more
  from-previous s [] f = refl
  from-previous s (d ∷ ds) f =
      from-previous (slots_more c s d) ds (fitting-more s.histories d f)
      ∙ ap (λ (ps : List ℕ). last_outputs ps (cases_from c (one_slot c s.histories d).histories ds)) (one-previous s.histories d f)

  -- bounds
  from-bounded : (s : Slots) (ds : List ℕ) → length c.units ≤ 32 → Fitting c s.histories → (slots_from c s ds).total ≤ s.total + 6432000000000 * length ds
  unfolding slots_more
  from-bounded s [] few f = omega arith
  from-bounded s (d ∷ ds) few f =
      omega (arith, from-bounded (slots_more c s d) ds few (fitting-more s.histories d f), slot_cost c s.histories d sound f.small f.long (omega (arith, f.long, few)))

  from-fitting : (s : Slots) (ds : List ℕ) → Fitting c s.histories → Fitting c (slots_from c s ds).histories
  unfolding slots_more
  from-fitting s [] f = f
  from-fitting s (d ∷ ds) f = from-fitting (slots_more c s d) ds (fitting-more s.histories d f)

-- ---- starts

counted : (b : Bool) (s k : ℕ) → s ≤ k → cond b (s + 1) s ≤ suc k
counted true s k h = omega arith
counted false s k h = omega arith

after-starts : (k : ℕ) (hs : List History) (ps : List ℕ) → Every (λ h. h.starts ≤ k) hs → Every (λ h. h.starts ≤ suc k) (histories_after hs ps)
after-starts k [] ps m = tt
after-starts k (h ∷ hs) [] m = tt
after-starts k (h ∷ hs) (p ∷ ps) m = (counted (eqb h.previous 0 && ltb 0 p) h.starts k m.0, after-starts k hs ps m.1)

one-starts : (c : Case) (k : ℕ) (hs : List History) (d : ℕ) → Every (λ h. h.starts ≤ k) hs → Every (λ h. h.starts ≤ k + cond (solvable (problem_of (slot_case c hs d))) 1 0) (one_slot c hs d).histories
unfolding one_slot
one-starts c k hs d m = by (solvable (problem_of (slot_case c hs d)))
  where
    by : (b : Bool) → Every (λ h. h.starts ≤ k + cond b 1 0) (cond b (solved_slot hs (solve (problem_of (slot_case c hs d)))) (refused_slot hs)).histories
    by true = every_more (λ h. h.starts ≤ suc k) (λ h. h.starts ≤ k + 1) (λ h b. omega (arith, b)) (histories_after hs (solve (problem_of (slot_case c hs d))).outputs) (after-starts k hs (solve (problem_of (slot_case c hs d))).outputs m)
    by false = every_more (λ h. h.starts ≤ k) (λ h. h.starts ≤ k + 0) (λ h b. omega (arith, b)) hs m

one-solved : (b : Bool) (n : ℕ) → cond b (suc n) n ≡ cond b 1 0 + n
one-solved true n = omega arith
one-solved false n = omega arith

from-starts : (c : Case) (k : ℕ) (s : Slots) (ds : List ℕ) → Every (λ h. h.starts ≤ k) s.histories → Every (λ h. h.starts ≤ k + solved_of (cases_from c s.histories ds)) (slots_from c s ds).histories
unfolding slots_more
from-starts c k s [] m = every_more (λ h. h.starts ≤ k) (λ h. h.starts ≤ k + 0) (λ h b. omega (arith, b)) s.histories m
from-starts c k s (d ∷ ds) m =
    let b = solvable (problem_of (slot_case c s.histories d)) in
    let n = solved_of (cases_from c (one_slot c s.histories d).histories ds) in
    every_more (λ h. h.starts ≤ (k + cond b 1 0) + n) (λ h. h.starts ≤ k + cond b (suc n) n) (λ h e. omega (arith, e, one-solved b n)) (slots_from c (slots_more c s d) ds).histories
    (from-starts c (k + cond b 1 0) (slots_more c s d) ds (one-starts c k s.histories d m))

-- ---- the claims

pub first-fitting : (file : List ℕ) → file_verdict file ≡ Ok tt → Fitting (case_of file) (histories_of (case_of file))
first-fitting file a =
    let units = (case_of file).units in
    record {
      long = length-map units (λ u. record { previous = u.previous; starts = 0 });
      small = (every_map (λ (h : History). h.previous ≤ 10000) (λ (u : Unit). record { previous = u.previous; starts = 0 }) units).1 (every_more Sound (λ u. u.previous ≤ 10000) (λ u s. s.previous) units (units-sound file a));
    }

pub each_slot : EachSlot
each_slot file demands a = each_from (case_of file) (units-sound file a) (histories_of (case_of file)) demands (first-fitting file a)

pub case-previous : (us : List Unit) → previous_outputs (map (λ u. record { previous = u.previous; starts = 0 }) us) ≡ map (λ u. u.previous) us
case-previous [] = refl
case-previous (u ∷ us) = ap (λ (l : List ℕ). u.previous ∷ l) (case-previous us)

pub previous_of_last_solved : PreviousOfLastSolved
unfolding day_of
previous_of_last_solved file demands a =
    let c = case_of file in
    from-previous c (units-sound file a) (no_slot (histories_of c)) demands (first-fitting file a)
    ∙ ap (λ (ps : List ℕ). last_outputs ps (slot_cases c demands)) (case-previous c.units)

cases-more : (c : Case) (s : Slots) (ds : List ℕ) (d : ℕ) → cases_from c s.histories (ds ++ (d ∷ [])) ≡ cases_from c s.histories ds ++ (slot_case c (slots_from c s ds).histories d ∷ [])
unfolding slots_more
cases-more c s [] d = refl
cases-more c s (e ∷ ds) d = ap (λ (xs : List Case). slot_case c s.histories e ∷ xs) (cases-more c (slots_more c s e) ds d)

one-refused : (c : Case) (hs : List History) (d : ℕ) → solvable (problem_of (slot_case c hs d)) ≡ false → (one_slot c hs d).histories ≡ hs
unfolding one_slot
one-refused c hs d e = rw e

pub one_more : (c : Case) (demands : List ℕ) (d : ℕ) → OneMore c demands d
unfolding day_of slots_more
one_more c demands d =
    let s = no_slot (histories_of c) in
    let hs = (slots_from c s demands).histories in
    let e = from_more c s demands d in
    record {
      cases = cases-more c s demands d;
      total = ap (λ (x : Slots). x.total) e ∙ ap (λ (n : ℕ). (slots_from c s demands).total + n) (one-total c hs d);
      trace = ap (λ (x : Slots). x.trace) e ∙ ap (λ (t : List ℕ). (slots_from c s demands).trace ++ t) (one-trace c hs d);
      refused = λ r. ap (λ (x : Slots). x.histories) e ∙ one-refused c hs d r;
    }

zero-starts : (us : List Unit) → Every (λ (h : History). h.starts ≤ 0) (map (λ u. record { previous = u.previous; starts = 0 }) us)
zero-starts [] = tt
zero-starts (u ∷ us) = (omega arith, zero-starts us)

pub day-bounded : DayBounded
unfolding day_of
day-bounded file demands a valid =
    let c = case_of file in
    let s = no_slot (histories_of c) in
    let sound = units-sound file a in
    record {
      total = omega (arith, from-bounded c sound s demands (omega (arith, units-counted file (count file) (record { accepted = a; units = refl }), ((sound-file file).0 a).head.count-greatest)) (first-fitting file a), (valid-demands demands valid).few);
      starts =
          every_more (λ h. h.starts ≤ 0 + solved_of (slot_cases c demands)) (λ h. h.starts ≤ solved_of (slot_cases c demands)) (λ h e. omega (arith, e)) (slots_from c s demands).histories
          (from-starts c 0 s demands (zero-starts c.units));
      previous = (from-fitting c sound s demands (first-fitting file a)).small;
    }

ends-refused : (v : Verdict) (file demands trace : List ℕ) (histories : List History) (r : Refusal) → ((day_ends v file demands trace histories).answer ≡ Err r) ↔ (v ≡ Err r)
unfolding day_ends
ends-refused (Ok _) file demands trace histories r = (λ e. absurd (let z : ◌≡◌ {A = ℕ} 0 1 = cc in omega arith), λ e. absurd (let z : ◌≡◌ {A = ℕ} 0 1 = cc in omega arith))
ends-refused (Err s) file demands trace histories r = (λ e. let z : s ≡ r = cc in rw z refl, λ e. let z : s ≡ r = cc in rw z refl)

pub refuses_as_file : RefusesAsFile scheduled
unfolding scheduled day_verdict
refuses_as_file file demands trace histories r valid room records =
    rw (valid, le-ltb (length trace) (18 * length demands) room, le-ltb (length histories) 32 records) (ends-refused (file_verdict file) file demands trace histories r)

-- ---- what is not touched

-- behind what is written over a buffer, the buffer is as it was
behind : {A : Type 0} (s buffer : List A) (n : ℕ) → length s ≡ n → drop n (over s buffer) ≡ drop n buffer
behind s buffer n e = drop_at s (drop (length s) buffer) n e ∙ ap (λ (k : ℕ). drop k buffer) e

from-long : (c : Case) (s : Slots) (ds : List ℕ) → length (slots_from c s ds).trace ≡ length s.trace + 18 * length ds
unfolding slots_more
from-long c s [] = omega arith
from-long c s (d ∷ ds) = omega (arith, from-long c (slots_more c s d) ds, length-append s.trace (one_slot c s.histories d).trace, slot_long c s.histories d)

ends-untouched : (v : Verdict) (file demands trace : List ℕ) (histories : List History) → (v ≡ Ok tt → file_verdict file ≡ Ok tt) → Untouched file demands trace histories (day_ends v file demands trace histories)
unfolding day_ends day_of
ends-untouched (Err r) file demands trace histories a = record { trace = refl; histories = refl }
ends-untouched (Ok _) file demands trace histories a =
    let c = case_of file in
    let s = no_slot (histories_of c) in
    record {
      trace = behind (slots_from c s demands).trace trace (18 * length demands) (omega (arith, from-long c s demands));
      histories = behind (slots_from c s demands).histories histories (length c.units) (from-fitting c (units-sound file (a refl)) s demands (first-fitting file (a refl))).long;
    }

pub untouched : (file demands trace : List ℕ) (histories : List History) → Untouched file demands trace histories (scheduled file demands trace histories)
unfolding scheduled
untouched file demands trace histories = ends-untouched (day_verdict file demands (length trace) (length histories)) file demands trace histories (λ e. (accepts-day file demands (length trace) (length histories) e).accepted)
