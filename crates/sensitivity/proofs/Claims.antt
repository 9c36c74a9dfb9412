-- What holds of the floors: each bounds what covers its demand, by weak duality of the same offers with that demand; they rise with the demand; the case's own demand has the reply's bound; and the call refuses what dispatch refuses.
use Rattle.std.specs.Prelude.{Ok, Err}
use Prim.Native.Nat.{ℕ, zero, suc, ◌*◌, ◌≤◌, ◌<◌}
use native.Mathlib.Omega.{arith}
use mathlib.Core.Path.{◌≡◌, refl, sym, ap, subst, ◌∙◌}
use mathlib.Core.Logic.{◌↔◌}
use mathlib.Core.Bool.{true}
use mathlib.Core.List.{List, [], ◌∷◌, ◌++◌, map}
use lib.Dec.{ltb}
use lib.IntN.{ℤ, pos}
use lib.ListN.{length, get_or}
use lib.Signed.{◌≤ℤ◌}
use borrow.Author.Tests.{leb-true, le-ltb}
use Rattle.fields.proofs.Integers.{ints}
use Rattle.rules.specs.Lists.{over, Every}
use Rattle.rules.specs.Demands.{demands_invalid}
use Rattle.rules.specs.Numbers.{divided_up, greatest_at}
use Rattle.rules.specs.Layout.{case_of}
use Rattle.rules.specs.Refusal.{◌refuses◌, ◌then◌, Verdict}
use Rattle.rules.specs.Problem.{total_cost, total_net, covers, Problem, units_of, target, problem_of, problem_in}
use Rattle.rules.specs.Choice.{selected, floor}
use Rattle.rules.specs.Bisection.{Found, found, greatest_outputs, solvable}
use Rattle.rules.specs.Calls.{case_verdict, dispatch_verdict, dispatch_ends, dispatched}
use Rattle.rules.specs.Promise.{Permitted, GreatestFloor, cost_less_gap, reply_in}
use Rattle.rules.specs.declared.Refusal.{Refusal}
use Rattle.rules.specs.declared.Refusal.TheVariants.{NoAllocation, DemandsInvalid, FloorsTooShort}
use Rattle.rules.specs.Sound.{Sound}
use Rattle.rules.proofs.Verdicts.{then_accepted}
use Rattle.rules.proofs.Encoding.SoundFile.{units-sound}
use Rattle.rules.specs.Offers.{Available}
use Rattle.rules.proofs.Economics.Allocations.{relaxation}
use Rattle.rules.proofs.Economics.Duality.{weak_duality, floor_zero_not_negative}
use Rattle.rules.proofs.Economics.Greatest.{greatest_of, greatest-same, greatest-rises}
use Rattle.rules.proofs.Economics.Lowering.{selected-tied}
use Rattle.rules.proofs.Economics.Rounding.{divided-rises}
use Rattle.rules.proofs.Economics.Steps.{search-covers}
use Rattle.rules.proofs.Economics.Solvable.{case-proper, solvable-available}
use Rattle.rules.proofs.Economics.Solution.{same-cost, same-net, permitted-given, greatest-floor}
use Rattle.rules.proofs.Demand3.{case-accepted, demand3}
use Rattle.rules.proofs.Replied.{replied}
use Rattle.std.specs.Prelude.{Ok, Err}
use Rattle.sensitivity.specs.Floors.{dual_for, floor_for, floors_verdict, floors_end, floored, panel_floored}
use Rattle.sensitivity.specs.Claims.{CarriedDual, OfThatDemand, Bounds, OwnDemand, NotAboveDispatch, AlikeFromOne, OneAtZero, ToldInC, RefusesAsDispatch}
use Rattle.sensitivity.proofs.Carried.{at, dual_for_lem, floor_for_lem, dual-rises, dual_at_zero}
use Rattle.sensitivity.proofs.Outcomes.{ended, floors-told}
use Rattle.sensitivity.proofs.Tracing.{seen}

-- (rule 20.3)
pub carried-dual : CarriedDual dual_for
carried-dual = dual_for_lem

pub of_that_demand : OfThatDemand floor_for
unfolding floor_for
of_that_demand q d = greatest-same (λ m. divided_up (dual_for m q d) 100000) (λ m. floor m (at q d)) (found q).evaluated (λ m _. floor_for_lem m q d)

-- ---- of an accepted case

module _ (file : List ℕ) (e : case_verdict file ≡ Ok tt) where
  abbrev q : Problem
  q = problem_in file

  sound : Every Sound (case_of file).units
  sound = units-sound file (case-accepted file e).0

  solves : solvable q ≡ true
  solves = (case-accepted file e).1

  available : Every Available q.offers
  available = solvable-available q (case-proper (case_of file) sound) solves

  -- (rule 20.5)
  floor-bounds : (d : ℕ) (ps : List ℕ) → Permitted (case_of file) ps → covers d (total_net (case_of file).units ps) ≡ true → floor_for q d ≤ℤ pos (total_cost (case_of file).units ps)
  unfolding floor_for floor
  floor-bounds d ps a h =
      let c = case_of file in
      let (m, _, top) = (greatest_of (λ n. divided_up (dual_for n q d) 100000) (seen file e).zero_seen).one in
      let r = relaxation (at q d) available (λ n. selected n (at q d)) (selected-tied (at q d) available) in
      let enough : target (at q d) ≤ total_net c.units ps = leb-true (100000000 * d) (total_net c.units ps) h in
      rw (← top, floor_for_lem m q d, ← same-cost c ps) (weak_duality r m ps (permitted-given c ps a) (omega (arith, same-net c ps)))

  -- (rule 20.9)
  floor_not_negative : (d : ℕ) → pos 0 ≤ℤ floor_for q d
  unfolding floor_for floor
  floor_not_negative d =
      let r = relaxation (at q d) available (λ n. selected n (at q d)) (selected-tied (at q d) available) in
      let above : floor 0 (at q d) ≤ℤ greatest_at (λ n. divided_up (dual_for n q d) 100000) (found q).evaluated = rw (← floor_for_lem 0 q d) ((greatest_of (λ n. divided_up (dual_for n q d) 100000) (seen file e).zero_seen).each 0 (seen file e).zero_seen) in
      omega (arith, ints, floor_zero_not_negative r, above)

  -- (rule 20.7)
  floor-rises : (d d' : ℕ) → d ≤ d' → floor_for q d ≤ℤ floor_for q d'
  unfolding floor_for
  floor-rises d d' h =
      greatest-rises (λ m. divided_up (dual_for m q d) 100000) (λ m. divided_up (dual_for m q d') 100000) (seen file e).zero_seen (λ m _. divided-rises {k = 100000} (omega arith) (dual-rises m q d d' h))

  -- (rule 20.6)
  own-greatest : GreatestFloor q (floor_for q q.demand)
  own-greatest = rw (of_that_demand q q.demand) (greatest-floor q (case-proper (case_of file) sound) solves)

  -- for another demand, at most the greatest floor of the same offers with it
  floor-within : (d : ℕ) {z : ℤ} → GreatestFloor (at q d) z → floor_for q d ≤ℤ z
  unfolding floor_for
  floor-within d g =
      let (m, k, top) = (greatest_of (λ n. divided_up (dual_for n q d) 100000) (seen file e).zero_seen).one in
      rw (← top, floor_for_lem m q d) (g.greatest m ((seen file e).within m k))

-- there is one greatest floor
one-greatest : (q : Problem) {y z : ℤ} → GreatestFloor q y → GreatestFloor q z → y ≡ z
one-greatest q {y} {z} a b =
    let (m, h, e) = a.one in
    let (n, k, f) = b.one in
    let up : y ≤ℤ z = rw (← e) (b.greatest m h) in
    let down : z ≤ℤ y = rw (← f) (a.greatest n k) in
    omega (arith, ints, up, down)

-- ---- of a call that wrote floors

record Wrote (file demands : List ℕ) (floors : List ℤ) (n : ℕ) : Type 0 where
  accepted : case_verdict file ≡ Ok tt
  count : n ≡ length demands
  after : (floored file demands floors).floors ≡ over (map (floor_for (problem_in file)) demands) floors

wrote : (file demands : List ℕ) (floors : List ℤ) (n : ℕ) → (floored file demands floors).answer ≡ Ok n → Wrote file demands floors n
unfolding floored floors_verdict
wrote file demands floors n e =
    let (verdict, count, after) = ended (floors_verdict file demands floors) file demands floors n e in
    let valid = demands_invalid demands refuses DemandsInvalid in
    let room = ltb (length floors) (length demands) refuses FloorsTooShort in
    let rest = ((then_accepted valid (room then case_verdict file)).0 verdict).1 in
    record { accepted = ((then_accepted room (case_verdict file)).0 rest).1; count = count; after = after }

-- floor i is that of demand i
get_d_over : (f : ℕ → ℤ) (ds : List ℕ) (rest : List ℤ) (i : ℕ) → i < length ds → get_or (map f ds ++ rest) i (pos 0) ≡ f (get_or ds i 0)
get_d_over f [] rest i h = absurd (omega arith)
get_d_over f (d ∷ ds) rest zero h = refl
get_d_over f (d ∷ ds) rest (suc i) h = get_d_over f ds rest i (omega arith)

module _ {file demands : List ℕ} {floors : List ℤ} {n : ℕ} (w : Wrote file demands floors n) where
  floor-at : (i : ℕ) → i < length demands → get_or (floored file demands floors).floors i (pos 0) ≡ floor_for (problem_in file) (get_or demands i 0)
  floor-at i h = ap (λ (s : List ℤ). get_or s i (pos 0)) w.after ∙ get_d_over (floor_for (problem_in file)) demands _ i h

pub bounds : Bounds floored
bounds file demands floors n e =
    let w = wrote file demands floors n e in
    let a = w.accepted in (
      w.count,
      record {
        nobody_spends_less = λ i h ps p k. rw (floor-at w i h) (floor-bounds file a (get_or demands i 0) ps p k);
        rises = λ i j h k l. rw (floor-at w i h, floor-at w j k) (floor-rises file a (get_or demands i 0) (get_or demands j 0) l);
        not_negative = λ i h. rw (floor-at w i h) (floor_not_negative file a (get_or demands i 0));
      },
    )

-- what a reply claims is the greatest floor of its case
reply-greatest : (file buffer : List ℕ) (k : ℕ) → (dispatched file buffer).answer ≡ Ok k → GreatestFloor (problem_in file) (cost_less_gap (reply_in (dispatched file buffer).reply))
reply-greatest file buffer k r =
    let d = replied file buffer k r in
    ((demand3 file buffer (case-accepted file d.accepted).0 d.room).reply (λ f. absurd (let z : ◌≡◌ {A = ℕ} 0 1 = differ (sym r ∙ f) in omega arith))).greatest_floor
  where
    differ : Ok k ≡ Err NoAllocation → ◌≡◌ {A = ℕ} 0 1
    differ g = cc

pub own-demand : OwnDemand floored
unfolding problem_of
own-demand file demands buffer floors n k i e r h own =
    let w = wrote file demands floors n e in
    floor-at w i h ∙ ap (floor_for (problem_in file)) own ∙ one-greatest (problem_in file) (own-greatest file w.accepted) (reply-greatest file buffer k r)

pub not_above_dispatch : NotAboveDispatch floored
unfolding problem_of
not_above_dispatch file demands other buffer floors n k i e r h same =
    let w = wrote file demands floors n e in
    let g : GreatestFloor (problem_of (record { demand = get_or demands i 0; units = (case_of file).units })) _ = subst (λ c. GreatestFloor (problem_of c) (cost_less_gap (reply_in (dispatched other buffer).reply))) same (reply-greatest other buffer k r) in
    rw (floor-at w i h) (floor-within file w.accepted (get_or demands i 0) g)

pub alike_from_one : AlikeFromOne floored
unfolding floor_for greatest_at
alike_from_one file demands floors n i j e one h k =
    let w = wrote file demands floors n e in
    let alike : floor_for (problem_in file) (get_or demands i 0) ≡ floor_for (problem_in file) (get_or demands j 0) = rw one (ap (λ (z : ℤ). divided_up z 100000) (dual_at_zero (problem_in file) (get_or demands i 0) (get_or demands j 0))) in
    floor-at w i h ∙ alike ∙ sym (floor-at w j k)

pub one_at_zero : OneAtZero
unfolding found
one_at_zero q e = ap (λ (f : Found (List ℕ)). f.evaluated) (search-covers (λ m. selected m q) (total_net (units_of q)) (target q) (greatest_outputs q) (omega (arith, e)))

pub told_in_c : ToldInC panel_floored floored
told_in_c file demands floors answers h = floors-told file demands floors answers h refl refl refl refl

-- ---- of a call that is refused

-- both calls refuse with what the case is refused with
as_case : (v : Verdict) (file demands buffer : List ℕ) (floors : List ℤ) (r : Refusal) → ((floors_end v file demands floors).answer ≡ Err r) ↔ ((dispatch_ends v file buffer).answer ≡ Err r)
unfolding floors_end dispatch_ends
as_case (Ok _) file demands buffer floors r = (λ e. absurd (let z : ◌≡◌ {A = ℕ} 0 1 = cc in omega arith), λ e. absurd (let z : ◌≡◌ {A = ℕ} 0 1 = cc in omega arith))
as_case (Err s) file demands buffer floors r = (λ e. let z : s ≡ r = cc in rw z refl, λ e. let z : s ≡ r = cc in rw z refl)

pub refuses_as_dispatch : RefusesAsDispatch floored
unfolding floored floors_verdict dispatched dispatch_verdict
refuses_as_dispatch file demands buffer floors r valid room long =
    rw (valid, le-ltb (length floors) (length demands) room, le-ltb (length buffer) 92 long) (as_case (case_verdict file) file demands buffer floors r)
