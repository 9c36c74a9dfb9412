-- More load is never cheaper (`Loads` in specs/). Of one list of offers at two demands: the greater demand has no smaller dual value and no cheaper best; and two files that differ in the demand field alone have the same units.
use Rattle.std.specs.Prelude.{Ok, Err}
use mathlib.Core.Path.{◌≡◌, refl, sym, ap, subst, ◌∙◌}
use mathlib.Core.Bool.{Bool, true}
use mathlib.Core.List.{List, [], ◌∷◌}
use mathlib.Core.Logic.{⊎_elim}
use Prim.Native.Nat.{ℕ, zero, suc, ◌+◌, ◌*◌, ◌-◌, ◌≤◌, ◌<◌}
use native.Mathlib.Nat.{mul-le-mul_left}
use native.Mathlib.Omega.{arith}
use lib.Dec.{ltb}
use lib.IntN.{ℤ}
use lib.ListN.{length, take, drop}
use lib.Seq.{take-take, drop-drop}
use lib.Signed.{◌≤ℤ◌}
use borrow.Author.Tests.{le-leb, leb-true, le-ltb, ltb-false}
use Rattle.fields.specs.Field.{field, number}
use Rattle.fields.proofs.Integers.{ints, at_most}
use Rattle.rules.specs.Lists.{each, all, Every}
use Rattle.rules.specs.Unit.{Unit}
use Rattle.rules.specs.Layout.{edition, count, demand, offset, size, unit_at, case_of}
use Rattle.rules.specs.Refusal.{start, ◌refuses◌, file_verdict, Verdict}
use Rattle.rules.specs.Problem.{allocation, total_cost, total_net, covers, Problem, units_of, problem_of, problem_in}
use Rattle.rules.specs.Choice.{choices, selected, dual_value, floor}
use Rattle.rules.specs.Bisection.{greatest_outputs, solvable, found}
use Rattle.rules.specs.Calls.{case_verdict, dispatched, price_verdict, price_ends, priced}
use Rattle.rules.specs.Promise.{reply_in, Promise, ReplyPromise}
use Rattle.rules.specs.Loads.{TwoDemands, SameButDemand, SameBytesSameUnits, NoDearer, MoreLoadNeverCheaper, MoreLoadNoLowerDual}
use Rattle.rules.specs.declared.Refusal.TheVariants.{NoAllocation, MultiplierOutOfRange}
use Rattle.rules.specs.declared.Priced.{Priced}
use Rattle.rules.proofs.Lists.{each_same, length-each}
use Rattle.rules.proofs.Verdicts.{and-true, then_accepted, refuses-accepted}
use Rattle.rules.proofs.Economics.Rounding.{divided-rises}
use Rattle.rules.specs.Offers.{Proper}
use Rattle.rules.proofs.Economics.Allocations.{dual-is}
use Rattle.rules.proofs.Economics.Lowering.{more_slack}
use Rattle.rules.proofs.Economics.Solvable.{solvable-available, case-proper}
use Rattle.rules.proofs.Economics.Solution.{shown, at_most_first, same-cost}
use Rattle.rules.proofs.Encoding.SoundFile.{SoundFile, sound-file, units-sound}
use Rattle.rules.proofs.Demand3.{case-accepted, demand3}
use Rattle.rules.proofs.Replied.{replied}

-- ---- one list of offers at two demands

module _ (q : Problem) (d : ℕ) (less : d ≤ q.demand) where
  abbrev pub lesser : Problem
  lesser = record { demand = d; offers = q.offers }

  -- what the greater demand has, the lesser has
  pub lesser-solvable : solvable q ≡ true → solvable lesser ≡ true
  unfolding solvable greatest_outputs
  lesser-solvable e =
      let both = (and-true (all (λ o. ltb 0 (length o.outputs)) q.offers) (covers q.demand (total_net (units_of q) (greatest_outputs q)))).0 e in
      (and-true (all (λ o. ltb 0 (length o.outputs)) q.offers) (covers d (total_net (units_of q) (greatest_outputs q)))).1 (both.0, le-leb (100000000 * d) (total_net (units_of q) (greatest_outputs q)) (omega (arith, leb-true (100000000 * q.demand) (total_net (units_of q) (greatest_outputs q)) both.1)))

  same-greatest : greatest_outputs lesser ≡ greatest_outputs q
  unfolding greatest_outputs
  same-greatest = refl

  -- at one multiplier neither the dual value nor the floor is greater
  pub dual-lesser : (m : ℕ) → dual_value m lesser ≤ℤ dual_value m q
  unfolding choices
  dual-lesser m = at_most (dual-is m lesser) (dual-is m q) (omega (arith, mul-le-mul_left m less))

  pub floor-lesser : (m : ℕ) → floor m lesser ≤ℤ floor m q
  unfolding floor
  floor-lesser m = divided-rises (omega arith) (dual-lesser m)

  -- the choices are the same, so what covers the greater demand covers the lesser
  pub covers-lesser : (m : ℕ) → covers q.demand (total_net (units_of q) (choices m q)) ≡ true → covers d (total_net (units_of q) (choices m lesser)) ≡ true
  unfolding choices
  covers-lesser m e = le-leb (100000000 * d) (total_net (units_of q) (choices m q)) (omega (arith, leb-true (100000000 * q.demand) (total_net (units_of q) (choices m q)) e))

  module _ (proper : Every Proper q.offers) (solves : solvable q ≡ true) where
    pub best-lesser : total_cost (units_of q) (found lesser).best ≤ total_cost (units_of q) (found q).best
    best-lesser = ⊎_elim first (λ h. by h.0 h.1 h.2) (shown q proper solves).cases
      where
        low : solvable lesser ≡ true
        low = lesser-solvable solves

        first : (found q).best ≡ greatest_outputs q → total_cost (units_of q) (found lesser).best ≤ total_cost (units_of q) (found q).best
        first e = omega (arith, ap (total_cost (units_of q)) e, at_most_first lesser proper low, ap (total_cost (units_of q)) same-greatest)

        by : (m : ℕ) → m ≤ 65536 → (found q).best ≡ selected m q → total_cost (units_of q) (found lesser).best ≤ total_cost (units_of q) (found q).best
        by m k e =
            let slack = more_slack q (solvable-available q proper solves) m d less in
            let c = slack.covers (omega (arith, (shown q proper solves).covers, ap (total_net (units_of q)) e)) in
            omega (arith, (shown lesser proper low).cheapest m k c, slack.cost, ap (total_cost (units_of q)) e)

-- ---- two files that differ only in demand

part_of_front : (at w n : ℕ) (s : List ℕ) → at + w ≤ n → take w (drop at (take n s)) ≡ take w (drop at s)
part_of_front zero w n s h = take-take w n s (omega arith)
part_of_front (suc at) w zero s h = absurd (omega arith)
part_of_front (suc at) w (suc n) [] h = refl
part_of_front (suc at) w (suc n) (x ∷ s) h = part_of_front at w n s (omega arith)

module _ (a b : List ℕ) (same : SameButDemand a b) where
  field-before : (at w : ℕ) → at + w ≤ 4 → field a at w ≡ field b at w
  field-before at w h = ap number (sym (part_of_front at w 4 a h) ∙ ap (λ (s : List ℕ). take w (drop at s)) same.before ∙ part_of_front at w 4 b h)

  drop-behind : (at : ℕ) → 8 ≤ at → drop at a ≡ drop at b
  drop-behind at h =
      let e : 8 + (at - 8) ≡ at = omega arith in
      let f : drop (8 + (at - 8)) a ≡ drop (8 + (at - 8)) b = sym (drop-drop (at - 8) 8 a) ∙ ap (drop (at - 8)) same.behind ∙ drop-drop (at - 8) 8 b in
      subst (λ (k : ℕ). drop k a ≡ drop k b) e f

  field-behind : (at w : ℕ) → 8 ≤ at → field a at w ≡ field b at w
  field-behind at w h = ap (λ (s : List ℕ). number (take w s)) (drop-behind at h)

  -- a body starts behind the head
  start-behind : SoundFile a → (i : ℕ) → i < count a → 8 ≤ start a i
  start-behind f zero h = omega arith
  start-behind f (suc i) h = omega (arith, f.contents.offsets i (omega arith), start-behind f i (omega arith))

  unit-same : SoundFile a → (i : ℕ) → i < count a → unit_at a i ≡ unit_at b i
  unit-same f i h =
      let o : offset a i ≡ offset b i = field-behind (8 + 4 * i) 2 (omega arith) in
      let z : size a i ≡ size b i = field-behind (10 + 4 * i) 2 (omega arith) in
      let e : edition a ≡ edition b = field-before 0 2 (omega arith) in
      let d : drop (offset a i) a ≡ drop (offset a i) b = drop-behind (offset a i) (omega (arith, f.contents.offsets i h, start-behind f i h)) in
      rw (e, z, d, o)

  pub units-same : SoundFile a → (case_of a).units ≡ (case_of b).units
  unfolding case_of
  units-same f =
      let n : count a ≡ count b = field-before 2 2 (omega arith) in
      each_same (count a) (unit_at a) (unit_at b) (unit-same f) ∙ ap (λ (k : ℕ). each k (unit_at b)) n

pub same_bytes_same_units : SameBytesSameUnits
same_bytes_same_units lower higher accepted same = units-same lower higher same ((sound-file lower).0 accepted)

demand-is : (file : List ℕ) → (case_of file).demand ≡ demand file
unfolding case_of
demand-is file = refl

-- ---- two files of the same units

module _ (lower higher : List ℕ) (two : TwoDemands lower higher) where
  abbrev q : Problem
  q = problem_in higher

  fewer : demand lower ≤ (problem_in higher).demand
  unfolding problem_of
  fewer = omega (arith, two.demands, demand-is higher)

  problem : problem_in lower ≡ lesser (problem_in higher) (demand lower) fewer
  unfolding problem_of
  problem = rw (two.units, demand-is lower)

  -- ---- dispatch

  module _ (buffer other : List ℕ) (room : 92 ≤ length buffer) (n : ℕ) (e : (dispatched higher other).answer ≡ Ok n) where
    promise : Promise lower (dispatched lower buffer)
    promise = demand3 lower buffer two.accepted room

    replied_higher : ReplyPromise (case_of higher) (reply_in (dispatched higher other).reply)
    replied_higher = (demand3 higher other two.accepted' (replied higher other n e).room).reply (λ z. let f : Err _ ≡ Ok n = sym z ∙ e in absurd (let w : ◌≡◌ {A = ℕ} 0 1 = cc in omega arith))

    solves : solvable q ≡ true
    solves = (case-accepted higher (replied higher other n e).accepted).1

    -- what covers the higher demand covers the lower
    not-refused : ¬ ((dispatched lower buffer).answer ≡ Err NoAllocation)
    not-refused z =
        let ps = (reply_in (dispatched higher other).reply).outputs in
        let h = replied_higher in
        let permitted = subst (λ (us : List Unit). allocation us ps ≡ true) (sym two.units) h.permitted in
        let net = ap (λ (us : List Unit). total_net us ps) two.units in
        promise.refuses.0 z ps permitted (le-leb (100000000 * (case_of lower).demand) (total_net (case_of lower).units ps) (omega (arith, leb-true (100000000 * (case_of higher).demand) (total_net (case_of higher).units ps) h.covering, net, two.demands, demand-is lower, demand-is higher)))

    replied-lower : ReplyPromise (case_of lower) (reply_in (dispatched lower buffer).reply)
    replied-lower = promise.reply not-refused

    proper : Every Proper q.offers
    proper = case-proper (case_of higher) (units-sound higher two.accepted')

    units-count : length (case_of lower).units ≡ count lower
    unfolding case_of
    units-count = length-each (count lower) (unit_at lower)

    best : total_cost (case_of lower).units (found (problem_in lower)).best ≤ total_cost (case_of higher).units (found q).best
    best =
        let l = lesser q (demand lower) fewer in
        omega (arith, best-lesser q (demand lower) fewer proper solves, same-cost (case_of higher) (found l).best, same-cost (case_of higher) (found q).best, ap (λ (us : List Unit). total_cost us (found (problem_in lower)).best) two.units, ap (λ (x : Problem). total_cost (case_of higher).units (found x).best) problem)

    no_dearer : NoDearer (count lower) (dispatched lower buffer) (dispatched higher other)
    no_dearer =
        let p = replied-lower in
        let h = replied_higher in
        let r = reply_in (dispatched lower buffer).reply in
        let r' = reply_in (dispatched higher other).reply in
        let g = p.greatest_floor in
        let low : floor g.one.0 (problem_in lower) ≤ℤ floor g.one.0 q = rw problem (floor-lesser q (demand lower) fewer g.one.0) in
        let top = h.greatest_floor.greatest g.one.0 g.one.1 in
        record {
          solved = promise.replies not-refused ∙ ap (λ (k : ℕ). Ok (28 + 2 * k)) units-count;
          cost = omega (arith, p.cost, h.cost, best, ap (total_cost (case_of lower).units) p.bisection, ap (total_cost (case_of higher).units) h.bisection);
          floor = rw (← g.one.2) (omega (arith, ints, low, top));
        }

pub never_cheaper : MoreLoadNeverCheaper dispatched
never_cheaper lower higher buffer other n two room e = no_dearer lower higher two buffer other room n e

-- ---- pricing

-- a file that is priced is accepted, by step 1 too, and its value is the dual value
record Valued (file : List ℕ) (m : ℕ) (z : ℤ) (covered : Bool) : Type 0 where
  multiplier : m ≤ 65536
  solves : solvable (problem_in file) ≡ true
  dual : dual_value m (problem_in file) ≡ z
  choice : covers (problem_in file).demand (total_net (units_of (problem_in file)) (choices m (problem_in file))) ≡ covered

valued : (file : List ℕ) (m : ℕ) (z : ℤ) (covered : Bool) → priced file m ≡ Ok (record { dual = z; covers = covered }) → Valued file m z covered
unfolding priced price_verdict price_ends
valued file m z covered = by (price_verdict file m) refl
  where
    by : (v : Verdict) → price_verdict file m ≡ v → price_ends v file m ≡ Ok (record { dual = z; covers = covered }) → Valued file m z covered
    by (Err r) k e = absurd (let w : ◌≡◌ {A = ℕ} 0 1 = cc in omega arith)
    by (Ok _) k e =
        let both = (then_accepted (ltb 65536 m refuses MultiplierOutOfRange) (case_verdict file)).0 k in
        let same : ◌≡◌ {A = Priced} (record { dual = dual_value m (problem_in file); covers = covers (problem_in file).demand (total_net (units_of (problem_in file)) (choices m (problem_in file))) }) (record { dual = z; covers = covered }) = cc in
        record { multiplier = ltb-false 65536 m ((refuses-accepted (ltb 65536 m) MultiplierOutOfRange).0 both.0); solves = (case-accepted file both.1).1; dual = ap (λ (p : Priced). p.dual) same; choice = ap (λ (p : Priced). p.covers) same }

priced-is : (file : List ℕ) (m : ℕ) → m ≤ 65536 → file_verdict file ≡ Ok tt → solvable (problem_in file) ≡ true → priced file m ≡ Ok (record { dual = dual_value m (problem_in file); covers = covers (problem_in file).demand (total_net (units_of (problem_in file)) (choices m (problem_in file))) })
unfolding priced price_verdict price_ends case_verdict
priced-is file m h accepted solves = rw (le-ltb 65536 m h, accepted, solves)

pub no_lower_dual : MoreLoadNoLowerDual priced
no_lower_dual lower higher m z covered two e =
    let v = valued higher m z covered e in
    let q = problem_in higher in
    let few = fewer lower higher two in
    let same = problem lower higher two in
    let l = lesser q (demand lower) few in
    record {
      dual = dual_value m (problem_in lower);
      covers = covers (problem_in lower).demand (total_net (units_of (problem_in lower)) (choices m (problem_in lower)));
      valued = priced-is lower m v.multiplier two.accepted (rw same (lesser-solvable q (demand lower) few v.solves));
      least = rw (← v.dual) (rw same (dual-lesser q (demand lower) few m));
      covering = λ c. rw same (covers-lesser q (demand lower) few m (v.choice ∙ c));
    }
