-- What holds of every judgement: accepted exactly where the outputs are permitted and cover, at a distance from the greatest of all floors; and a dispatch's own outputs at its own cost, surplus and gap.
use Rattle.std.specs.Prelude.{Ok, Err}
use Prim.Native.Nat.{ℕ, ◌*◌, ◌-◌, ◌≤◌}
use native.Mathlib.Omega.{arith}
use mathlib.Core.Path.{◌≡◌, refl, sym, ap₂, subst, ◌∙◌}
use mathlib.Core.Bool.{Bool, true, false, cond, true≢false}
use mathlib.Core.List.{List}
use lib.IntN.{ℤ, pos, ◌-ℤ◌}
use lib.ListN.{length}
use lib.Signed.{◌≤ℤ◌}
use borrow.Author.Tests.{leb-true}
use Rattle.fields.proofs.Integers.{is_pos, is_minus, up_is, ints}
use Rattle.rules.specs.Numbers.{natural}
use Rattle.rules.specs.Layout.{Case, case_of}
use Rattle.rules.specs.Problem.{total_cost, total_net, problem_of}
use Rattle.rules.specs.Choice.{greatest_floor}
use Rattle.rules.specs.Bisection.{solvable}
use Rattle.rules.specs.Refusal.{file_verdict, Verdict}
use Rattle.rules.specs.Calls.{case_verdict, dispatched}
use Rattle.rules.specs.Promise.{Permitted, Covering, ReplyPromise, cost_less_gap, reply_in}
use Rattle.rules.specs.declared.Refusal.TheVariants.{NoAllocation}
use Rattle.rules.specs.Lists.{Every}
use Rattle.rules.specs.Sound.{Sound}
use Rattle.rules.proofs.Encoding.SoundFile.{units-sound}
use Rattle.rules.proofs.Economics.Quantities.{natural-up}
use Rattle.rules.proofs.Economics.Solvable.{case-proper, unsolvable}
use Rattle.rules.proofs.Economics.Solution.{gap-exact, same-cost, covering-net, permitted-given, floor_at_most, greatest-floor, greatest_floor_not_negative}
use Rattle.rules.proofs.Economics.Totals.{total_cost_range, total_net_range}
use Rattle.rules.proofs.Demand3.{case-accepted, allocation-length, allocation-small, demand3}
use Rattle.rules.proofs.Replied.{few-units, replied}
use Rattle.std.specs.Prelude.{Ok, Some, None}
use Rattle.judging.specs.declared.Judgement as code-judgement
use Rattle.judging.specs.Judging.{acceptable, multipliers, told, judge_verdict, judge_ends, judged}
use Rattle.judging.specs.Clauses.{SmallAnswer}
use Rattle.judging.specs.Claims.{Told, Judgement, Judges, AcceptsDispatch, NotBelowDispatch, AcceptsExactly, OneBound}
use Rattle.judging.proofs.Floors.{all-floors}
use Rattle.judging.proofs.Judgements.{acceptable-is, floors-evaluated, verdict-parts, judged-is}

-- ---- of a case

module _ (c : Case) (ps : List ℕ) (sound : Every Sound c.units) (solves : solvable (problem_of c) ≡ true) where
  abbrev answer : code-judgement.Judgement
  answer = record { cost = total_cost c.units ps; surplus = total_net c.units ps - 100000000 * c.demand; distance = natural (pos (total_cost c.units ps) -ℤ greatest_floor (problem_of c) multipliers) }

  -- whatever is permitted and covers costs at least the greatest floor
  bounded : (qs : List ℕ) → Permitted c qs → Covering c qs → greatest_floor (problem_of c) multipliers ≤ℤ pos (total_cost c.units qs)
  bounded qs a k =
      rw (floors-evaluated c qs sound solves, ← same-cost c qs)
      (floor_at_most (problem_of c) (case-proper c sound) solves qs (permitted-given c qs a) (covering-net c qs k))

  module _ (permitted : Permitted c ps) (covering : Covering c ps) where
    difference : pos answer.cost -ℤ pos answer.distance ≡ greatest_floor (problem_of c) multipliers
    difference = gap-exact answer.cost (greatest_floor (problem_of c) multipliers) (bounded ps permitted covering)

    told-holds : Told c ps answer
    told-holds =
        record {
          permitted = permitted;
          covering = covering;
          costs = refl;
          surplus-is = omega (arith, leb-true (100000000 * c.demand) (total_net c.units ps) covering);
          greatest_floor = rw (difference, floors-evaluated c ps sound solves) (greatest-floor (problem_of c) (case-proper c sound) solves);
          nobody_spends_less = λ qs a k. rw difference (bounded qs a k);
        }

  told_is : told c ps ≡ answer
  unfolding told
  told_is = refl

  judgement : Judgement c ps (Ok (cond (acceptable c ps) (Some (told c ps)) None))
  judgement = by (acceptable c ps) refl
    where
      by : (t : Bool) → acceptable c ps ≡ t → Judgement c ps (Ok (cond t (Some (told c ps)) None))
      by true e =
          let (permitted, covering) = (acceptable-is c ps).0 e in
          record {
            accepts = (λ _. (told c ps, refl), λ _. (permitted, covering));
            rejects = (λ none. absurd (none permitted covering), λ n. absurd (cc));
            tells = λ j a. subst (Told c ps) (sym told_is ∙ (let same : told c ps ≡ j = cc in same)) (told-holds permitted covering);
          }
      by false e =
          record {
            accepts = (λ p. absurd (true≢false (sym ((acceptable-is c ps).1 p) ∙ e)), λ (j, a). absurd (cc));
            rejects = (λ _. refl, λ _ a k. true≢false (sym ((acceptable-is c ps).1 (a, k)) ∙ e));
            tells = λ j a. absurd (cc);
          }

-- ---- of a file

pub judges : Judges judged
judges file ps accepted each =
    let both = case-accepted file accepted in
    subst (Judgement (case_of file) ps) (sym (judged-is file ps accepted each)) (judgement (case_of file) ps (units-sound file both.0) both.1)

-- a dispatch that replied: its promise, of the reply's bytes
promised : (file buffer : List ℕ) (n : ℕ) → (dispatched file buffer).answer ≡ Ok n → ReplyPromise (case_of file) (reply_in (dispatched file buffer).reply)
promised file buffer n e =
    let r = replied file buffer n e in
    let p = demand3 file buffer (case-accepted file r.accepted).0 r.room in
    p.reply (λ f. absurd (let z : ◌≡◌ {A = ℕ} 0 1 = differ (sym e ∙ f) in omega arith))
  where
    differ : Ok n ≡ Err NoAllocation → ◌≡◌ {A = ℕ} 0 1
    differ g = cc

-- what is left of a cost less what is left of it less the gap
gap-again : (n g : ℕ) → natural (pos n -ℤ (pos n -ℤ pos g)) ≡ g
gap-again n g =
    natural-up (pos n -ℤ (pos n -ℤ pos g)) ∙ up_is (is_minus (is_pos n) (is_minus (is_pos n) (is_pos g))) ∙ omega arith

pub accepts-dispatch : AcceptsDispatch judged
unfolding told
accepts-dispatch file buffer n e =
    let c = case_of file in
    let r = reply_in (dispatched file buffer).reply in
    let p = promised file buffer n e in
    let accepted = (replied file buffer n e).accepted in
    let floors : greatest_floor (problem_of c) multipliers ≡ cost_less_gap r = all-floors (problem_of c) (cost_less_gap r) p.greatest_floor in
    let cost : total_cost c.units r.outputs ≡ r.cost = sym p.cost in
    let surplus : total_net c.units r.outputs - 100000000 * c.demand ≡ r.surplus = omega (arith, p.surplus) in
    let distance : natural (pos (total_cost c.units r.outputs) -ℤ greatest_floor (problem_of c) multipliers) ≡ r.gap =
    ap₂ (λ (k : ℕ) (z : ℤ). natural (pos k -ℤ z)) cost floors ∙ gap-again r.cost r.gap in
    judged-is file r.outputs accepted (allocation-length c.units r.outputs p.permitted)
    ∙ rw ((acceptable-is c r.outputs).1 (p.permitted, p.covering)) (λ i. Ok (Some (record { cost = cost i; surplus = surplus i; distance = distance i })))

-- ---- what an accepted answer tells of the call

answered : (file ps : List ℕ) (j : code-judgement.Judgement) → judged file ps ≡ Ok (Some j) → (case_verdict file ≡ Ok tt) × (length ps ≡ length (case_of file).units)
unfolding judged judge_ends
answered file ps j e = verdict-parts file ps (by (judge_verdict file ps) e)
  where
    by : (v : Verdict) → judge_ends v file ps ≡ Ok (Some j) → v ≡ Ok tt
    by (Ok _) f = refl
    by (Err r) f = absurd (cc)

pub not_below_dispatch : NotBelowDispatch judged
not_below_dispatch file ps buffer n j e f =
    let (accepted, each) = answered file ps j f in
    let t = (judges file ps accepted each).tells j f in
    rw t.costs ((promised file buffer n e).nobody_spends_less ps t.permitted t.covering)

-- outputs that cover leave step 1 nothing to refuse
passes : (file ps : List ℕ) → file_verdict file ≡ Ok tt → Permitted (case_of file) ps → Covering (case_of file) ps → case_verdict file ≡ Ok tt
unfolding case_verdict
passes file ps f a k = by (solvable (problem_of (case_of file))) refl
  where
    by : (t : Bool) → solvable (problem_of (case_of file)) ≡ t → case_verdict file ≡ Ok tt
    by true e = rw (f, e)
    by false e = absurd (omega (arith, unsolvable (problem_of (case_of file)) (case-proper (case_of file) (units-sound file f)) e ps (permitted-given (case_of file) ps a), covering-net (case_of file) ps k))

pub accepts_exactly : AcceptsExactly judged
accepts_exactly file ps f = (
  (λ (a, k). (judges file ps (passes file ps f a k) (allocation-length (case_of file).units ps a)).accepts.0 (a, k)),
  λ (j, e). let (accepted, each) = answered file ps j e in (judges file ps accepted each).accepts.1 (j, e),
)

pub one-bound : OneBound judged
one-bound file ps buffer n j e f =
    let (accepted, each) = answered file ps j f in
    let t = (judges file ps accepted each).tells j f in
    sym (all-floors (problem_of (case_of file)) _ t.greatest_floor) ∙ all-floors (problem_of (case_of file)) _ (promised file buffer n e).greatest_floor

-- ---- the numbers that are told are in range

pub told-small : (file ps : List ℕ) (j : code-judgement.Judgement) → judged file ps ≡ Ok (Some j) → SmallAnswer j.cost j.surplus j.distance
told-small file ps j f =
    let c = case_of file in
    let (accepted, each) = answered file ps j f in
    let (whole, solves) = case-accepted file accepted in
    let sound = units-sound file whole in
    let t = (judges file ps accepted each).tells j f in
    let small = allocation-small c.units ps sound t.permitted in
    let few = few-units file accepted in
    let floor : pos 0 ≤ℤ (pos j.cost -ℤ pos j.distance) = rw (← all-floors (problem_of c) (pos j.cost -ℤ pos j.distance) t.greatest_floor, floors-evaluated c ps sound solves) (greatest_floor_not_negative (problem_of c) (case-proper c sound) solves) in
    let costs : j.cost ≤ 6432000000000 = omega (arith, t.costs, total_cost_range c.units ps sound small, few) in
    record {
      cost = costs;
      surplus = omega (arith, t.surplus-is, total_net_range c.units ps sound small, few);
      distance = omega (arith, ints, floor, is_pos 0, is_minus (is_pos j.cost) (is_pos j.distance), costs);
    }
