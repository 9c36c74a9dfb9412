-- The trace that the search leaves for an accepted case: as many pairs as there were evaluations, each in range.
use Rattle.std.specs.Prelude.{Ok}
use Prim.Native.Nat.{ℕ, ◌≤◌, ◌<◌}
use native.Mathlib.Nat.{mul-le-mul}
use native.Mathlib.Decide.{ℕ_discrete}
use native.Mathlib.Omega.{arith}
use mathlib.Core.Path.{◌≡◌, refl, sym, ap, ◌∙◌}
use mathlib.Core.List.Memᴰ
use mathlib.Core.List.{List, [], ◌∷◌, Memᴰ}
use lib.IntN.{ℤ, pos}
use lib.ListN.{length}
use Rattle.fields.proofs.Integers.{up_is, dn_is, is_pos}
use Rattle.rules.specs.Layout.{case_of}
use Rattle.rules.specs.Problem.{total_cost, total_net, Problem, units_of, target, problem_in}
use Rattle.rules.specs.Choice.{choices, dual_value}
use Rattle.rules.specs.Bisection.{found}
use Rattle.rules.specs.Calls.{case_verdict}
use Rattle.rules.specs.Lists.{Every}
use Rattle.rules.specs.Sound.{Sound}
use Rattle.rules.proofs.Encoding.SoundFile.{units-sound}
use Rattle.rules.specs.Offers.{Available}
use Rattle.rules.proofs.Economics.Allocations.{tied-given, choices_tied, dual-is}
use Rattle.rules.proofs.Economics.Search.{Seen}
use Rattle.rules.proofs.Economics.Solvable.{case-proper, solvable-available}
use Rattle.rules.proofs.Economics.Solution.{evaluated, same-cost, same-net, given-permitted}
use Rattle.rules.proofs.Economics.Totals.{total_cost_range, total_net_range}
use Rattle.rules.proofs.Demand3.{case-accepted, allocation-small}
use Rattle.rules.proofs.Replied.{few-units}
use Rattle.evaluation.specs.Clauses.{First}
use Rattle.bisection.specs.declared.steps.Found as code-found
use Rattle.bisection.specs.Clauses.{Holding, multiplier_at, dual_at, Traces, Searches}
use Rattle.bisection.proofs.Starting.{holding, greatest-held}
use Rattle.sensitivity.specs.Clauses.{PairInRange, Traced}

-- a pair of the trace is a multiplier of the list with its dual value
pub record PairOf (q : Problem) (ms : List ℕ) (trace : List ℤ) (k : ℕ) : Type 0 where
  pub m : ℕ
  pub member : Memᴰ m ms
  pub multiplier : multiplier_at trace k ≡ pos m
  pub dual : dual_at trace k ≡ dual_value m q

pair_of : (q : Problem) (ms : List ℕ) (trace : List ℤ) → Traces q ms trace → (k : ℕ) → k < length ms → PairOf q ms trace k
pair_of q [] trace t k h = absurd (omega arith)
pair_of q (m ∷ ms) trace t k h = by (ℕ_discrete k (length ms)) (λ l. pair_of q ms trace t.2 k l)
  where
    further : PairOf q ms trace k → PairOf q (m ∷ ms) trace k
    further p = record { m = p.m; member = Memᴰ.tail p.member; multiplier = p.multiplier; dual = p.dual }

    by : Dec (k ≡ length ms) → (k < length ms → PairOf q ms trace k) → PairOf q (m ∷ ms) trace k
    by (yes e) rest = record { m = m; member = Memᴰ.head refl; multiplier = ap (multiplier_at trace) e ∙ t.0; dual = ap (dual_at trace) e ∙ t.1 }
    by (no n) rest = further (rest (omega arith))

some-member : {m : ℕ} {ms : List ℕ} → Memᴰ m ms → 1 ≤ length ms
some-member {ms = []} i = absurd (Memᴰ.not-nil i)
some-member {ms = n ∷ ms} i = omega arith

-- ---- of an accepted case

module _ (file : List ℕ) (e : case_verdict file ≡ Ok tt) where
  abbrev q : Problem
  q = problem_in file

  sound : Every Sound (case_of file).units
  sound = units-sound file (case-accepted file e).0

  available : Every Available q.offers
  available = solvable-available q (case-proper (case_of file) sound) (case-accepted file e).1

  pub seen : Seen (found q).evaluated
  seen = evaluated q (case-proper (case_of file) sound) (case-accepted file e).1

  -- a dual value in range, for a demand in range
  dual_in_range : (m : ℕ) → m ≤ 65536 → target q ≤ 32000000000000 → PairInRange (pos m) (dual_value m q)
  dual_in_range m h t =
      let c = case_of file in
      let ps = choices m q in
      let small = allocation-small c.units ps sound (given-permitted c ps (tied-given m q.offers ps (choices_tied m q available))) in
      let few = few-units file e in
      let cost : total_cost (units_of q) ps ≤ 6432000000000 = omega (arith, same-cost c ps, total_cost_range c.units ps sound small) in
      let net : total_net (units_of q) ps ≤ 35200000000000 = omega (arith, same-net c ps, total_net_range c.units ps sound small) in
      let i = dual-is m q in
      record {
        multiplier = omega (arith, up_is (is_pos m));
        natural = omega (arith, dn_is (is_pos m));
        above = omega (arith, up_is i, mul-le-mul h t);
        below = omega (arith, dn_is i, mul-le-mul h net);
      }

module _ {file coefficients ends ranges outputs : List ℕ} {n t c w : ℕ} (f : First file coefficients ends ranges outputs n t c w) {r : code-found.Found} {trace : List ℤ} (s : Searches (Holding coefficients ends ranges n t) n (record { outputs = outputs; cost = c; net = w }) r trace) (room : 36 ≤ length trace) where
  pub search_traces : Traces (problem_in file) (found (problem_in file)).evaluated trace
  search_traces = (s.held (problem_in file) (holding f) (greatest-held f)).traced room

  pub counted : length (found (problem_in file)).evaluated ≡ r.evaluations
  counted = sym (s.held (problem_in file) (holding f) (greatest-held f)).found.evaluations

  pub small-target : t ≤ 32000000000000
  small-target = omega (arith, f.site.demanded, f.site.holds.demand)

  pub traced : Traced trace r.evaluations
  traced =
      record {
        some = omega (arith, counted, some-member (seen file f.accepted).zero_seen);
        few = s.few;
        room = room;
        pairs = λ k h.
            let p = pair_of (problem_in file) (found (problem_in file)).evaluated trace search_traces k (omega (arith, counted)) in
            rw (p.multiplier, p.dual) (dual_in_range file f.accepted p.m ((seen file f.accepted).within p.m p.member) (omega (arith, f.site.demanded, f.site.holds.demand)));
      }
