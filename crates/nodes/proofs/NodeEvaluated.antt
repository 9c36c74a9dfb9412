-- A node evaluated, by how: closed, without an allocation, or with its dispatch known, which the search takes if it is cheaper than the best.
use Prim.Native.Nat.{ℕ, suc, ◌+◌, ◌-◌, ◌≤◌, ◌<◌, max}
use native.Mathlib.Omega.{arith}
use native.Mathlib.Numerals.{add-one}
use mathlib.Core.Path.{◌≡◌, refl, sym, ap, ap₂, subst, ◌∙◌}
use mathlib.Core.Bool.{Bool, true, false, cond, ◌&&◌}
use mathlib.Core.List.{List, map}
use mathlib.Core.Logic.{⊎_elim}
use lib.Dec.{ltb}
use lib.IntN.{ℤ}
use lib.ListN.{take}
use borrow.Author.Tests.{lt-ltb, le-ltb}
use Rattle.std.specs.Prelude.{Some, None}
use Rattle.rules.specs.Numbers.{natural}
use Rattle.rules.specs.Problem.{total_cost, total_net, Problem, units_of, target}
use Rattle.rules.specs.Choice.{choice, choices, least_tied, floor}
use Rattle.rules.specs.Bisection.{Reply, greatest_outputs, solvable, found, reply_of, solve}
use Rattle.evaluation.specs.Clauses.{HoldsOutputs, Allocates, Dualable, Covering}
use Rattle.evaluation.proofs.Offers.{held-proper, held-available}
use Rattle.bisection.specs.declared.steps.Allocation as code-allocation
use Rattle.bisection.specs.declared.steps.Found as code-found
use Rattle.bisection.specs.Clauses.{sums_of, Holding, Searches}
use Rattle.branching.specs.Branching.{Progress, evaluated, least_or}
use Rattle.branching.specs.Nodes.{NodeUnit, problem_at, tree}
use Rattle.branching.proofs.Visits.{least_with}
use Rattle.sums.specs.declared.Totals.{Totals}
use Rattle.sums.specs.Sums.{HoldsSums}
use Rattle.sums.proofs.Summed.{untied, sums-sized}
use Rattle.nodes.specs.declared.Progress as code-progress
use Rattle.nodes.specs.declared.Node as code-node
use Rattle.nodes.specs.declared.Seen as code-seen
use Rattle.nodes.specs.declared.NodeEvaluation as code-evaluation
use Rattle.nodes.specs.declared.Dispatch as code-dispatch
use Rattle.nodes.specs.declared.Searched as code-searched
use Rattle.nodes.specs.Clauses.{totals_of, SumsAt, Confirms, KnownFloor, HoldsProgress, Dispatches, taken_at, SearchesNode, EvaluatedAt}
use Rattle.nodes.proofs.Confirmed.{confirmed_best, confirmed_floor}
use Rattle.nodes.proofs.TwoMultipliers.{cost_summed, net_summed, floor-natural, floor_proves, covered-solvable, natural-rises}

-- ---- what is stated of the outputs that a search found

stated : (q : Problem) → ((solve q).outputs ≡ (found q).best) × ((solve q).cost ≡ total_cost (units_of q) (found q).best) × ((solve q).surplus ≡ total_net (units_of q) (found q).best - target q)
unfolding solve reply_of
stated q = (refl, refl, refl)

-- ---- its dispatch is known, by a search

module _ {coefficients ends ranges : List ℕ} {n t : ℕ} {first : code-allocation.Allocation} {f : code-found.Found} {trace : List ℤ} (s : Searches (Holding coefficients ends ranges n t) n first f trace) (q : Problem) (h : Holding coefficients ends ranges n t q) (solves : solvable q ≡ true) (g : HoldsOutputs q (greatest_outputs q) first.outputs (sums_of first)) where
  pub searched-dispatch : {m x : ℕ} → x ≡ natural f.floor → Dispatches q (record { cost = f.best.cost; surplus = f.best.net - t; floor = x; multiplier = m })
  searched-dispatch e =
      let r = (s.held q h g).found in
      record {
        solves = solves;
        cost = r.best.cost ∙ sym (stated q).1;
        surplus = ap₂ (λ (x y : ℕ). x - y) r.best.net h.demanded ∙ sym (stated q).2;
        floor = e ∙ ap natural r.floor ∙ sym (floor-natural q (held-proper h.problem) solves);
      }

  pub searched-outputs : take n f.best.outputs ≡ (solve q).outputs
  searched-outputs = subst (λ (k : ℕ). take k f.best.outputs ≡ (found q).best) h.problem.count (s.held q h g).found.best.places ∙ sym (stated q).0

-- from step 1 on
pub dispatched-first : {coefficients ends ranges outputs : List ℕ} {n t c w : ℕ} {r : code-searched.Searched} → Covering coefficients ends ranges n t outputs c w → SearchesNode coefficients ends ranges n t (record { outputs = outputs; cost = c; net = w }) r → {q : Problem} → Holding coefficients ends ranges n t q → Dispatches q r.dispatch × (take n r.outputs ≡ (solve q).outputs)
unfolding greatest_outputs
dispatched-first f s {q} h = s.dispatches q h (f.solves q h.problem h.demanded) (f.allocates.held q h.problem)

-- ---- by two multipliers

-- sums of choices in range
pub sums-dualable : {coefficients ends ranges : List ℕ} {n t m : ℕ} {q : Problem} {r : Totals} → Holding coefficients ends ranges n t q → HoldsSums m q.offers r → m ≤ 65536 → Dualable (totals_of r) t m
sums-dualable {q = q} h s few =
    let z = sums-sized (held-available h.problem) s in
    record {
      sized = record { cost = omega (arith, z.cost, h.problem.count, h.problem.few); net = omega (arith, z.net, h.problem.count, h.problem.few) };
      target = omega (arith, h.demanded, h.problem.demand);
      multiplier = few;
    }

module _ {coefficients ends ranges : List ℕ} {n t : ℕ} {x : code-node.Node} (few : x.multiplier ≤ 65535) (q : Problem) (h : Holding coefficients ends ranges n t q) (sums : SumsAt q.offers x) {f : ℕ} (known : KnownFloor x t f) where
  known_is : f ≡ max (natural (floor x.multiplier q)) (natural (floor (x.multiplier + 1) q))
  known_is = known q sums h.demanded

  -- its floor is at most that of the dispatch
  pub known_proves : solvable q ≡ true → f ≤ (solve q).cost - (solve q).gap
  known_proves solves =
      let proper = held-proper h.problem in
      omega (arith, known_is, floor_proves q proper solves x.multiplier (omega (arith, few)), floor_proves q proper solves (x.multiplier + 1) (omega (arith, few)))

  module _ (c : Confirms x.low x.high t) where
    covers : target q ≤ total_net (units_of q) (choices (x.multiplier + 1) q)
    covers = omega (arith, c.covers, h.demanded, net_summed (x.multiplier + 1) q sums.high)

    solves : solvable q ≡ true
    solves = covered-solvable (x.multiplier + 1) q (held-proper h.problem) (held-available h.problem) covers

    next : x.multiplier + 1 ≡ suc x.multiplier
    next = add-one x.multiplier

    short : total_net (units_of q) (choices x.multiplier q) < target q
    short = omega (arith, c.short, h.demanded, net_summed x.multiplier q sums.low)

    covers' : target q ≤ total_net (units_of q) (choices (suc x.multiplier) q)
    covers' = subst (λ (k : ℕ). target q ≤ total_net (units_of q) (choices k q)) next covers

    alone : map (least_tied (suc x.multiplier)) q.offers ≡ map (choice (suc x.multiplier)) q.offers
    alone = subst (λ (k : ℕ). map (least_tied k) q.offers ≡ map (choice k) q.offers) next (untied (x.multiplier + 1) q.offers (sym sums.high.ties ∙ c.alone))

    best : (found q).best ≡ choices (x.multiplier + 1) q
    best = confirmed_best q (held-proper h.problem) solves x.multiplier (omega (arith, few)) short covers' alone ∙ ap (λ (k : ℕ). choices k q) (sym next)

    floor-is : f ≡ (solve q).cost - (solve q).gap
    floor-is =
        let proper = held-proper h.problem in
        let two = confirmed_floor q proper solves x.multiplier (omega (arith, few)) short covers' alone in
        let upper : natural (floor (suc x.multiplier) q) ≡ natural (floor (x.multiplier + 1) q) = ap (λ (k : ℕ). natural (floor k q)) (sym next) in
        let most : (solve q).cost - (solve q).gap ≤ f = ⊎_elim (λ l. omega (arith, known_is, floor-natural q proper solves, natural-rises _ _ l)) (λ l. omega (arith, known_is, upper, floor-natural q proper solves, natural-rises _ _ l)) two.2 in
        omega (arith, most, known_proves solves)

    pub confirmed_dispatch : {k : ℕ} → Dispatches q (record { cost = x.high.cost; surplus = x.high.net - t; floor = f; multiplier = k })
    confirmed_dispatch =
        record {
          solves = solves;
          cost = cost_summed (x.multiplier + 1) q sums.high ∙ ap (total_cost (units_of q)) (sym best) ∙ sym (stated q).1;
          surplus = ap₂ (λ (a b : ℕ). a - b) (net_summed (x.multiplier + 1) q sums.high ∙ ap (total_net (units_of q)) (sym best)) h.demanded ∙ sym (stated q).2;
          floor = floor-is;
        }

    pub confirmed_outputs : {outputs : List ℕ} {c w : ℕ} → Allocates (choice (x.multiplier + 1)) coefficients ends ranges n outputs (record { cost = c; net = w }) → take n outputs ≡ (solve q).outputs
    unfolding choices
    confirmed_outputs {outputs} a = subst (λ (k : ℕ). take k outputs ≡ map (choice (x.multiplier + 1)) q.offers) h.problem.count (a.held q h.problem).places ∙ sym best ∙ sym (stated q).0

-- ---- what is seen of a node whose dispatch is taken

seen-is : {a v : code-seen.Seen} → Some a ≡ Some v → v ≡ a
seen-is e = cc

pub seen_multiplier : {a v : code-seen.Seen} → Some a ≡ Some v → a.multiplier ≤ 65535 → v.multiplier ≤ 65535
seen_multiplier q h = omega (arith, h, ap (λ (w : code-seen.Seen). w.multiplier) (seen-is q))

-- ---- what the search then has

-- which of the two is the best
best-is : (d : ℕ) (y : List NodeUnit) (p : Progress Reply) → solvable (problem_at d y) ≡ true → (b : Bool) → ltb (solve (problem_at d y)).cost p.best.cost ≡ b → (evaluated (tree d) y p).best ≡ cond b (solve (problem_at d y)) p.best
best-is d y p solves b l = ap₂ (λ (u v : Bool). cond (u && v) (solve (problem_at d y)) p.best) solves l

module _ {n parent d : ℕ} {y : List NodeUnit} {p : Progress Reply} {s : code-progress.Progress} where
  module _ {e : code-dispatch.Dispatch} (k : Dispatches (problem_at d y) e) where
    -- the dispatch is cheaper
    pub takes_cheaper : {before best : List ℕ} → HoldsProgress n p s before → e.cost < s.cost → take n best ≡ (solve (problem_at d y)).outputs → EvaluatedAt n parent d y p (taken_at parent s e) best
    takes_cheaper {before} {best} h l o =
        let same = best-is d y p k.solves true (lt-ltb (solve (problem_at d y)).cost p.best.cost (omega (arith, k.cost, h.cost))) in
        let cheaper = lt-ltb e.cost s.cost l in
        record {
          seen = λ v q.
              record {
                solves = k.solves;
                floor = ap (λ (w : code-seen.Seen). w.floor) (seen-is q) ∙ ap (max parent) k.floor;
                progress =
                    rw cheaper
                    (record {
                      visited = omega (arith, h.visited);
                      cost = k.cost ∙ ap (λ (r : Reply). r.cost) (sym same);
                      surplus = k.surplus ∙ ap (λ (r : Reply). r.surplus) (sym same);
                      outputs = o ∙ ap (λ (r : Reply). r.outputs) (sym same);
                      bound =
                          let lower = least_with (solve (problem_at d y)).cost p.best.cost p.floors (omega (arith, k.cost, h.cost)) in
                          omega (arith, k.cost, h.cost, h.bound, lower) ∙ ap (λ (r : Reply). least_or r.cost p.floors) (sym same);
                    });
              };
          closed = λ z. (cc);
        }

    -- the best stays
    pub takes_none : {best : List ℕ} → HoldsProgress n p s best → s.cost ≤ e.cost → EvaluatedAt n parent d y p (taken_at parent s e) best
    takes_none {best} h l =
        let same = best-is d y p k.solves false (le-ltb (solve (problem_at d y)).cost p.best.cost (omega (arith, k.cost, h.cost))) in
        let dearer = le-ltb e.cost s.cost l in
        record {
          seen = λ v q.
              record {
                solves = k.solves;
                floor = ap (λ (w : code-seen.Seen). w.floor) (seen-is q) ∙ ap (max parent) k.floor;
                progress =
                    rw dearer
                    (record {
                      visited = omega (arith, h.visited);
                      cost = h.cost ∙ ap (λ (r : Reply). r.cost) (sym same);
                      surplus = h.surplus ∙ ap (λ (r : Reply). r.surplus) (sym same);
                      outputs = h.outputs ∙ ap (λ (r : Reply). r.outputs) (sym same);
                      bound = h.bound ∙ ap (λ (r : Reply). least_or r.cost p.floors) (sym same);
                    });
              };
          closed = λ z. (cc);
        }

  -- the node only counts
  pub counts_only : {best : List ℕ} {r : code-evaluation.NodeEvaluation} → HoldsProgress n p s best → (solvable (problem_at d y) ≡ true → p.best.cost ≤ (solve (problem_at d y)).cost - (solve (problem_at d y)).gap) → r.seen ≡ None → r.progress ≡ record { visited = s.visited + 1; cost = s.cost; surplus = s.surplus; floor = s.floor } → EvaluatedAt n parent d y p r best
  counts_only {best} {r} h reaches e f =
      record {
        seen = λ v z. (cc);
        closed = λ _. record { reaches = reaches; progress = rw f (record { visited = omega (arith, h.visited); cost = h.cost; surplus = h.surplus; outputs = h.outputs; bound = h.bound }) };
      }
