-- Each way out of a turn is one of its outcomes (`Searching`), of what the evaluation takes (`Selecting`).
use Rattle.std.proofs.Common.{◌≡◌, ◌+◌, ◌%◌, ◌≤◌, cond, to_z, of_z, w64, refl, rules, arith}
use Rattle.std.specs.Int.Signed.{le_z}
use Rattle.rules.specs.Numbers.{divided_up}
use Rattle.bisection.specs.Clauses.{recorded}
use Rattle.bisection.proofs.Selecting.{lowerable, selects, selects-lowered, lowered-covers}
use Rattle.bisection.proofs.Searching.{reached-starts, stops_at_zero, stops-equal, goes_below, stops_at_top, goes_above, adjacent, stopped, spent}
use Rattle.bisection.proofs.steps.search_from.Goals as goal
use Rattle.bisection.proofs.steps.search_from.Goals.{then-free-via-then-free, then-free-via-else-free+then-net-site}

pub loop-outputs-init : goal.loop-outputs-init
loop-outputs-init c = record { reached = reached-starts c.requires.1; few = c.requires.1.asked; empty = refl }

pub lower-cost-requires : goal.lower-cost-requires
lower-cost-requires c = lowerable _ _ c.evaluate-cost.ensures c.requires.0 (search rules) (search rules)

-- ---- no evaluation is left to make

pub returns-then-adjacent : goal.returns-then-adjacent
returns-then-adjacent c =
    let v = c.loop-outputs.invariant in
    rw c.finished-reached.ensures (adjacent v.reached c.if-adjacent.true v.few)

pub returns-then-spent : goal.returns-then-spent
returns-then-spent c =
    let v = c.loop-outputs.invariant in
    spent v.reached c.if-adjacent.false (omega (arith, v.few, v.reached.most, c.if-spent.true))

-- ---- a turn that ends the search

pub returns-then-free : goal.returns-then-free
returns-then-free c =
    let f = c.loop-outputs.state in
    let d = c.dual_of-dual.result in
    let v = c.loop-outputs.invariant in
    let floor : to_z w64 (of_z w64 c.greater.result) ≡ cond (le_z (divided_up d 100000) f.floor) f.floor (divided_up d 100000) = search rules in
    let written : c.note.new.trace ≡ recorded c.loop-outputs.trace f.evaluations ((f.low + f.width) % 131072) d = search rules in
    let taken = selects-lowered _ _ c.evaluate-cost.ensures c.dual_of-dual.ensures v.empty c.if-covers.true c.lower-cost.ensures in
    let enough = lowered-covers _ _ c.evaluate-cost.ensures c.requires.0 c.if-covers.true c.lower-cost.ensures in
    let few : f.evaluations + 1 ≤ c.args.start.most = omega (arith, v.few, c.if-spent.false) in
    rw (c.finished-reached-then-free.ensures, floor)
    (elim c.then-free.branch [
      | then-free-via-then-free w ↦ stopped (stops_at_zero v.reached c.if-adjacent.false taken (λ q h. h.demanded) written w.if-free.true enough) refl refl few
      | then-free-via-else-free+then-net-site w ↦ stopped (stops-equal v.reached c.if-adjacent.false taken (λ q h. h.demanded) written w.if-net-site.true) refl refl few
    ])

pub returns-then-at_top : goal.returns-then-at_top
returns-then-at_top c =
    let f = c.loop-outputs.state in
    let d = c.dual_of-dual.result in
    let v = c.loop-outputs.invariant in
    let floor : to_z w64 (of_z w64 c.greater.result) ≡ cond (le_z (divided_up d 100000) f.floor) f.floor (divided_up d 100000) = search rules in
    let written : c.note.new.trace ≡ recorded c.loop-outputs.trace f.evaluations ((f.low + f.width) % 131072) d = search rules in
    let taken = selects _ _ c.evaluate-cost.ensures c.dual_of-dual.ensures v.empty c.if-covers.false in
    rw (c.finished-reached-then-at_top.ensures, floor) (stopped (stops_at_top v.reached c.if-adjacent.false taken (λ q h. h.demanded) written c.if-at_top.true c.if-covers.false) refl refl (omega (arith, v.few, c.if-spent.false)))

-- ---- a turn after which it goes on

pub loop-outputs-preserved-then-covers : goal.loop-outputs-preserved-then-covers
loop-outputs-preserved-then-covers c =
    let f = c.loop-outputs.state in
    let d = c.dual_of-dual.result in
    let v = c.loop-outputs.invariant in
    let floor : to_z w64 (of_z w64 c.greater.result) ≡ cond (le_z (divided_up d 100000) f.floor) f.floor (divided_up d 100000) = search rules in
    let written : c.note.new.trace ≡ recorded c.loop-outputs.trace f.evaluations ((f.low + f.width) % 131072) d = search rules in
    let taken = selects-lowered _ _ c.evaluate-cost.ensures c.dual_of-dual.ensures v.empty c.if-covers.true c.lower-cost.ensures in
    let enough = lowered-covers _ _ c.evaluate-cost.ensures c.requires.0 c.if-covers.true c.lower-cost.ensures in
    let other = c.if-net-site.false in
    rw floor
    (record {
      reached = goes_below v.reached c.if-adjacent.false taken (λ q h. h.demanded) written c.if-free.false (omega arith);
      few = omega (arith, v.few, c.if-spent.false);
      empty = taken.beyond;
    })

pub loop-outputs-preserved : goal.loop-outputs-preserved
loop-outputs-preserved c =
    let f = c.loop-outputs.state in
    let d = c.dual_of-dual.result in
    let v = c.loop-outputs.invariant in
    let floor : to_z w64 (of_z w64 c.greater.result) ≡ cond (le_z (divided_up d 100000) f.floor) f.floor (divided_up d 100000) = search rules in
    let written : c.note.new.trace ≡ recorded c.loop-outputs.trace f.evaluations ((f.low + f.width) % 131072) d = search rules in
    let taken = selects _ _ c.evaluate-cost.ensures c.dual_of-dual.ensures v.empty c.if-covers.false in
    rw floor
    (record {
      reached = goes_above v.reached c.if-adjacent.false taken (λ q h. h.demanded) written c.if-at_top.false c.if-covers.false;
      few = omega (arith, v.few, c.if-spent.false);
      empty = taken.beyond;
    })
