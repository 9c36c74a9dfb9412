-- `stepping::evaluate_next` meets its contract: one evaluation more (`Evaluating`).
use Rattle.std.proofs.Common.{◌≡◌, ◌≤◌, pos, Bool, true, false, w64, to_z, of_z, ap, refl, subst, arith, rules}
use lib.IntN.{nat_abs}
use mir.Val.{SFits, bool_byte}
use mir.Facts.{to_z-of_z, to_z_pos}
use Rattle.rules.specs.Numbers.{natural}
use Rattle.rules.specs.Problem.{Problem}
use Rattle.bisection.specs.Clauses.{Holding}
use Rattle.stepping.specs.Runs.{flag, evaluated}
use Rattle.stepping.specs.Clauses.{run_of}
use Rattle.stepping.proofs.Fitting.{fitting}
use Rattle.stepping.proofs.Evaluating.{from_start, numbers_from, begins-at, target_small, floor-kept, evaluates}
use Rattle.stepping.proofs.evaluate_next.Goals as goal

-- ---- what the search is asked (each cast and sum by all the facts: an edit of must-fail takes one of them away, and the others then have other names)

pub overflow_add-best : goal.overflow_add-best
overflow_add-best c = let k = fitting (run_of c.args.before) c.requires.begins in omega (arith, k.evaluations, k.surplus, k.floor, target_small c.requires.searchable)

pub overflow_cast-start : goal.overflow_cast-start
overflow_cast-start c = let k = fitting (run_of c.args.before) c.requires.begins in omega (arith, k.evaluations, k.surplus, k.floor, target_small c.requires.searchable)

pub overflow_cast-start-2 : goal.overflow_cast-start-2
overflow_cast-start-2 c = let k = fitting (run_of c.args.before) c.requires.begins in omega (arith, k.evaluations, k.surplus, k.floor, target_small c.requires.searchable)

pub width_at-requires : goal.width_at-requires
width_at-requires c = (fitting (run_of c.args.before) c.requires.begins).evaluations

pub overflow_cast-start-3 : goal.overflow_cast-start-3
overflow_cast-start-3 c = let k = fitting (run_of c.args.before) c.requires.begins in omega (arith, k.evaluations, k.surplus, k.floor, target_small c.requires.searchable)

pub overflow_add-start : goal.overflow_add-start
overflow_add-start c = let k = fitting (run_of c.args.before) c.requires.begins in omega (arith, k.evaluations, k.surplus, k.floor, target_small c.requires.searchable)

pub search_from-floor-requires : goal.search_from-floor-requires
search_from-floor-requires c =
    (c.requires.searchable, begins-at c.args.before (fitting (run_of c.args.before) c.requires.begins) c.requires.unfinished c.args.site.now.target _ c.width_at.ensures)

-- ---- what it gave

module _ (c : goal.After-outputs-2-1) where
  floor-before : to_z w64 c.args.before.floor ≡ pos c.args.before.floor
  floor-before = to_z_pos w64 (omega (arith, (fitting (run_of c.args.before) c.requires.begins).floor))

  floor-fits : SFits w64 c.search_from-floor.result.floor
  floor-fits = search rules

  floor-after : to_z w64 (of_z w64 c.search_from-floor.result.floor) ≡ c.search_from-floor.result.floor
  floor-after = to_z-of_z {w = w64} floor-fits

  not_negative : c.search_from-floor.result.floor ≡ pos (natural c.search_from-floor.result.floor)
  not_negative =
      let s = c.requires.searchable in
      let found = from_start c.args.before c.args.site.now.target floor-before c.width_at.ensures c.search_from-floor.ensures in
      floor-kept c.args.before (fitting (run_of c.args.before) c.requires.begins) c.requires.unfinished found s.problem s.holds

  module _ (q : Problem) (h : Holding c.args.site.now.coefficients c.args.site.now.ends c.args.site.now.ranges c.args.site.now.count c.args.site.now.target q) where
    evaluated-once : (c.args.site.now.target ≤ c.search_from-floor.result.best.net) × (run_of (numbers_from c.search_from-floor.result c.args.site.now.count c.args.site.now.target c.args.before.length) ≡ evaluated q (run_of c.args.before))
    evaluated-once =
        let found = from_start c.args.before c.args.site.now.target floor-before c.width_at.ensures c.search_from-floor.ensures in
        evaluates c.args.before (fitting (run_of c.args.before) c.requires.begins) c.requires.unfinished found q h

pub overflow_sub-result : goal.overflow_sub-result
overflow_sub-result c = let s = c.requires.searchable in (evaluated-once c s.problem s.holds).0

pub overflow_cast-result-3 : goal.overflow_cast-result-3
overflow_cast-result-3 c =
    let small : SFits w64 (pos (natural c.search_from-floor.result.floor)) = subst (SFits w64) (not_negative c) (floor-fits c) in
    rw (floor-after c, not_negative c) (tt, record { fits = omega (arith, small.sfits) })

byte_flag : (b : Bool) → bool_byte b ≡ flag b
byte_flag true = refl
byte_flag false = refl

pub returns : goal.returns
returns c =
    let size : nat_abs c.search_from-floor.result.floor ≡ natural c.search_from-floor.result.floor = ap nat_abs (not_negative c) in
    record { held = λ q h. rw (floor-after c, byte_flag, size) (evaluated-once c q h).1 }
