-- At most 96 demands are a list that is invalid where one of them is above the limit.
use Rattle.std.proofs.Common.{length, arith, rules, tests, le-ltb, ltb, ◌∙◌}
use Rattle.std.proofs.lemmas.Iterator.{YieldsList-from_slice}
use Rattle.std.proofs.lemmas.Iterator.Search.{any_from_yields_List}
use Rattle.demands.proofs.Above.{any_above}
use Rattle.demands.proofs.demands_invalid.Goals as goal

pub returns-else-demands-gt-MOST_DEMANDS : goal.returns-else-demands-gt-MOST_DEMANDS
returns-else-demands-gt-MOST_DEMANDS c =
    let demands = c.args.demands.now in
    let any = any_from_yields_List (ltb 320000) _ _ _ c.any.ensures.ran (YieldsList-from_slice demands cc) (λ x b q k. search (rules, tests)) in
    rw (le-ltb 96 (length demands) (omega arith)) (any ∙ any_above demands)
