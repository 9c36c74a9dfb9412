-- `judging::judge_outputs` meets its contract: each way out is one of `Outcomes`. (No fact named for a condition that an edit of must-fail changes is cited.)
use Rattle.std.proofs.Common.{rules, ap, ◌∙◌, ℤ, pos, ◌-ℤ◌, w64, arith}
use mir.Facts.{to_z-of_z}
use Rattle.rules.specs.Numbers.{natural}
use Rattle.judging.proofs.Outcomes.{measurable, accepted}
use Rattle.judging.proofs.judge_outputs.Goals as goal

pub distance-requires : goal.distance-requires
distance-requires c = rw (to_z-of_z {w = w64} {z = c.search-found.result.floor} (search rules)) (measurable c.in_ok-cost.ensures (omega arith) c.search-found.ensures c.requires.0)

pub returns : goal.returns
returns c =
    accepted c.in_ok-cost.ensures (omega arith) c.search-found.ensures
    (c.distance.ensures ∙ ap (λ (z : ℤ). natural (pos c.in_ok-cost.field-0.cost -ℤ z)) (to_z-of_z {w = w64} {z = c.search-found.result.floor} (search rules)))
