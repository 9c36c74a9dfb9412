-- The first units have their choices and their least tied outputs.
use Rattle.std.proofs.Common.{◌≡◌, drop}
use Rattle.rules.specs.Choice.{choice, least_tied}
use Rattle.evaluation.proofs.Allocating.{Allocating, Filling, Ties}
use Rattle.evaluation.proofs.totals.evaluate.Given as goal

abbrev pub invariant-loop-i : goal.invariant-loop-i
invariant-loop-i l =
    record {
      allocating : Allocating (choice l.m) l.site.coefficients l.site.ends l.site.ranges l.site.count l.outputs l.cost l.net l.i;
      filling : Filling (least_tied l.m) l.site.coefficients l.site.ends l.site.ranges l.site.count l.least l.i;
      ties : Ties l.outputs l.least l.ties l.i;
      beyond : drop l.site.count l.outputs ≡ drop l.site.count l.fn.outputs;
    }
