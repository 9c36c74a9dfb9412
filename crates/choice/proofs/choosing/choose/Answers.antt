-- It stands or runs (`Standing`), and standing costs nothing.
use Rattle.std.proofs.Common.{rules, sym, ◌∙◌}
use Rattle.choice.proofs.Giving.{gives_only, gives_both}
use Rattle.choice.proofs.Standing.{never-stands, dearer, level, cheaper}
use Rattle.choice.proofs.choosing.choose.Goals as goal

pub returns-then-running-first : goal.returns-then-running-first
returns-then-running-first c =
    let r = c.running-running.ensures in
    let chosen = rw (r.ends, r.last) at c.choose_running-choice.ensures.chosen in
    record { chosen = never-stands c.requires r.first c.if-running-last.false chosen c.if-running-first.true; alone = c.choose_running-choice.ensures.alone }

pub returns-in-Greater : goal.returns-in-Greater
returns-in-Greater c =
    let r = c.running-running.ensures in
    let chosen = rw (r.ends, r.last) at c.choose_running-choice.ensures.chosen in
    gives_only c.only-in-Greater.ensures (dearer c.requires r.first c.if-running-last.false chosen c.if-running-first.false (search rules) c.priced_cost.ensures (sym c.in-Greater.is ∙ c.cmp.ensures))

pub returns-in-Equal : goal.returns-in-Equal
returns-in-Equal c =
    let r = c.running-running.ensures in
    let chosen = rw (r.ends, r.last) at c.choose_running-choice.ensures.chosen in
    gives_both c.both.ensures (level c.requires r.first c.if-running-last.false chosen c.if-running-first.false (search rules) c.priced_cost.ensures (sym c.in-Equal.is ∙ c.cmp.ensures))

pub returns-in-Less : goal.returns-in-Less
returns-in-Less c =
    let r = c.running-running.ensures in
    let chosen = rw (r.ends, r.last) at c.choose_running-choice.ensures.chosen in
    record {
      chosen = cheaper c.requires r.first c.if-running-last.false chosen c.if-running-first.false (search rules) c.priced_cost.ensures (sym c.in-Less.is ∙ c.cmp.ensures);
      alone = c.choose_running-choice.ensures.alone;
    }
