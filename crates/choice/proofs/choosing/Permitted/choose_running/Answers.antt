-- Past an end of the regions that end is the choice; where square and linear are 0 all outputs tie; and else the vertex lies between the ends (`Vertex`).
use Rattle.std.proofs.Common.{rules, arith}
use Rattle.choice.proofs.Vertex.{over-fits, past, before, level, v-fits, beside}
use Rattle.choice.proofs.Giving.{gives_only, gives_both}
use Rattle.choice.proofs.choosing.Permitted.choose_running.Goals as goal

pub overflow_sub-over : goal.overflow_sub-over
overflow_sub-over c = over-fits c.requires (search rules)

pub returns-then-over-by : goal.returns-then-over-by
returns-then-over-by c = gives_only c.only.ensures (past c.requires (search rules) _ c.highest-highest.ensures c.if-over-by.true)

pub returns-then-over-by-2 : goal.returns-then-over-by-2
returns-then-over-by-2 c = gives_only c.only-then-over-by-2.ensures (before c.requires (search rules) _ c.lowest-lowest.ensures c.if-over-by-2.true)

pub returns-then-flat : goal.returns-then-flat
returns-then-flat c = gives_both c.both.ensures (level c.requires (search rules) _ _ c.highest-highest.ensures c.lowest-lowest.ensures c.if-over-by.false c.if-over-by-2.false (omega arith))

pub overflow_cast-over-2 : goal.overflow_cast-over-2
overflow_cast-over-2 c = v-fits c.requires (search rules) _ _ c.highest-highest.ensures c.lowest-lowest.ensures c.if-over-by.false c.if-over-by-2.false (omega arith)

pub choose_beside-requires : goal.choose_beside-requires
choose_beside-requires c = beside c.requires (search rules) _ _ c.highest-highest.ensures c.lowest-lowest.ensures c.if-over-by.false c.if-over-by-2.false (omega arith)
