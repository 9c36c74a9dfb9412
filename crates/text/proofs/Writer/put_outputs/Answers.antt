-- `text::Writer::put_outputs` meets its contract: a unit's line is put behind those before it.
use Rattle.std.proofs.Common.{arith, ◌∙◌}
use Rattle.text.specs.Text.{output_lines}
use Rattle.text.proofs.Putting.{puts-none}
use Rattle.text.proofs.Lines.{puts_line}
use Rattle.text.proofs.Writer.put_outputs.Goals as goal

pub loop-i-init : goal.loop-i-init
unfolding output_lines
loop-i-init c = (puts-none, omega arith)

pub loop-i-preserved : goal.loop-i-preserved
loop-i-preserved c =
    let l = c.loop-i in
    let put = c.put_output.ensures in
    (puts_line l.i c.from.result c.args.reply.now (omega arith) (c.from.ensures ∙ c.read-output.ensures) l.invariant.0 put.0, omega (arith, put.1))
