-- `text::Writer::put_summary` meets its contract: the first line in six parts, put one behind the other.
use Rattle.std.proofs.Common.{arith, ◌≤◌, length, ◌∙◌}
use Rattle.text.specs.Text.{summary_line}
use Rattle.text.proofs.Putting.{puts_more}
use Rattle.text.proofs.Writer.put_summary.Goals as goal

pub returns : goal.returns
unfolding summary_line
returns c =
    let room : c.args.self.now.at ≤ length c.args.self.now.text.now = omega arith in
    let units = rw (c.from.ensures ∙ c.read.ensures) at c.put_field.ensures.0 in
    let evaluations = rw (c.from-2.ensures ∙ c.read-2.ensures) at c.put_field-2.ensures.0 in
    let cost = rw c.read-3.ensures at c.put_field-3.ensures.0 in
    let gap = rw c.read-4.ensures at c.put_field-4.ensures.0 in
    let surplus = rw c.read-5.ensures at c.put_field-5.ensures.0 in (
      puts_more room (puts_more room (puts_more room (puts_more room (puts_more room units evaluations) cost) gap) surplus) c.put_word.ensures,
      omega (arith, c.put_word.ensures.bytes.ends),
    )
