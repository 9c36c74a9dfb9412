-- `text::Writer::put_output` meets its contract: a unit's line in three parts, put one behind the other.
use Rattle.std.proofs.Common.{arith, ◌≤◌, length}
use Rattle.text.specs.Text.{output_line}
use Rattle.text.proofs.Putting.{puts_more}
use Rattle.text.proofs.Writer.put_output.Goals as goal

pub returns : goal.returns
unfolding output_line
returns c =
    let room : c.args.self.now.at ≤ length c.args.self.now.text.now = omega arith in
    (puts_more room (puts_more room c.put_number.ensures.0 c.put_field.ensures.0) c.put_word.ensures, omega (arith, c.put_word.ensures.bytes.ends))
