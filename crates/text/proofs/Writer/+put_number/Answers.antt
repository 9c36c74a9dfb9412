-- `text::Writer::put_number` meets its contract: the digits of n / 10, if there are any, then the last digit.
use Rattle.std.proofs.Common.{arith, ◌≡◌, ◌<◌, ◌%◌}
use Rattle.text.proofs.Putting.{puts_more}
use Rattle.text.proofs.Digits.{decimal-small, decimal-more, length-tenth}
use Rattle.text.proofs.Writer.+put_number.Goals as goal
use Rattle.text.proofs.Writer.+put_number.Goals.{then-n-ge10, else-n-ge10}

pub put_word-requires : goal.put_word-requires
put_word-requires t c =
    elim c.if-n-ge10.branch [
      | then-n-ge10 w ↦ let e = w.put_number.ensures.0 in rw w.self-is (omega (arith, e.long, e.bytes.ends, length-tenth c.args.n (omega arith)))
      | else-n-ge10 w ↦ rw w.self-is (omega arith)
    ]

pub returns : goal.returns
returns t c =
    let b : c.args.n < 18446744073709551616 = omega arith in
    elim c.if-n-ge10.branch [
      | then-n-ge10 w ↦
          let last = rw w.self-is at c.put_word.ensures in
          let e = w.put_number.ensures.0 in
          (rw (decimal-more c.args.n b (omega arith)) (puts_more (omega arith) e last), omega (arith, last.bytes.ends, e.bytes.ends, length-tenth c.args.n b))
      | else-n-ge10 w ↦
          let last = rw w.self-is at c.put_word.ensures in
          let less : c.args.n < 10 = omega arith in
          let same : c.args.n % 10 ≡ c.args.n = omega arith in
          (rw decimal-small (rw same at last), omega (arith, last.bytes.ends))
    ]
