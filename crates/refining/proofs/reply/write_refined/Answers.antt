-- The numbers and their length are those of the reply (`RefinedWritten`).
use Rattle.std.proofs.Common.{◌≡◌, ◌≤◌, length, arith, rules, sym, ◌∙◌}
use Rattle.refining.proofs.RefinedWritten.{refined-length, refined-written}
use Rattle.refining.proofs.reply.write_refined.Goals as goal

pub returns : goal.returns
returns c =
    let a = c.args in
    let long : length a.r.outputs ≡ 32 = search rules in
    let few : a.n ≤ length a.r.outputs = omega (arith, c.requires.0) in (
      c.write_numbers.ensures.long ∙ sym (refined-length a.s.now a.n a.r few),
      refined-written a.s.now a.n a.r few c.write_numbers.ensures.written,
    )
