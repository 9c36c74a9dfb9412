-- The numbers and their length are those of the reply (`ReplyWritten`).
use Rattle.std.proofs.Common.{◌≡◌, ◌≤◌, length, arith, rules, sym, ◌∙◌}
use Rattle.dispatching.proofs.ReplyWritten.{reply-length, reply-written}
use Rattle.dispatching.proofs.reply.write_reply.Goals as goal

pub returns : goal.returns
returns c =
    let a = c.args in
    let long : length a.r.outputs ≡ 32 = search rules in
    let few : a.n ≤ length a.r.outputs = omega (arith, c.requires.0) in (
      c.write_numbers.ensures.long ∙ sym (reply-length a.s.now a.n a.r few),
      reply-written a.s.now a.n a.r few c.write_numbers.ensures.written,
    )
