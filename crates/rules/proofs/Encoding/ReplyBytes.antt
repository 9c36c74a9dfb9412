-- The bytes of dispatch's reply spell the reply: each number is read back at its place (`ReplyNumbers`, at width 2).
use mathlib.Core.Path.{◌≡◌}
use mathlib.Core.List.{List}
use Prim.Native.Nat.{ℕ, ◌+◌, ◌*◌}
use lib.ListN.{length, drop}
use Rattle.rules.specs.Lists.{over}
use Rattle.rules.specs.Bisection.{Reply}
use Rattle.rules.specs.Calls.{reply_bytes}
use Rattle.rules.specs.Promise.{reply_in}
use Rattle.rules.proofs.Encoding.ReplyNumbers as numbers

abbrev pub Fitting : Reply → Type 0
Fitting r = numbers.Fitting 2 r.evaluations r.cost r.gap r.surplus r.outputs

pub length-reply : (r : Reply) → length (reply_bytes r) ≡ 28 + 2 * length r.outputs
unfolding reply_bytes
length-reply r = numbers.length-numbers 2 r.evaluations r.cost r.gap r.surplus r.outputs

pub reply-spelled : (r : Reply) → Fitting r → (buffer : List ℕ) → reply_in (over (reply_bytes r) buffer) ≡ r
unfolding reply_bytes reply_in
reply-spelled r f buffer =
    let rest = drop (length (reply_bytes r)) buffer in
    λ i. record {
      evaluations = numbers.read-second 2 r.evaluations r.cost r.gap r.surplus r.outputs f rest i;
      cost = numbers.read-cost 2 r.evaluations r.cost r.gap r.surplus r.outputs f rest i;
      gap = numbers.read-gap 2 r.evaluations r.cost r.gap r.surplus r.outputs f rest i;
      surplus = numbers.read-surplus 2 r.evaluations r.cost r.gap r.surplus r.outputs f rest i;
      outputs = numbers.read-outputs 2 r.evaluations r.cost r.gap r.surplus r.outputs f rest i;
    }
