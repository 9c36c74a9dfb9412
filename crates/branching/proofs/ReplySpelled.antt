-- The bytes of refining's reply spell the reply: each number is read back at its place (`ReplyNumbers`, at width 4).
use mathlib.Core.Path.{◌≡◌}
use mathlib.Core.List.{List}
use Prim.Native.Nat.{ℕ, ◌+◌, ◌*◌}
use lib.ListN.{length, drop}
use Rattle.rules.specs.Lists.{over}
use Rattle.rules.proofs.Encoding.ReplyNumbers as numbers
use Rattle.branching.specs.Nodes.{RefinedReply}
use Rattle.branching.specs.Refining.{refined_bytes, refined_in}

abbrev pub Fitting : RefinedReply → Type 0
Fitting r = numbers.Fitting 4 r.nodes r.cost r.gap r.surplus r.outputs

pub length-refined : (r : RefinedReply) → length (refined_bytes r) ≡ 30 + 2 * length r.outputs
unfolding refined_bytes
length-refined r = numbers.length-numbers 4 r.nodes r.cost r.gap r.surplus r.outputs

pub reply-spelled : (r : RefinedReply) → Fitting r → (buffer : List ℕ) → refined_in (over (refined_bytes r) buffer) ≡ r
unfolding refined_bytes refined_in
reply-spelled r f buffer =
    let rest = drop (length (refined_bytes r)) buffer in
    λ i. record {
      nodes = numbers.read-second 4 r.nodes r.cost r.gap r.surplus r.outputs f rest i;
      cost = numbers.read-cost 4 r.nodes r.cost r.gap r.surplus r.outputs f rest i;
      gap = numbers.read-gap 4 r.nodes r.cost r.gap r.surplus r.outputs f rest i;
      surplus = numbers.read-surplus 4 r.nodes r.cost r.gap r.surplus r.outputs f rest i;
      outputs = numbers.read-outputs 4 r.nodes r.cost r.gap r.surplus r.outputs f rest i;
    }
