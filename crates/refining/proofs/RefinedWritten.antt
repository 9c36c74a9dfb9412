-- The numbers of a reply, the second of four bytes, are the reply's bytes over the buffer.
use Prim.Native.Nat.{ℕ, ◌+◌, ◌*◌, ◌≤◌}
use mathlib.Core.Path.{◌≡◌, ap, ◌∙◌}
use mathlib.Core.List.{List}
use lib.ListN.{length, take}
use lib.Seq.{length-take-le}
use Rattle.rules.specs.Lists.{over}
use Rattle.dispatching.proofs.ReplyWritten.{spelled}
use Rattle.branching.specs.Refining.{refined_bytes}
use Rattle.branching.proofs.ReplySpelled.{length-refined}
use Rattle.refining.specs.declared.reply.Refined as code
use Rattle.refining.specs.Clauses.{refined_held}

module _ (s₀ : List ℕ) (n : ℕ) (r : code.Refined) (few : n ≤ length r.outputs) where
  abbrev outputs : List ℕ
  outputs = take n r.outputs

  count : length outputs ≡ n
  count = length-take-le n r.outputs few

  pub refined-length : length (refined_bytes (refined_held n r)) ≡ 30 + 2 * n
  refined-length = length-refined (refined_held n r) ∙ ap (λ (k : ℕ). 30 + 2 * k) count

  pub refined-written : {s : List ℕ} → s ≡ over (spelled r.cost r.gap r.surplus outputs 4 n r.nodes) s₀ → s ≡ over (refined_bytes (refined_held n r)) s₀
  unfolding refined_bytes
  refined-written e = rw count e
