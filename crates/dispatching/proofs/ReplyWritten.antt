-- The reply's numbers written one behind the other, and the amounts and outputs into the lent tail, are the reply's bytes over the buffer.
use Prim.Native.Nat.{ℕ, ◌+◌, ◌*◌, ◌≤◌}
use mathlib.Core.Path.{◌≡◌, ap, ◌∙◌}
use mathlib.Core.List.{List, ◌++◌, append_assoc}
use native.Mathlib.Omega.{arith}
use lib.ListN.{length, take, length-append}
use lib.Seq.{length-take-le}
use Rattle.fields.specs.Field.{written, bytes, bytes_of_each}
use Rattle.fields.proofs.Width.{length-bytes}
use Rattle.rules.specs.Lists.{over}
use Rattle.rules.specs.Calls.{reply_bytes}
use Rattle.rules.proofs.Encoding.Pieces.{length_each_bytes}
use Rattle.rules.proofs.Encoding.ReplyBytes.{length-reply}
use Rattle.rules.proofs.Encoding.Front.{lent, given_back, front-none, front-field, front_tail, front-over}
use Rattle.solving.specs.ReplyHeld.{reply_held}
use Rattle.solving.specs.declared.Reply as code

-- ---- cost, gap, surplus and outputs

module _ (cost gap surplus : ℕ) (ps : List ℕ) where
  abbrev pub amounts : List ℕ
  amounts = bytes 8 cost ++ bytes 8 gap ++ bytes 8 surplus ++ bytes_of_each 2 ps

  pub length-amounts : length amounts ≡ 24 + 2 * length ps
  length-amounts = simp (length-append, length-bytes, length_each_bytes) (omega arith)

  pub amounts-written : (s₀ : List ℕ) {s₁ s₂ s₃ t : List ℕ} → s₁ ≡ written s₀ 0 8 cost → s₂ ≡ written s₁ 8 8 gap → s₃ ≡ written s₂ 16 8 surplus → t ≡ over (bytes_of_each 2 ps) (lent 24 s₃) → given_back 24 s₃ t ≡ over amounts s₀
  amounts-written s₀ {t = t} h₁ h₂ h₃ h =
      let f₁ = front-field (front-none s₀) 8 cost h₁ in
      let f₂ = front-field f₁ 8 gap h₂ in
      let f₃ = front-field f₂ 8 surplus h₃ in
      front-over (front_tail f₃ t (bytes_of_each 2 ps) (2 * length ps) (length_each_bytes 2 ps) h)

  -- ---- a reply, over the width of its second number

  abbrev pub spelled : (w n second : ℕ) → List ℕ
  spelled w n second = bytes 2 n ++ bytes w second ++ bytes 8 cost ++ bytes 8 gap ++ bytes 8 surplus ++ bytes_of_each 2 ps

  pub numbers-written : (w : ℕ) (s₀ : List ℕ) (n second : ℕ) → {s₁ s₂ t : List ℕ} → s₁ ≡ written s₀ 0 2 n → s₂ ≡ written s₁ 2 w second → t ≡ over amounts (lent (2 + w) s₂) → given_back (2 + w) s₂ t ≡ over (spelled w n second) s₀
  numbers-written w s₀ n second {t = t} h₁ h₂ h =
      let f₁ = front-field (front-none s₀) 2 n h₁ in
      let f₂ = front-field f₁ w second h₂ in
      let same : (bytes 2 n ++ bytes w second) ++ amounts ≡ spelled w n second = simp append_assoc in
      front-over (front_tail f₂ t amounts (24 + 2 * length ps) length-amounts h) ∙ ap (λ (xs : List ℕ). over xs s₀) same

-- ---- dispatch's reply

module _ (s₀ : List ℕ) (n : ℕ) (r : code.Reply) (few : n ≤ length r.outputs) where
  abbrev outputs : List ℕ
  outputs = take n r.outputs

  count : length outputs ≡ n
  count = length-take-le n r.outputs few

  pub reply-length : length (reply_bytes (reply_held n r)) ≡ 28 + 2 * n
  reply-length = length-reply (reply_held n r) ∙ ap (λ (k : ℕ). 28 + 2 * k) count

  pub reply-written : {s : List ℕ} → s ≡ over (spelled r.cost r.gap r.surplus outputs 2 n r.evaluations) s₀ → s ≡ over (reply_bytes (reply_held n r)) s₀
  unfolding reply_bytes
  reply-written e = rw count e
