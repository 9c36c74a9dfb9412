-- Quotient and remainder of an i64 that is not negative by a u64 that is cast; an i64 that is tested for 0.
use mathlib.Core.Path.{◌≡◌, refl, ap, ◌∙◌}
use Prim.Native.Nat.{ℕ, ◌-◌, ◌/◌, ◌%◌, ◌≤◌, ◌<◌}
use native.Mathlib.Nat.{zero-div}
use native.Mathlib.Omega.{arith}
use lib.IntN.{ℤ, pos, negsuc}
use lib.Signed.{quot_z, rem_z}
use mir.Syntax.{w64}
use mir.Val.{to_z, of_z}
use mir.Facts.{to_z_pos}
use Rattle.fields.specs.Integers.{Is, positive_part, negative_part}
use Rattle.fields.proofs.Integers.{is_pos, is_same, up_is, dn_is, is_quot, cast, same}

pub is_quotient : {z : ℤ} {a b : ℕ} → Is z a b → b ≤ a → (k : ℕ) → k < 9223372036854775808 → Is (quot_z z (to_z w64 k)) ((a - b) / k) 0
is_quotient {z} {a} {b} p h k l =
    let none : b - a ≡ 0 = omega arith in
    let zero : (b - a) / k ≡ 0 = ap (λ (n : ℕ). n / k) none ∙ zero-div k in
    let q : Is (quot_z z (to_z w64 k)) ((a - b) / k) ((b - a) / k) = rw (to_z_pos w64 l) (is_quot p k) in
    rw zero at q

remainder : (z : ℤ) (k : ℕ) → negative_part z ≡ 0 → rem_z z (pos k) ≡ pos (positive_part z % k)
unfolding positive_part negative_part
remainder (pos n) k e = refl
remainder (negsuc n) k e = absurd (omega arith)

pub is-remainder : {z : ℤ} {a b : ℕ} → Is z a b → b ≤ a → (k : ℕ) → k < 9223372036854775808 → Is (rem_z z (to_z w64 k)) ((a - b) % k) 0
is-remainder {z} {a} {b} p h k l =
    rw (to_z_pos w64 l) (is_same (remainder z k (omega (arith, dn_is p)) ∙ ap (λ (n : ℕ). pos (n % k)) (up_is p)) (is_pos ((a - b) % k)))

-- an i64 that is tested for 0
pub zero_bits : (z : ℤ) → of_z w64 z ≡ 0 → Is (to_z w64 (of_z w64 z)) 0 0
zero_bits z e = rw e (cast 0 (omega arith))

pub other_bits : {z : ℤ} {a b : ℕ} → Is z a b → ¬ (of_z w64 z ≡ 0) → ¬ (a ≡ b)
other_bits p n e = n (ap (of_z w64) (same p (is_pos 0) (omega arith)))
