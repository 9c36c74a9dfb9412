-- The width after e evaluations is 2 ^ (17 − e).
use Prim.Native.Nat.{ℕ, ◌+◌, ◌/◌, ◌^◌, ◌≤◌}
use mathlib.Core.Path.{◌≡◌, sym, ap, ◌∙◌}
use native.Mathlib.Nat.{mul_comm}
use lib.Pow.{pow-add, shl-shr, shr_le}
use Rattle.stepping.specs.Runs.{width_at}

pub width_power : (e k : ℕ) → e + k ≡ 17 → width_at e ≡ 2 ^ k
unfolding width_at
width_power e k h = ap (λ (x : ℕ). x / 2 ^ e) (ap (λ (x : ℕ). 2 ^ x) (sym h) ∙ pow-add 2 e k ∙ mul_comm (2 ^ e) (2 ^ k)) ∙ shl-shr (2 ^ k) e

pub width-range : (e : ℕ) → width_at e ≤ 131072
unfolding width_at
width-range e = shr_le 131072 e
