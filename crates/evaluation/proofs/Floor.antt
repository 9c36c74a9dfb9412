-- A quotient by 100,000 rounded up, as a difference of two quotients of naturals, for `omega`.
use Prim.Native.Nat.{◌+◌, ◌/◌}
use native.Mathlib.Omega.{arith}
use lib.IntN.{ℤ, pos, negsuc}
use Rattle.rules.specs.Numbers.{divided_up}
use Rattle.fields.specs.Integers.{Is, positive_part, negative_part}
use Rattle.fields.proofs.Integers.{is_pos, is-negsuc, is_quot}

pub floor-is : (z : ℤ) → Is (divided_up z 100000) ((positive_part z + 99999) / 100000) (negative_part z / 100000)
unfolding divided_up positive_part negative_part
floor-is (pos n) = record { is = omega (arith, is_pos ((n + 99999) / 100000)) }
floor-is (negsuc n) = record { is = omega (arith, is_quot (is-negsuc n) 100000) }
