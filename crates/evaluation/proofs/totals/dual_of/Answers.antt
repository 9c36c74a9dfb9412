-- The range of all that the dual value is made of, and the value as it is read.
use Rattle.std.proofs.Common.{ℕ, ◌+◌, ◌*◌, ◌≤◌, ◌-ℤ◌, to_z, of_z, w64, arith}
use Rattle.std.proofs.Math.Nat.{mul-le-mul}
use Rattle.fields.specs.Integers.{Is}
use Rattle.fields.proofs.Integers.{is_minus, cast, kept}
use Rattle.evaluation.specs.Clauses.{Dualable}
use Rattle.evaluation.specs.declared.Sums.{Sums}
use Rattle.evaluation.proofs.totals.dual_of.Goals as goal

dual-read : {s : Sums} {t m : ℕ} → Dualable s t m → Is (to_z w64 (of_z w64 (to_z w64 (100000 * s.cost + m * t) -ℤ to_z w64 (m * s.net)))) (100000 * s.cost + m * t) (m * s.net)
dual-read {s} {t} {m} d =
    let demanded : m * t ≤ 2097152000000000000 = mul-le-mul {n₂ = 65536} {m₂ = 32000000000000} d.multiplier d.target in
    let netted : m * s.net ≤ 2306867200000000000 = mul-le-mul {n₂ = 65536} {m₂ = 35200000000000} d.multiplier (omega (arith, d.sized.net)) in
    let difference = is_minus (cast (100000 * s.cost + m * t) (omega (arith, d.sized.cost))) (cast (m * s.net) (omega arith)) in
    record { is = omega (arith, kept difference (omega (arith, d.sized.cost)) (omega arith)) }

pub returns : goal.returns
returns c = dual-read c.requires
