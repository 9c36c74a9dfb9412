-- `sensitivity::greatest_dual` meets its contract: each value carried is in range and read back as it is, and the greatest is kept (`Computed`).
use Rattle.std.proofs.Common.{rules, ◌≡◌, sym, ap, ◌∙◌, ℤ, ◌+ℤ◌, ◌*ℤ◌, to_z, of_z, w64, arith}
use mir.Facts.{to_z-of_z}
use Rattle.bisection.specs.Clauses.{multiplier_at, dual_at}
use Rattle.sensitivity.proofs.Computed.{product-fits, sum_fits, value_read, reached-starts, reached-more}
use Rattle.sensitivity.proofs.greatest_dual.Goals as goal

pub overflow_mul-greatest : goal.overflow_mul-greatest
overflow_mul-greatest c = product-fits (c.requires.0.pairs 0 (omega (arith, c.requires.0.some))) c.requires.1

pub overflow_add-greatest : goal.overflow_add-greatest
overflow_add-greatest c = sum_fits (c.requires.0.pairs 0 (omega (arith, c.requires.0.some))) c.requires.1

pub loop-k-init : goal.loop-k-init
loop-k-init c =
    let trace = c.args.trace.now in
    let shift : to_z w64 (of_z w64 c.args.shift) ≡ c.args.shift = to_z-of_z {w = w64} (search rules) in
    reached-starts trace _ (value_read (c.requires.0.pairs 0 (omega (arith, c.requires.0.some))) c.requires.1 ∙ ap (λ (z : ℤ). dual_at trace 0 +ℤ multiplier_at trace 0 *ℤ z) (sym shift))

pub overflow_mul-trace : goal.overflow_mul-trace
overflow_mul-trace c = product-fits (c.requires.0.pairs c.loop-k.k c.loop-k-test.true) c.requires.1

pub overflow_add-trace : goal.overflow_add-trace
overflow_add-trace c = sum_fits (c.requires.0.pairs c.loop-k.k c.loop-k-test.true) c.requires.1

pub loop-k-preserved : goal.loop-k-preserved
loop-k-preserved c =
    let trace = c.args.trace.now in
    let k = c.loop-k.k in
    let shift : to_z w64 (of_z w64 c.args.shift) ≡ c.args.shift = to_z-of_z {w = w64} (search rules) in
    let read = value_read (c.requires.0.pairs k c.loop-k-test.true) c.requires.1 ∙ ap (λ (z : ℤ). dual_at trace k +ℤ multiplier_at trace k *ℤ z) (sym shift) in
    rw (to_z-of_z {w = w64} {z = c.max-greatest.result} (search rules), c.max-greatest.ensures.value) (reached-more trace _ c.loop-k.auto.k c.loop-k.invariant read)
