-- `sensitivity::write_floors` meets its contract: each floor is that of its demand (`Carried`), and so far they are written in order (`Writing`).
use Rattle.std.proofs.Common.{rules, ◌≡◌, ℕ, ◌*◌, ◌≤◌, get_or, ap, ◌∙◌, ℤ, pos, ◌-ℤ◌, to_z, of_z, w64, arith}
use mir.Facts.{to_z-of_z}
use Rattle.rules.specs.Numbers.{divided_up}
use Rattle.rules.proofs.Lists.{every-at}
use Rattle.sensitivity.proofs.Carried.{floor-computed, shifted}
use Rattle.sensitivity.proofs.Writing.{writing_more}
use Rattle.sensitivity.proofs.write_floors.Goals as goal

pub greatest_dual-requires : goal.greatest_dual-requires
greatest_dual-requires c =
    let small = every-at (λ d. d ≤ 320000) c.args.demands.now c.loop-j.j 0 c.requires.1.valid.small c.loop-j-test.true in
    (c.requires.0, rw (to_z-of_z {w = w64} {z = c.shift.result} (search rules), c.shift.ensures) (shifted (get_or c.args.demands.now c.loop-j.j 0) c.args.target small c.requires.1.target))

pub loop-j-preserved : goal.loop-j-preserved
loop-j-preserved c =
    let demand = get_or c.args.demands.now c.loop-j.j 0 in
    let dual : to_z w64 (of_z w64 c.greatest_dual.result) ≡ c.greatest_dual.result = to_z-of_z {w = w64} (search rules) in
    let shift : to_z w64 (of_z w64 c.shift.result) ≡ pos (100000000 * demand) -ℤ pos c.args.target = to_z-of_z {w = w64} (search rules) ∙ c.shift.ensures in
    let floor : to_z w64 (of_z w64 c.floor_of.result) ≡ divided_up c.greatest_dual.result 100000 = to_z-of_z {w = w64} (search rules) ∙ c.floor_of.ensures ∙ ap (λ (z : ℤ). divided_up z 100000) dual in
    writing_more c.loop-j.invariant (to_z w64 (of_z w64 c.floor_of.result)) c.loop-j-test.true c.requires.1.room
    (λ q ms a b e.
    floor-computed q ms demand _ _ (omega (arith, c.requires.0.some)) (shift ∙ ap (λ (n : ℕ). pos (100000000 * demand) -ℤ pos n) e)
    (floor ∙ ap (λ (z : ℤ). divided_up z 100000) (c.greatest_dual.ensures.greatest q ms a b)))
