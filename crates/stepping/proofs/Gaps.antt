-- Gaps as natural numbers: cost less gap is the floor, and the reply's gap is the difference.
use Prim.Native.Nat.{ℕ, ◌-◌, ◌≤◌}
use native.Mathlib.Omega.{arith}
use mathlib.Core.Path.{◌≡◌, ◌∙◌}
use lib.IntN.{pos, ◌-ℤ◌}
use Rattle.fields.proofs.Integers.{is_pos, is_minus, same, up_is}
use Rattle.rules.specs.Numbers.{natural}
use Rattle.rules.proofs.Economics.Quantities.{natural-up}

pub gap-less : (c f : ℕ) → f ≤ c → pos c -ℤ pos (c - f) ≡ pos f
gap-less c f h = same (is_minus (is_pos c) (is_pos (c - f))) (is_pos f) (omega arith)

pub gap-natural : (c f : ℕ) → natural (pos c -ℤ pos f) ≡ c - f
gap-natural c f = natural-up (pos c -ℤ pos f) ∙ up_is (is_minus (is_pos c) (is_pos f)) ∙ omega arith
