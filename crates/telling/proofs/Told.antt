-- A cost row told to C: three numbers at the start of a lent list, and the call by its room.
use Prim.Native.Nat.{ℕ, ◌≤◌, ◌<◌}
use mathlib.Core.List.{List}
use mathlib.Core.Path.{◌≡◌, sym}
use lib.IntN.{ℤ}
use lib.ListN.{length}
use borrow.Author.Tests.{lt-ltb, le-ltb}
use Rattle.rules.specs.Refusal.{number_of}
use Rattle.rules.specs.declared.Refusal.TheVariants.{BufferTooShort}
use Rattle.gencost.specs.Row.{Answer, gencost_read}
use Rattle.telling.specs.Told.{number_of_costs, answers_of_costs, panel_gencost}

module _ (row : List ℕ) (answers : List ℤ) where
  pub gencost_short : length answers < 3 → {n : ℕ} → n ≡ number_of BufferTooShort → panel_gencost row answers ≡ record { number = n; answers = answers }
  unfolding panel_gencost
  gencost_short h e = rw (lt-ltb (length answers) 3 h, e)

  pub gencost_told : 3 ≤ length answers → {c : Answer} {n : ℕ} {after : List ℤ} → c ≡ gencost_read row → n ≡ number_of_costs c → after ≡ answers_of_costs c answers → panel_gencost row answers ≡ record { number = n; answers = after }
  unfolding panel_gencost
  gencost_told h {c} e f g = rw (le-ltb (length answers) 3 h, sym e, f, g)
