-- What the code's rows hold, and what it requires of rows and of words.
use Rattle.std.specs.Prelude.{ℕ, ◌*◌, ◌/◌, ◌≤◌, ◌<◌, ◌≡◌, List, ℤ, length, get_or, Ok}
use Rattle.rules.specs.Lists.{each}
use Rattle.rules.specs.Unit.{Unit}
use Rattle.rules.specs.Layout.{in_second, unit_in_row}
use Rattle.rules.specs.Refusal.{unit_verdict}
use Rattle.packing.specs.declared.reading.Rows.{Rows}

-- The first n rows, each of an accepted unit, and in edition 2 a b1 for each.
pub record RowsSound (e : ℕ) (rows : List ℕ) (b1 : List ℤ) (n : ℕ) : Type 0 where
  pub room : 19 * n ≤ length rows
  pub most : n ≤ 32
  pub given : length b1 ≡ in_second e n
  pub accepted : (i : ℕ) → i < n → unit_verdict (unit_in_row rows b1 i) ≡ Ok tt

-- Numbers of 16 bits.
pub record WordsFit (words : List ℕ) : Type 0 where
  pub small : (k : ℕ) → get_or words k 0 < 65536

-- ---- the code's rows

abbrev pub row_count : Rows → ℕ
row_count rows = length rows.numbers.now / 19

abbrev pub unit_in : Rows → ℕ → Unit
unit_in rows = unit_in_row rows.numbers.now rows.b1.now

abbrev pub units_in : Rows → List Unit
units_in rows = each (row_count rows) (unit_in rows)

abbrev pub AreSound : Rows → Type 0
AreSound rows = RowsSound rows.edition rows.numbers.now rows.b1.now (row_count rows)
