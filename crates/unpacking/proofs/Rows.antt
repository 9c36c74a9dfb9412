-- Rows one behind the other: the rows of one unit more.
use Prim.Native.Nat.{ℕ, ◌+◌, ◌*◌}
use native.Mathlib.Numerals.{add-one}
use native.Mathlib.Omega.{arith}
use mathlib.Core.Path.{◌≡◌, ap, ◌∙◌}
use mathlib.Core.List.{List, [], ◌∷◌, ◌++◌, append_assoc, append-nil}
use lib.ListN.{length, take, drop}
use lib.Seq.{drop-drop}
use Rattle.rules.specs.Lists.{each}
use Rattle.rules.specs.Unit.{Unit}
use Rattle.rules.specs.Layout.{edition, body, unit_at, row_of_unit, rows_of_units}
use Rattle.rules.proofs.Lists.{each_last}
use Rattle.rules.proofs.Encoding.Rows.{length-row}
use Rattle.rules.proofs.Encoding.Body.{body-eight}
use Rattle.rules.proofs.Encoding.Front.{Front, front-part}

rows_snoc : (us : List Unit) (u : Unit) → rows_of_units (us ++ (u ∷ [])) ≡ rows_of_units us ++ row_of_unit u
unfolding rows_of_units
rows_snoc [] u = append-nil (row_of_unit u)
rows_snoc (v ∷ us) u = rw (rows_snoc us u, append_assoc)

pub rows_more : (f : ℕ → Unit) (i : ℕ) → rows_of_units (each (i + 1) f) ≡ rows_of_units (each i f) ++ row_of_unit (f i)
rows_more f i = rw (add-one, each_last i f) (rows_snoc (each i f) (f i))

-- unit i's row is written over the k numbers from 19 i on
pub rows_next : {s₀ s : List ℕ} (file : List ℕ) (i k : ℕ) (row : List ℕ) → Front s₀ (rows_of_units (each i (unit_at file))) s (19 * i) → row ≡ row_of_unit (unit_at file i) → k ≡ 19 → Front s₀ (rows_of_units (each (i + 1) (unit_at file))) (take (19 * i) s ++ (row ++ drop k (drop (19 * i) s))) (19 * (i + 1))
rows_next {s = s} file i k row f r e =
    let n : 19 * (i + 1) ≡ 19 * i + 19 = omega arith in
    let l : length row ≡ 19 = ap length r ∙ length-row (unit_at file i) (body-eight (edition file) (body file i)) in
    rw (n, rows_more (unit_at file) i, ← r, e, drop-drop 19 (19 * i) s) (front-part f row 19 l)
