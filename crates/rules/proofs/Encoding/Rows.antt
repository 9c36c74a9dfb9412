-- A row and its unit: each is read back from the other, and so are lists of them.
use Prim.Native.Nat.{ℕ, zero, suc, ◌+◌, ◌*◌, ◌/◌, ◌≤◌, ◌<◌}
use native.Mathlib.Omega.{arith}
use mathlib.Core.Path.{◌≡◌, refl, sym, ap, ap₂, ◌∙◌}
use mathlib.Core.List.{List, [], ◌∷◌, ◌++◌}
use mathlib.Core.Bool.{Bool, true, false, cond}
use lib.Dec.{eqb}
use lib.IntN.{ℤ, pos}
use lib.ListN.{length, get_or, take, drop, length-append, length-drop, take-append-drop, get_or-eq_default}
use lib.Seq.{take_all, take_at, drop_at, drop-drop, length-take-le, take-add}
use Rattle.rules.specs.Lists.{each, Every}
use Rattle.rules.specs.Unit.{Unit, with_loss}
use Rattle.rules.specs.Layout.{in_second, unit_of_row, row_of_unit, row_at, unit_in_row, units_of_rows, rows_of_units}
use Rattle.rules.proofs.Lists.{each_same, each_take, every-each}

-- a unit that a row, and in edition 2 a b1 beside it, can hold: it has eight edges, and in edition 1 no linear loss
pub record InRow (e : ℕ) (u : Unit) : Type 0 where
  pub eight : length u.edges ≡ 8
  pub loss : cond (eqb e 2) u.b1 (pos 0) ≡ u.b1

-- ---- one row

pub row_unit_row : (row : List ℕ) (z : ℤ) → length row ≡ 19 → row_of_unit (with_loss (unit_of_row row) z) ≡ row
unfolding unit_of_row with_loss row_of_unit
row_unit_row row z e =
    let front : each 11 (λ i. get_or row i 0) ≡ take 11 row = each_take 11 row 0 (omega arith) in
    let back : take 8 (drop 11 row) ≡ drop 11 row = take_all 8 (drop 11 row) (simp length-drop (omega arith)) in
    ap₂ (λ (s t : List ℕ). s ++ t) front back ∙ take-append-drop 11 row

pub unit_row_unit : (u : Unit) → InRow 1 u → with_loss (unit_of_row (row_of_unit u)) (pos 0) ≡ u
unfolding unit_of_row with_loss row_of_unit
unit_row_unit u e =
    λ i.
    record {
      c0 = u.c0;
      c1 = u.c1;
      c2 = u.c2;
      b = u.b;
      b1 = e.loss i;
      least = u.least;
      greatest = u.greatest;
      previous = u.previous;
      up = u.up;
      down = u.down;
      mark = u.mark;
      zone_count = u.zone_count;
      edges = take_all 8 u.edges (omega arith) i;
    }

pub length-row : (u : Unit) → length u.edges ≡ 8 → length (row_of_unit u) ≡ 19
unfolding row_of_unit
length-row u e = omega arith

-- ---- rows one behind the other

pub length_row_at : (rows : List ℕ) (n i : ℕ) → 19 * n ≤ length rows → i < n → length (row_at rows i) ≡ 19
length_row_at rows n i h k = length-take-le 19 (drop (19 * i) rows) (simp length-drop (omega arith))

-- row i of n, where the list beside the rows has a b1 for each in edition 2, and none in edition 1
pub row_in_row : (e : ℕ) (rows : List ℕ) (b1 : List ℤ) (n i : ℕ) → 19 * n ≤ length rows → length b1 ≡ in_second e n → i < n → InRow e (unit_in_row rows b1 i)
unfolding unit_of_row with_loss
row_in_row e rows b1 n i h g k =
    record {
      eight = length-take-le 8 (drop 11 (row_at rows i)) (simp length-drop (omega (arith, length_row_at rows n i h k)));
      loss = by (eqb e 2) g;
    }
  where
    by : (t : Bool) → length b1 ≡ cond t n 0 → cond t (get_or b1 i (pos 0)) (pos 0) ≡ get_or b1 i (pos 0)
    by true g = refl
    by false g = sym (get_or-eq_default b1 (pos 0) {n = i} (omega arith))

-- the rows behind the first
rows-later : (rows : List ℕ) (i : ℕ) → row_at rows (suc i) ≡ row_at (drop 19 rows) i
rows-later rows i = let e : 19 * suc i ≡ 19 + 19 * i = omega arith in rw (e, drop-drop)

-- the unit of row i with any b1
abbrev unit_with : List ℕ → (ℕ → ℤ) → ℕ → Unit
unit_with rows z i = with_loss (unit_of_row (row_at rows i)) (z i)

rows-front : (rows : List ℕ) (z : ℕ → ℤ) (n : ℕ) → 19 * n ≤ length rows → rows_of_units (each n (unit_with rows z)) ≡ take (19 * n) rows
unfolding rows_of_units
rows-front rows z zero h = refl
rows-front rows z (suc n) h =
    let others : ℕ → ℤ = λ i. z (suc i) in
    let later : each n (λ i. unit_with rows z (suc i)) ≡ each n (unit_with (drop 19 rows) others) =
    each_same n (λ i. unit_with rows z (suc i)) (unit_with (drop 19 rows) others) (λ i k. ap (λ (r : List ℕ). with_loss (unit_of_row r) (z (suc i))) (rows-later rows i)) in
    let e : 19 * suc n ≡ 19 + 19 * n = omega arith in
    rw (later, e, take-add 19 (19 * n) rows, row_unit_row (take 19 rows) (z 0) (length_row_at rows (suc n) 0 h (omega arith)), rows-front (drop 19 rows) others n (simp length-drop (omega arith)))

pub rows_units_rows : (rows : List ℕ) (b1 : List ℤ) (n : ℕ) → length rows ≡ 19 * n → rows_of_units (units_of_rows rows b1) ≡ rows
unfolding units_of_rows
rows_units_rows rows b1 n e =
    let m : length rows / 19 ≡ n = omega arith in
    rw m (rows-front rows (λ i. get_or b1 i (pos 0)) n (omega arith) ∙ take_all (19 * n) rows (omega arith))

pub length-rows : (us : List Unit) → Every (InRow 1) us → length (rows_of_units us) ≡ 19 * length us
unfolding rows_of_units
length-rows [] p = refl
length-rows (u ∷ us) p = simp (length-append, length-row u p.0.eight, length-rows us p.1) (omega arith)

rows-read : (us : List Unit) → Every (InRow 1) us → each (length us) (unit_in_row (rows_of_units us) []) ≡ us
unfolding rows_of_units
rows-read [] p = refl
rows-read (u ∷ us) p =
    let rest = rows_of_units us in
    let long : length (row_of_unit u) ≡ 19 = length-row u p.0.eight in
    let first : with_loss (unit_of_row (take 19 (row_of_unit u ++ rest))) (pos 0) ≡ u = rw (take_at (row_of_unit u) rest 19 long) (unit_row_unit u p.0) in
    let behind : drop 19 (row_of_unit u ++ rest) ≡ rest = drop_at (row_of_unit u) rest 19 long in
    let later : each (length us) (λ i. unit_in_row (row_of_unit u ++ rest) [] (suc i)) ≡ each (length us) (unit_in_row rest []) =
    each_same (length us) (λ i. unit_in_row (row_of_unit u ++ rest) [] (suc i)) (unit_in_row rest [])
    (λ i k. ap (λ (s : List ℕ). with_loss (unit_of_row s) (pos 0)) (rows-later (row_of_unit u ++ rest) i ∙ ap (λ (s : List ℕ). row_at s i) behind)) in
    ap₂ (λ (v : Unit) (vs : List Unit). v ∷ vs) first (later ∙ rows-read us p.1)

pub units_rows_units : (us : List Unit) → Every (InRow 1) us → units_of_rows (rows_of_units us) [] ≡ us
unfolding units_of_rows
units_rows_units us p =
    let n : length (rows_of_units us) / 19 ≡ length us = omega (arith, length-rows us p) in
    rw n (rows-read us p)

-- every unit that is read from rows is one that a row can hold
pub rows_in_row : (e : ℕ) (rows : List ℕ) (b1 : List ℤ) → length b1 ≡ in_second e (length rows / 19) → Every (InRow e) (units_of_rows rows b1)
unfolding units_of_rows
rows_in_row e rows b1 g =
    every-each (InRow e) (length rows / 19) (unit_in_row rows b1) (λ i h. row_in_row e rows b1 (length rows / 19) i (omega arith) g h)
