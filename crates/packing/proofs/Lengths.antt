-- The units of sound rows can be packed; the lengths of their bodies added up; and what is written of one unit more: its entry, its body.
use Prim.Native.Nat.{ℕ, zero, suc, ◌+◌, ◌-◌, ◌*◌, ◌≤◌, ◌<◌}
use native.Mathlib.Nat.{add-zero}
use native.Mathlib.Numerals.{add-one}
use native.Mathlib.Omega.{arith}
use mathlib.Core.Path.{◌≡◌, ap, sym, ◌∙◌}
use mathlib.Core.List.{List, [], ◌∷◌, ◌++◌, append_assoc, append-nil}
use lib.IntN.{ℤ}
use lib.ListN.{length}
use Rattle.fields.specs.Field.{bytes}
use Rattle.rules.specs.Lists.{each}
use Rattle.rules.specs.Unit.{Unit}
use Rattle.rules.specs.Layout.{unit_in_row, body_length, body_of_unit, contents_from, bodies_of, bodies_length, file_in}
use Rattle.rules.proofs.Lists.{length-each, each_last, every-each}
use Rattle.rules.proofs.Sound.{sound}
use Rattle.rules.proofs.Encoding.Rows.{row_in_row}
use Rattle.rules.proofs.Encoding.Body.{Packable}
use Rattle.rules.proofs.Encoding.RoundTrip.{length-file}
use Rattle.packing.specs.Clauses.{RowsSound}

module _ (e : ℕ) where
  abbrev pub size_of : Unit → ℕ
  size_of u = body_length e u.zone_count

  -- ---- over lists

  sum_snoc : (us : List Unit) (u : Unit) → bodies_length e (us ++ (u ∷ [])) ≡ bodies_length e us + size_of u
  sum_snoc [] u = omega arith
  sum_snoc (v ∷ us) u = omega (arith, sum_snoc us u)

  contents_snoc : (at : ℕ) (us : List Unit) (u : Unit) → contents_from e at (us ++ (u ∷ [])) ≡ contents_from e at us ++ bytes 2 (at + bodies_length e us) ++ bytes 2 (size_of u)
  unfolding contents_from
  contents_snoc at [] u = append-nil (bytes 2 at ++ bytes 2 (size_of u)) ∙ ap (λ (n : ℕ). bytes 2 n ++ bytes 2 (size_of u)) (sym (add-zero at))
  contents_snoc at (v ∷ us) u =
      let g : at + size_of v + bodies_length e us ≡ at + (size_of v + bodies_length e us) = omega arith in
      rw (contents_snoc (at + size_of v) us u, g) (simp append_assoc)

  bodies_snoc : (us : List Unit) (u : Unit) → bodies_of e (us ++ (u ∷ [])) ≡ bodies_of e us ++ body_of_unit e u
  unfolding bodies_of
  bodies_snoc [] u = append-nil (body_of_unit e u)
  bodies_snoc (v ∷ us) u = rw (bodies_snoc us u, append_assoc)

  -- ---- of the first i of some units

  module _ (f : ℕ → Unit) where
    last : (i : ℕ) → each (i + 1) f ≡ each i f ++ (f i ∷ [])
    last i = ap (λ (n : ℕ). each n f) (add-one i) ∙ each_last i f

    abbrev pub total : ℕ → ℕ
    total i = bodies_length e (each i f)

    pub total-more : (i : ℕ) → total (i + 1) ≡ total i + size_of (f i)
    total-more i = ap (bodies_length e) (last i) ∙ sum_snoc (each i f) (f i)

    total_climbs : (i k : ℕ) → total i ≤ total (i + k)
    total_climbs i zero = rw (add-zero i) (omega arith)
    total_climbs i (suc k) = let g : i + suc k ≡ i + k + 1 = omega arith in rw g (omega (arith, total_climbs i k, total-more (i + k)))

    -- with one unit more, while there is one, the total is at most that of all
    pub total_until : (i n : ℕ) → i < n → total i + size_of (f i) ≤ total n
    total_until i n h =
        let g : i + 1 + (n - (i + 1)) ≡ n = omega arith in
        let below : total (i + 1) ≤ total n = rw g at (total_climbs (i + 1) (n - (i + 1))) in
        omega (arith, total-more i)

    pub contents-more : (at i : ℕ) → contents_from e at (each (i + 1) f) ≡ contents_from e at (each i f) ++ bytes 2 (at + total i) ++ bytes 2 (size_of (f i))
    contents-more at i = ap (contents_from e at) (last i) ∙ contents_snoc at (each i f) (f i)

    pub bodies-more : (i : ℕ) → bodies_of e (each (i + 1) f) ≡ bodies_of e (each i f) ++ body_of_unit e (f i)
    bodies-more i = ap (bodies_of e) (last i) ∙ bodies_snoc (each i f) (f i)

-- ---- of sound rows

module _ {e : ℕ} {rows : List ℕ} {b1 : List ℤ} {n : ℕ} (r : RowsSound e rows b1 n) where
  pub packable : (i : ℕ) → i < n → Packable e (unit_in_row rows b1 i)
  packable i h = record { sound = sound (unit_in_row rows b1 i) (r.accepted i h); row = row_in_row e rows b1 n i r.room r.given h }

  -- row i as it is held
  pub few-zones : (i : ℕ) → i < n → {u : Unit} → u ≡ unit_in_row rows b1 i → u.zone_count ≤ 4
  few-zones i h g = rw g (packable i h).sound.zone_count

  pub length_rows_file : (d : ℕ) → length (file_in e d (each n (unit_in_row rows b1))) ≡ 8 + 4 * n + total e (unit_in_row rows b1) n
  length_rows_file d =
      length-file e d (each n (unit_in_row rows b1)) (every-each (Packable e) n (unit_in_row rows b1) packable)
      ∙ ap (λ (k : ℕ). 8 + 4 * k + total e (unit_in_row rows b1) n) (length-each n (unit_in_row rows b1))
