-- What packing gives, case by case, in either edition: refusals 12, 5, per row 7 to 10 and 18, 13, and then the file.
use Rattle.std.specs.Prelude.{Ok, Err}
use Prim.Native.Nat.{ℕ, ◌+◌, ◌*◌, ◌/◌, ◌≤◌, ◌<◌}
use native.Mathlib.Omega.{arith}
use mathlib.Core.Path.{◌≡◌, ap, ◌∙◌}
use mathlib.Core.Bool.{Bool, true, false}
use mathlib.Core.List.{List}
use lib.ListN.{length}
use borrow.Author.Tests.{lt-ltb, le-ltb}
use Rattle.rules.specs.Lists.{each, over}
use Rattle.rules.specs.Layout.{in_second, units_of_rows, bodies_length, file_in}
use Rattle.rules.specs.Refusal.{in_order, unit_verdict, Verdict}
use Rattle.rules.specs.Calls.{PackResult, rows_invalid, pack_verdict, pack_ends, packed_in}
use Rattle.rules.specs.declared.Refusal.{Refusal}
use Rattle.rules.specs.declared.Refusal.TheVariants.{RowsInvalid, DemandOutOfRange, FileBufferTooShort}
use Rattle.rules.proofs.Lists.{length-each, each-every, map_each}
use Rattle.rules.proofs.Verdicts.{in_order_accepted, accepts}
use Rattle.packing.specs.declared.reading.Rows.{Rows}
use Rattle.packing.specs.Clauses.{row_count, unit_in, units_in, AreSound}
use Rattle.packing.proofs.Lengths.{length_rows_file}

pub few-rows : (e l losses : ℕ) → rows_invalid e l losses ≡ false → (l ≤ 608) × (losses ≡ in_second e (l / 19))
few-rows e l losses g = let (((given, some), whole), few) = simp accepts at g in (few, given)

abbrev pub invalid : Rows → Bool
invalid r = rows_invalid r.edition (length r.numbers.now) (length r.b1.now)

abbrev pub row_verdicts : Rows → Verdict
row_verdicts r = in_order (each (row_count r) (λ i. unit_verdict (unit_in r i)))

pub rows-sound : (r : Rows) → invalid r ≡ false → row_verdicts r ≡ Ok tt → AreSound r
rows-sound r some accepted =
    let verdict : ℕ → Verdict = λ i. unit_verdict (unit_in r i) in
    let (few, given) = few-rows r.edition (length r.numbers.now) (length r.b1.now) some in
    record {
      room = omega arith;
      most = omega arith;
      given = given;
      accepted = each-every (λ v. v ≡ Ok tt) (row_count r) verdict ((in_order_accepted (each (row_count r) verdict)).0 accepted);
    }

abbrev pub rows_file_length : Rows → ℕ
rows_file_length r = 8 + 4 * row_count r + bodies_length r.edition (units_in r)

module _ (r : Rows) (d : ℕ) (file : List ℕ) where
  -- what is answered, and the file behind it
  abbrev pub answered : PackResult
  answered = packed_in r.edition d r.numbers.now r.b1.now file

  -- the file is written, and the answer is its length
  abbrev pub written : ℕ → PackResult
  written l = record { answer = Ok l; file = over (file_in r.edition d (units_in r)) file }

  abbrev refused : Refusal → PackResult
  refused x = record { answer = Err x; file = file }

  pub packed-rows : invalid r ≡ true → answered ≡ refused RowsInvalid
  unfolding packed_in pack_verdict pack_ends
  packed-rows g = rw g

  module _ (some : invalid r ≡ false) where
    pub packed-demand : 320000 < d → answered ≡ refused DemandOutOfRange
    unfolding packed_in pack_verdict pack_ends
    packed-demand h = rw (some, lt-ltb 320000 d h)

    module _ (small : d ≤ 320000) where
      pub packed-row : {x : Refusal} → row_verdicts r ≡ Err x → answered ≡ refused x
      unfolding packed_in pack_verdict pack_ends units_of_rows
      packed-row g = rw (some, le-ltb 320000 d small, map_each unit_verdict (row_count r) (unit_in r), g)

      module _ (accepted : row_verdicts r ≡ Ok tt) where
        pub packed-short : length file < rows_file_length r → answered ≡ refused FileBufferTooShort
        unfolding packed_in pack_verdict pack_ends units_of_rows
        packed-short h =
            rw (
              some,
              le-ltb 320000 d small,
              map_each unit_verdict (row_count r) (unit_in r),
              accepted,
              length-each (row_count r) (unit_in r),
              lt-ltb (length file) (rows_file_length r) h,
            )

        whole : rows_file_length r ≤ length file → answered ≡ written (length (file_in r.edition d (units_in r)))
        unfolding packed_in pack_verdict pack_ends units_of_rows
        whole h =
            rw (
              some,
              le-ltb 320000 d small,
              map_each unit_verdict (row_count r) (unit_in r),
              accepted,
              length-each (row_count r) (unit_in r),
              le-ltb (length file) (rows_file_length r) h,
            )

        pub packed-written : rows_file_length r ≤ length file → answered ≡ written (rows_file_length r)
        packed-written h = whole h ∙ ap written (length_rows_file (rows-sound r some accepted) d)
