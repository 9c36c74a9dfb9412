-- What unpacking gives, case by case.
use Rattle.std.specs.Prelude.{Ok, Err}
use Prim.Native.Nat.{ℕ, ◌≤◌, ◌<◌}
use mathlib.Core.Path.{◌≡◌}
use mathlib.Core.List.{List}
use lib.ListN.{length}
use borrow.Author.Tests.{lt-ltb, le-ltb}
use Rattle.rules.specs.Lists.{each, over}
use Rattle.rules.specs.Layout.{unit_at, case_of, rows_of_units, count, demand}
use Rattle.rules.specs.Refusal.{edition_verdict, file_verdict}
use Rattle.rules.specs.Calls.{unpack_verdict, unpack_ends, unpacked}
use Rattle.rules.specs.declared.Refusal.{Refusal}
use Rattle.rules.specs.declared.Refusal.TheVariants.{BufferTooShort}
use Rattle.rules.proofs.Lists.{length-each}

module _ (file rows : List ℕ) where
  pub unpacked-short : length rows < 608 → unpacked file rows ≡ record { answer = Err BufferTooShort; rows = rows }
  unfolding unpacked unpack_verdict unpack_ends
  unpacked-short h = rw (lt-ltb (length rows) 608 h)

  module _ (long : 608 ≤ length rows) where
    pub unpacked-edition : {r : Refusal} → edition_verdict 1 file ≡ Err r → unpacked file rows ≡ record { answer = Err r; rows = rows }
    unfolding unpacked unpack_verdict unpack_ends
    unpacked-edition e = rw (le-ltb (length rows) 608 long, e)

    pub unpacked-refused : {r : Refusal} → edition_verdict 1 file ≡ Ok tt → file_verdict file ≡ Err r → unpacked file rows ≡ record { answer = Err r; rows = rows }
    unfolding unpacked unpack_verdict unpack_ends
    unpacked-refused one e = rw (le-ltb (length rows) 608 long, one, e)

    -- the rows are those of the case's units
    pub unpacked-read : edition_verdict 1 file ≡ Ok tt → file_verdict file ≡ Ok tt → unpacked file rows ≡ record { answer = Ok (record { demand = demand file; count = count file }); rows = over (rows_of_units (each (count file) (unit_at file))) rows }
    unfolding unpacked unpack_verdict unpack_ends case_of
    unpacked-read one e = rw (le-ltb (length rows) 608 long, one, e, length-each (count file) (unit_at file))
