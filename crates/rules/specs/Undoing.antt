-- Rules 16.4 to 16.6 and 16.27 (demand 2: packing and unpacking undo each other) and 16.15 (a zone is obeyed or its file refused) of docs/SPECIFICATION.md, as statements. (They are proved in proofs/Encoding/Undo and proofs/Obeyed.) Files of edition 1 are the only ones that unpack; what is packed in edition 2 is read back as a case. The zones are those of both editions.
use Rattle.std.specs.Prelude.{ℕ, ◌+◌, ◌*◌, ◌/◌, ◌≤◌, ◌<◌, false, List, map, ◌⊎◌, ◌≡◌, ℤ, length, get_or, take, Ok, Err}
use Rattle.fields.specs.Field.{Bytes}
use Rattle.rules.specs.Lists.{over}
use Rattle.rules.specs.Unit.{permitted}
use Rattle.rules.specs.Layout.{case_of, units_of_rows, rows_of_units, count, body, unit_at}
use Rattle.rules.specs.Refusal.{file_verdict}
use Rattle.rules.specs.Calls.{packed, packed2, unpacked}
use Rattle.rules.specs.declared.Refusal.{Refusal}

-- a file that is accepted, and whose case is a demand, rows and a b1 for each
pub record PackedCase (d : ℕ) (rows : List ℕ) (b1 : List ℤ) (file : List ℕ) : Type 0 where
  pub accepted : file_verdict file ≡ Ok tt
  pub case : case_of file ≡ record { demand = d; units = units_of_rows rows b1 }
  pub rows_back : rows_of_units (case_of file).units ≡ rows
  pub losses-back : map (λ u. u.b1) (case_of file).units ≡ b1

-- (rule 16.4) what packing writes is an accepted file
abbrev pub PackedFileIsAccepted : Type 0
PackedFileIsAccepted =
    (d : ℕ) (rows buffer : List ℕ) (n : ℕ)
    → (packed d rows buffer).answer ≡ Ok n
    → file_verdict (take n (packed d rows buffer).file) ≡ Ok tt

-- and one of edition 2 is accepted too, and read as the case that was packed: its demand, its rows and its b1
abbrev pub ReadingUndoesPacking2 : Type 0
ReadingUndoesPacking2 =
    (d : ℕ) (rows : List ℕ) (b1 : List ℤ) (buffer : List ℕ) (n : ℕ)
    → (packed2 d rows b1 buffer).answer ≡ Ok n
    → PackedCase d rows b1 (take n (packed2 d rows b1 buffer).file)

-- (rule 16.5) and unpacking it gives back exactly the demand and the rows
abbrev pub UnpackingUndoesPacking : Type 0
UnpackingUndoesPacking =
    (d : ℕ) (rows buffer out : List ℕ) (n : ℕ)
    → (packed d rows buffer).answer ≡ Ok n
    → 608 ≤ length out
    → unpacked (take n (packed d rows buffer).file) out ≡ record { answer = Ok (record { demand = d; count = length rows / 19 }); rows = over rows out }

-- (rule 16.6) what unpacking gives for an accepted file packs to exactly that file
abbrev pub PackingUndoesUnpacking : Type 0
PackingUndoesUnpacking =
    (file out buffer : List ℕ) (d n : ℕ)
    → Bytes file
    → (unpacked file out).answer ≡ Ok (record { demand = d; count = n })
    → length file ≤ length buffer
    → packed d (take (19 * n) (unpacked file out).rows) buffer ≡ record { answer = Ok (length file); file = over file buffer }

-- the number that two bytes spell, the most significant one first
abbrev pub two_bytes : List ℕ → ℕ → ℕ
two_bytes s at = 256 * get_or s at 0 + get_or s (at + 1) 0

-- a file is refused, or of every unit i and every zone k that its bytes spell, the edges of a body from a place on, no output strictly between the zone's edges is permitted
abbrev pub ObeysZonesFrom : ℕ → List ℕ → Type 0
ObeysZonesFrom at file =
    ((r : Refusal) × (file_verdict file ≡ Err r))
    ⊎ ((i k p : ℕ)
    → i < count file
    → k < two_bytes (body file i) 24
    → two_bytes (body file i) (at + 4 * k) < p
    → p < two_bytes (body file i) (at + 2 + 4 * k)
    → permitted (unit_at file i) p ≡ false)

-- (rule 16.15) every file: of edition 1 with its edges from byte 26 of a body on, of edition 2 (since S-4) from byte 30 on; any other is refused
pub record ZoneObeyedOrFileRefused (file : List ℕ) : Type 0 where
  pub edition1 : two_bytes file 0 ≡ 1 → ObeysZonesFrom 26 file
  pub edition2 : two_bytes file 0 ≡ 2 → ObeysZonesFrom 30 file
  pub other : (two_bytes file 0 ≡ 1 → ⊥) → (two_bytes file 0 ≡ 2 → ⊥) → (r : Refusal) × (file_verdict file ≡ Err r)
