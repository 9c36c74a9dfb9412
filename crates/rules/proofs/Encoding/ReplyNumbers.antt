-- A reply's numbers as bytes, over the width of the second (of dispatch 2, of refining 4): each fits its field, and is read back at its place.
use mathlib.Core.Path.{◌≡◌, ◌∙◌}
use mathlib.Core.List.{List, [], ◌∷◌, ◌++◌, append_assoc}
use Prim.Native.Nat.{ℕ, ◌+◌, ◌*◌, ◌^◌, ◌<◌}
use native.Mathlib.Omega.{arith}
use lib.ListN.{length, get_or, length-append}
use Rattle.fields.specs.Field.{field, bytes, bytes_of_each}
use Rattle.fields.proofs.Width.{length-bytes}
use Rattle.rules.specs.Lists.{each, Every}
use Rattle.rules.proofs.Lists.{each_same, each_get_or}
use Rattle.rules.proofs.Encoding.Pieces.{Piece, Fits, spell, place, widths, read-piece, read_behind, read-each, length_each_bytes}

-- every number fits its field
pub record Fitting (w n c g s : ℕ) (ps : List ℕ) : Type 0 where
  pub count : length ps < 65536
  pub second : n < 256 ^ w
  pub cost : c < 18446744073709551616
  pub gap : g < 18446744073709551616
  pub surplus : s < 18446744073709551616
  pub outputs : Every (λ p. p < 65536) ps

module _ (w n c g s : ℕ) (ps : List ℕ) where
  abbrev pub numbers : List ℕ
  numbers = bytes 2 (length ps) ++ bytes w n ++ bytes 8 c ++ bytes 8 g ++ bytes 8 s ++ bytes_of_each 2 ps

  pub length-numbers : length numbers ≡ 26 + w + 2 * length ps
  length-numbers = simp (length-append, length-bytes, length_each_bytes) (omega arith)

  -- the five numbers before the outputs
  abbrev head : List Piece
  head =
      record { width = 2; value = length ps } ∷ record { width = w; value = n } ∷ record { width = 8; value = c }
      ∷ record { width = 8; value = g } ∷ record { width = 8; value = s } ∷ []

  module _ (f : Fitting w n c g s ps) (rest : List ℕ) where
    abbrev behind : List ℕ
    behind = bytes_of_each 2 ps ++ rest

    -- they stand first, then the outputs, then the rest of the buffer
    in_pieces : numbers ++ rest ≡ spell head behind
    in_pieces = simp append_assoc

    head-fits : Every Fits head
    head-fits = (f.count, (f.second, (f.cost, (f.gap, (f.surplus, tt)))))

    pub read_count : field (numbers ++ rest) 0 2 ≡ length ps
    read_count = rw in_pieces (read-piece head behind 0 (omega arith) head-fits)

    pub read-second : field (numbers ++ rest) 2 w ≡ n
    read-second = rw in_pieces (read-piece head behind 1 (omega arith) head-fits)

    pub read-cost : field (numbers ++ rest) (2 + w) 8 ≡ c
    read-cost = let at : 2 + w ≡ place head 2 = omega arith in rw (in_pieces, at) (read-piece head behind 2 (omega arith) head-fits)

    pub read-gap : field (numbers ++ rest) (10 + w) 8 ≡ g
    read-gap = let at : 10 + w ≡ place head 3 = omega arith in rw (in_pieces, at) (read-piece head behind 3 (omega arith) head-fits)

    pub read-surplus : field (numbers ++ rest) (18 + w) 8 ≡ s
    read-surplus = let at : 18 + w ≡ place head 4 = omega arith in rw (in_pieces, at) (read-piece head behind 4 (omega arith) head-fits)

    read-output : (k : ℕ) → k < length ps → field (numbers ++ rest) (26 + w + 2 * k) 2 ≡ get_or ps k 0
    read-output k h =
        let at : 26 + w + 2 * k ≡ widths head + 2 * k = omega arith in
        rw (in_pieces, at) (read_behind head behind (2 * k) 2 ∙ read-each 2 ps rest k h f.outputs)

    pub read-outputs : each (field (numbers ++ rest) 0 2) (λ k. field (numbers ++ rest) (26 + w + 2 * k) 2) ≡ ps
    read-outputs =
        rw read_count
        (each_same (length ps) (λ k. field (numbers ++ rest) (26 + w + 2 * k) 2) (λ k. get_or ps k 0) read-output ∙ each_get_or ps 0)
