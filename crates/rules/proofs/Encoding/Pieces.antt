-- Fields written one behind the other: the field at the sum of the widths before it is its value, and writing what was read changes nothing.
use Prim.Native.Nat.{ℕ, zero, suc, ◌+◌, ◌*◌, ◌^◌, ◌≤◌, ◌<◌}
use native.Mathlib.Nat.{zero-add, add-zero, add_assoc, mul-zero}
use native.Mathlib.Omega.{arith}
use mathlib.Core.Path.{◌≡◌, sym, ◌∙◌}
use mathlib.Core.List.{List, [], ◌∷◌, ◌++◌, append_assoc}
use lib.ListN.{length, get_or, take, drop, length-append, length-drop, take-append-drop}
use lib.Seq.{take_at, drop-append-add, drop-drop, length-take-le}
use Rattle.fields.specs.Field.{Bytes, bytes, field, bytes_of_each}
use Rattle.fields.proofs.Width.{number-bytes, length-bytes, bytes-number, bytes-part}
use Rattle.rules.specs.Lists.{each, sum, Every}
use Rattle.rules.proofs.Lists.{each_same}

-- ---- one field

field-first : (w n : ℕ) (rest : List ℕ) → n < 256 ^ w → field (bytes w n ++ rest) 0 w ≡ n
field-first w n rest h = rw (take_at (bytes w n) rest w (length-bytes w n)) (number-bytes w n h)

-- a place of a list is a place of what stands before it, and then others
pub field-behind : (p s : List ℕ) (n at w : ℕ) → length p ≡ n → field (p ++ s) (n + at) w ≡ field s at w
field-behind p s n at w e = rw (← e, drop-append-add p s at)

-- writing what was read
field-again : (s : List ℕ) (at w : ℕ) → at + w ≤ length s → Bytes s → bytes w (field s at w) ++ drop (at + w) s ≡ drop at s
field-again s at w h b =
    let l : length (take w (drop at s)) ≡ w = length-take-le w (drop at s) (simp length-drop (omega arith)) in
    rw (bytes-number w (take w (drop at s)) l (bytes-part s at w b), ← drop-drop w at s) (take-append-drop w (drop at s))

-- ---- pieces: numbers, and the width in bytes of each

pub record Piece : Type 0 where
  pub width : ℕ
  pub value : ℕ

abbrev pub Fits : Piece → Type 0
Fits p = p.value < 256 ^ p.width

-- the bytes of pieces, and then others
abbrev pub spell : List Piece → List ℕ → List ℕ
spell [] rest = rest
spell (p ∷ ps) rest = bytes p.width p.value ++ spell ps rest

abbrev pub widths : List Piece → ℕ
widths [] = 0
widths (p ∷ ps) = p.width + widths ps

-- piece k, and the place where it stands
abbrev pub piece : List Piece → ℕ → Piece
piece ps k = get_or ps k (record { width = 0; value = 0 })

abbrev pub place : List Piece → ℕ → ℕ
place [] k = 0
place (p ∷ ps) zero = 0
place (p ∷ ps) (suc k) = p.width + place ps k

-- reading a piece gives its value
pub read-piece : (ps : List Piece) (rest : List ℕ) (k : ℕ) → k < length ps → Every Fits ps → field (spell ps rest) (place ps k) (piece ps k).width ≡ (piece ps k).value
read-piece [] rest k h f = absurd (omega arith)
read-piece (p ∷ ps) rest zero h f = field-first p.width p.value (spell ps rest) f.0
read-piece (p ∷ ps) rest (suc k) h f =
    field-behind (bytes p.width p.value) (spell ps rest) p.width (place ps k) (piece ps k).width (length-bytes p.width p.value)
    ∙ read-piece ps rest k (omega arith) f.1

-- reading behind them
pub read_behind : (ps : List Piece) (rest : List ℕ) (at w : ℕ) → field (spell ps rest) (widths ps + at) w ≡ field rest at w
read_behind [] rest at w = rw zero-add
read_behind (p ∷ ps) rest at w =
    rw (add_assoc p.width (widths ps) at)
    (field-behind (bytes p.width p.value) (spell ps rest) p.width (widths ps + at) w (length-bytes p.width p.value) ∙ read_behind ps rest at w)

pub length-spell : (ps : List Piece) (rest : List ℕ) → length (spell ps rest) ≡ widths ps + length rest
length-spell [] rest = omega arith
length-spell (p ∷ ps) rest = simp (length-append, length-bytes, length-spell ps rest) (omega arith)

-- the pieces of given widths that stand in a list from a place on
abbrev pub pieces : List ℕ → ℕ → List ℕ → List Piece
pieces s at [] = []
pieces s at (w ∷ ws) = record { width = w; value = field s at w } ∷ pieces s (at + w) ws

-- writing what was read
pub spell-pieces : (s : List ℕ) (at : ℕ) (ws : List ℕ) → at + sum ws ≤ length s → Bytes s → spell (pieces s at ws) (drop (at + sum ws) s) ≡ drop at s
spell-pieces s at [] h b = rw add-zero
spell-pieces s at (w ∷ ws) h b =
    rw (← add_assoc at w (sum ws), spell-pieces s (at + w) ws (omega arith) b) (field-again s at w (omega arith) b)

-- ---- numbers of one width

module _ (w : ℕ) where
  -- reading number k
  pub read-each : (ns rest : List ℕ) (k : ℕ) → k < length ns → Every (λ n. n < 256 ^ w) ns → field (bytes_of_each w ns ++ rest) (w * k) w ≡ get_or ns k 0
  unfolding bytes_of_each
  read-each [] rest k h f = absurd (omega arith)
  read-each (n ∷ ns) rest zero h f = rw (mul-zero, append_assoc) (field-first w n (bytes_of_each w ns ++ rest) f.0)
  read-each (n ∷ ns) rest (suc k) h f =
      let e : w * suc k ≡ w + w * k = omega arith in
      rw (e, append_assoc) (field-behind (bytes w n) (bytes_of_each w ns ++ rest) w (w * k) w (length-bytes w n) ∙ read-each ns rest k (omega arith) f.1)

  pub length_each_bytes : (ns : List ℕ) → length (bytes_of_each w ns) ≡ w * length ns
  unfolding bytes_of_each
  length_each_bytes [] = sym (mul-zero w)
  length_each_bytes (n ∷ ns) = simp (length-append, length-bytes, length_each_bytes ns) (omega arith)

  -- writing what was read
  pub each_again : (s : List ℕ) (at n : ℕ) → at + w * n ≤ length s → Bytes s → bytes_of_each w (each n (λ k. field s (at + w * k) w)) ++ drop (at + w * n) s ≡ drop at s
  unfolding bytes_of_each
  each_again s at zero h b = rw (mul-zero, add-zero)
  each_again s at (suc n) h b =
      let e : at + w * suc n ≡ at + w + w * n = omega arith in
      let f : each n (λ k. field s (at + w * suc k) w) ≡ each n (λ k. field s (at + w + w * k) w) =
      each_same n (λ k. field s (at + w * suc k) w) (λ k. field s (at + w + w * k) w)
      (λ k j. let i : at + w * suc k ≡ at + w + w * k = omega arith in rw i) in
      rw (e, f, append_assoc, each_again s (at + w) n (omega arith) b, mul-zero, add-zero) (field-again s at w (omega arith) b)
