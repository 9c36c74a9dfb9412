-- Rules 1.2 and 1.8 of docs/SPECIFICATION.md: a field is a big-endian number, unsigned or in two's complement.
-- Everything is over the width w in bytes: 2, 4 and 8 are the widths in use.
use Rattle.std.specs.Prelude.{ℕ, zero, suc, ◌+◌, ◌-◌, ◌*◌, ◌/◌, ◌%◌, ◌^◌, ◌<◌, cond, List, [], ◌∷◌, ◌++◌, ltb, ℤ, pos, negsuc, get_or, take, drop}
use Rattle.std.proofs.Math.IntN.{sub_ℕ}

-- every element of a list is a byte
abbrev pub Bytes : List ℕ → Type 0
Bytes s = (i : ℕ) → get_or s i 0 < 256

-- the number that bytes spell behind those that spelled n
unfoldable pub number_after : ℕ → List ℕ → ℕ
number_after n [] = n
number_after n (byte ∷ rest) = number_after (n * 256 + byte) rest

-- the number that bytes spell, the first byte the most significant
abbrev pub number : List ℕ → ℕ
number s = number_after 0 s

-- the w bytes of a number, the last byte the least significant (of a number that does not fit, the low w bytes)
unfoldable pub bytes : ℕ → ℕ → List ℕ
bytes zero n = []
bytes (suc w) n = bytes w (n / 256) ++ (n % 256 ∷ [])

-- the number in the w bytes of s from a place on
abbrev pub field : List ℕ → ℕ → ℕ → ℕ
field s at w = number (take w (drop at s))

-- s with a number written into the w bytes from a place on: each other byte is as it was
abbrev pub written : List ℕ → ℕ → ℕ → ℕ → List ℕ
written s at w n = take at s ++ (bytes w n ++ drop (at + w) s)

-- numbers one behind the other, w bytes each
unfoldable pub bytes_of_each : ℕ → List ℕ → List ℕ
bytes_of_each w [] = []
bytes_of_each w (n ∷ ns) = bytes w n ++ bytes_of_each w ns

-- ---- (rule 1.8, since S-4) signed numbers in two's complement: of the 256 ^ w numbers of w bytes, the upper half stand for those that are less by 256 ^ w

-- the signed number that n stands for
unfoldable pub signed : ℕ → ℕ → ℤ
signed w n = cond (ltb (2 * n) (256 ^ w)) (pos n) (sub_ℕ n (256 ^ w))

-- the number that stands for a signed one
unfoldable pub unsigned : ℕ → ℤ → ℕ
unsigned w (pos n) = n
unsigned w (negsuc n) = 256 ^ w - suc n

-- the signed number in the w bytes of s from a place on
abbrev pub signed_field : List ℕ → ℕ → ℕ → ℤ
signed_field s at w = signed w (field s at w)
