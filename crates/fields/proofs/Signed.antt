-- A signed number and the number that stands for it in two's complement: each is read back from the other, shown once, over the width.
use Prim.Native.Nat.{ℕ, suc, ◌+◌, ◌-◌, ◌*◌, ◌^◌, ◌≤◌, ◌<◌}
use native.Mathlib.Nat.{pow-suc, add-zero}
use native.Mathlib.Decide.{dec_lt}
use native.Mathlib.Omega.{arith}
use mathlib.Core.Path.{◌≡◌, refl, ap, ◌∙◌}
use mathlib.Core.List.{List, [], ◌∷◌}
use lib.IntN.{ℤ, pos, negsuc, sub_ℕ}
use mir.Syntax.{w32}
use mir.Val.{to_z, of_z}
use lib.ListN.{length, take, drop, length-drop}
use lib.Seq.{length-take-le}
use borrow.Author.Tests.{lt-ltb, le-ltb}
use Rattle.fields.specs.Field.{Bytes, number_after, field, written, signed, unsigned, signed_field}
use Rattle.fields.specs.Integers.{positive_part, negative_part}
use Rattle.fields.proofs.Integers.{is-negsuc, is-sub, same}
use Rattle.fields.proofs.Width.{bytes-part, read-written, written_read}

-- the lower half stand for themselves, the upper half for what is less by 256 ^ w
pub signed_lower : (w n : ℕ) → 2 * n < 256 ^ w → signed w n ≡ pos n
unfolding signed
signed_lower w n h = rw (lt-ltb (2 * n) (256 ^ w) h)

pub signed-upper : (w n : ℕ) → 256 ^ w ≤ 2 * n → signed w n ≡ sub_ℕ n (256 ^ w)
unfolding signed
signed-upper w n h = rw (le-ltb (2 * n) (256 ^ w) h)

-- the number that stands for what n stands for is n
pub unsigned_signed : (w n : ℕ) → n < 256 ^ w → unsigned w (signed w n) ≡ n
unfolding unsigned
unsigned_signed w n h = by (dec_lt (2 * n) (256 ^ w))
  where
    upper : (k : ℕ) → k + suc n ≡ 256 ^ w → sub_ℕ n (256 ^ w) ≡ negsuc k
    upper k e = same (is-sub n (256 ^ w)) (is-negsuc k) (omega arith)

    by : Dec (2 * n < 256 ^ w) → unsigned w (signed w n) ≡ n
    by (yes k) = rw (signed_lower w n k)
    by (no k) = rw (signed-upper w n (omega arith), upper (256 ^ w - suc n) (omega arith)) (omega arith)

-- and a signed number of w bytes is what its number stands for
pub signed-unsigned : (w : ℕ) (z : ℤ) → 2 * positive_part z < 256 ^ w → 2 * negative_part z ≤ 256 ^ w → signed w (unsigned w z) ≡ z
unfolding unsigned positive_part negative_part
signed-unsigned w (pos n) h k = signed_lower w n h
signed-unsigned w (negsuc n) h k =
    signed-upper w (256 ^ w - suc n) (omega arith) ∙ same (is-sub (256 ^ w - suc n) (256 ^ w)) (is-negsuc n) (omega arith)

pub unsigned-fits : (w : ℕ) (z : ℤ) → 2 * positive_part z < 256 ^ w → 2 * negative_part z ≤ 256 ^ w → unsigned w z < 256 ^ w
unfolding unsigned positive_part negative_part
unsigned-fits w (pos n) h k = omega arith
unsigned-fits w (negsuc n) h k = omega arith

-- reading gives back what was written
pub read_written_signed : (s : List ℕ) (at w : ℕ) (z : ℤ) → at + w ≤ length s → 2 * positive_part z < 256 ^ w → 2 * negative_part z ≤ 256 ^ w → signed_field (written s at w (unsigned w z)) at w ≡ z
read_written_signed s at w z h j k = ap (signed w) (read-written s at w (unsigned w z) h (unsigned-fits w z j k)) ∙ signed-unsigned w z j k

-- bytes spell a number that fits
after-fits : (n k : ℕ) (s : List ℕ) → n < 256 ^ k → Bytes s → number_after n s < 256 ^ (k + length s)
unfolding number_after
after-fits n k [] h b = rw (add-zero k) h
after-fits n k (x ∷ s) h b =
    let e : k + length (x ∷ s) ≡ suc k + length s = omega arith in
    let wider : 256 ^ suc k ≡ 256 ^ k * 256 = pow-suc 256 k in
    rw e (after-fits (n * 256 + x) (suc k) s (omega (arith, wider, b 0)) (λ i. b (suc i)))

pub field_fits : (s : List ℕ) (at w : ℕ) → at + w ≤ length s → Bytes s → field s at w < 256 ^ w
field_fits s at w h b =
    let long : length (take w (drop at s)) ≡ w = length-take-le w (drop at s) (simp length-drop (omega arith)) in
    let e : 0 + length (take w (drop at s)) ≡ w = omega arith in
    rw e at (after-fits 0 0 (take w (drop at s)) (omega arith) (bytes-part s at w b))

-- and writing what was read changes nothing
pub written_read_signed : (s : List ℕ) (at w : ℕ) → at + w ≤ length s → Bytes s → written s at w (unsigned w (signed_field s at w)) ≡ s
written_read_signed s at w h b = ap (written s at w) (unsigned_signed w (field s at w) (field_fits s at w h b)) ∙ written_read s at w h b

-- what `cast_signed` and `cast_unsigned` of 32 bits give
pub signed_32 : (n : ℕ) → n < 4294967296 → to_z w32 n ≡ signed 4 n
signed_32 n h = by (dec_lt n 2147483648)
  where
    by : Dec (n < 2147483648) → to_z w32 n ≡ signed 4 n
    by (yes k) = rw (lt-ltb n 2147483648 k, signed_lower 4 n (omega arith))
    by (no k) = rw (le-ltb n 2147483648 (omega arith), signed-upper 4 n (omega arith), lt-ltb n 4294967296 h)

pub unsigned_32 : (z : ℤ) → of_z w32 z ≡ unsigned 4 z
unfolding unsigned
unsigned_32 (pos n) = refl
unsigned_32 (negsuc n) = refl
