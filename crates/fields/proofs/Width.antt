-- Reading gives back what was written, and writing what was read: shown once, over the width.
-- Both go by induction on the width, at the last byte: a number is its quotient by 256, then its remainder.
use Prim.Native.Nat.{ℕ, zero, suc, ◌+◌, ◌-◌, ◌*◌, ◌/◌, ◌%◌, ◌^◌, ◌≤◌, ◌<◌}
use native.Mathlib.Nat.{pow-suc, div-lt_iff_lt-mul, div-add-mod', add-zero, pow-le-pow_right, lt_of_lt_of_le}
use native.Mathlib.Decide.{dec_lt}
use native.Mathlib.Omega.{arith}
use mathlib.Core.Path.{◌≡◌, refl, ap, sym, ◌∙◌}
use mathlib.Core.List.{List, [], ◌∷◌, ◌++◌, append_assoc}
use lib.ListN.{length, take, drop, get_or, set, length-append, length-take, length-drop, take-append-drop, get_or-eq_default, drop_of_length-le}
use lib.Seq.{drop-cons, take-set-le, set_split, drop_at, take_at, length-take-le, take-suc, take_all, get_or-take, get_or-drop, drop-drop}
use Rattle.fields.specs.Field.{Bytes, number_after, number, field, bytes, written}

-- ---- numbers and bytes

number_snoc : (n : ℕ) (s : List ℕ) (b : ℕ) → number_after n (s ++ (b ∷ [])) ≡ number_after n s * 256 + b
unfolding number_after
number_snoc n [] b = refl
number_snoc n (x ∷ s) b = number_snoc (n * 256 + x) s b

pub length-bytes : (w n : ℕ) → length (bytes w n) ≡ w
unfolding bytes
length-bytes zero n = refl
length-bytes (suc w) n = simp (length-append) (rw (length-bytes w (n / 256)) (omega arith))

-- the bytes of a number spell it
pub number-bytes : (w n : ℕ) → n < 256 ^ w → number (bytes w n) ≡ n
unfolding bytes number_after
number-bytes zero n h = omega arith
number-bytes (suc w) n h =
    let k : n / 256 < 256 ^ w = (div-lt_iff_lt-mul {k = 256} (omega arith)).1 (rw pow-suc at h) in
    number_snoc 0 (bytes w (n / 256)) (n % 256) ∙ ap (λ (q : ℕ). q * 256 + n % 256) (number-bytes w (n / 256) k) ∙ div-add-mod' n 256

pub bytes-part : (s : List ℕ) (at w : ℕ) → Bytes s → Bytes (take w (drop at s))
bytes-part s at w h i = by (dec_lt i w)
  where
    by : Dec (i < w) → get_or (take w (drop at s)) i 0 < 256
    by (yes k) = rw (get_or-take w (drop at s) i 0 k, get_or-drop at s i 0) (h (at + i))
    by (no k) = rw (get_or-eq_default (take w (drop at s)) 0 {n = i} (simp length-take (omega arith))) (omega arith)

-- bytes are those of the number that they spell
pub bytes-number : (w : ℕ) (s : List ℕ) → length s ≡ w → Bytes s → bytes w (number s) ≡ s
unfolding bytes number_after
bytes-number zero [] e h = refl
bytes-number zero (b ∷ s) e h = absurd (omega arith)
bytes-number (suc w) s e h =
    let front = take w s in
    let b = get_or s w 0 in
    let whole : s ≡ front ++ (b ∷ []) = sym (take_all (suc w) s (omega arith)) ∙ take-suc s w 0 (omega arith) in
    let spelled : number s ≡ number front * 256 + b = ap number whole ∙ number_snoc 0 front b in
    let byte : b < 256 = h w in
    let rest : (number front * 256 + b) / 256 ≡ number front = omega arith in
    let last : (number front * 256 + b) % 256 ≡ b = omega arith in
    rw (spelled, rest, last, bytes-number w front (length-take-le w s (omega arith)) (bytes-part s 0 w h)) (sym whole)

-- ---- a field of a buffer

-- reading gives back what was written
pub read-written : (s : List ℕ) (at w n : ℕ) → at + w ≤ length s → n < 256 ^ w → field (written s at w n) at w ≡ n
read-written s at w n h k =
    let p : drop at (written s at w n) ≡ bytes w n ++ drop (at + w) s = drop_at (take at s) (bytes w n ++ drop (at + w) s) at (length-take-le at s (omega arith)) in
    let q : take w (bytes w n ++ drop (at + w) s) ≡ bytes w n = take_at (bytes w n) (drop (at + w) s) w (length-bytes w n) in
    rw (p, q) (number-bytes w n k)

-- writing what was read changes nothing
pub written_read : (s : List ℕ) (at w : ℕ) → at + w ≤ length s → Bytes s → written s at w (field s at w) ≡ s
written_read s at w h k =
    let l : length (take w (drop at s)) ≡ w = length-take-le w (drop at s) (simp length-drop (omega arith)) in
    let e : bytes w (field s at w) ≡ take w (drop at s) = bytes-number w (take w (drop at s)) l (bytes-part s at w k) in
    rw (e, ← drop-drop w at s, take-append-drop w (drop at s)) (take-append-drop at s)

-- ---- the two loops: one byte more is read, one byte more is written

-- what is read so far of xs: its first i bytes spell n, and the others behind n spell what xs does
pub record Reading (xs : List ℕ) (n i : ℕ) : Type 0 where
  pub small : n < 256 ^ i
  pub spelled : number_after n (drop i xs) ≡ number xs

-- a number of k bytes fits w
pub fits : {n k : ℕ} (w : ℕ) → n < 256 ^ k → k ≤ w → n < 256 ^ w
fits w h j = lt_of_lt_of_le h (pow-le-pow_right {n = 256} (omega arith) j)

pub reading_more : (xs : List ℕ) (n i b : ℕ) → Reading xs n i → i < length xs → b ≡ get_or xs i 0 → b < 256 → Reading xs (n * 256 + b) (i + 1)
unfolding number_after
reading_more xs n i b p h is byte =
    let e : i + 1 ≡ suc i = omega arith in
    let spelled : number_after (n * 256 + get_or xs i 0) (drop (suc i) xs) ≡ number xs = rw (drop-cons xs i 0 h) at p.spelled in
    let small : n * 256 + b < 256 ^ suc i = rw pow-suc (omega (arith, p.small)) in
    record { small = rw e small; spelled = rw (e, is) spelled }

-- seven bytes at most were read before another is, so that the number still fits
pub reading_small : (xs : List ℕ) (n i : ℕ) → Reading xs n i → length xs ≤ 8 → i < length xs → n < 256 ^ 7
reading_small xs n i p h k = fits 7 p.small (omega arith)

pub reading_ends : (s : List ℕ) (at w n i : ℕ) → Reading (take (at + w - at) (drop at s)) n i → at + w ≤ length s → length (take (at + w - at) (drop at s)) ≤ i → i ≤ length (take (at + w - at) (drop at s)) → (n ≡ field s at w) × (n < 256 ^ w)
unfolding number_after
reading_ends s at w n i p h j k =
    let e : at + w - at ≡ w = omega arith in
    let long : length (take w (drop at s)) ≡ w = simp (length-take, length-drop) (omega arith) in
    let f : i ≡ w = omega (arith, rw e at j, rw e at k) in
    let none : drop w (take w (drop at s)) ≡ [] = drop_of_length-le (take w (drop at s)) (omega arith) in
    let r : Reading (take w (drop at s)) n i = rw e at p in
    (rw (f, none) at r.spelled, rw f at r.small)

-- what is still to be written: the last of the bytes that are left comes first, and with none left there is nothing
last-written : (s : List ℕ) (at j n : ℕ) → at + suc j ≤ length s → written (set s (at + j) (n % 256)) at j (n / 256) ≡ written s at (suc j) n
unfolding bytes
last-written s at j n h =
    let p : take at (set s (at + j) (n % 256)) ≡ take at s = take-set-le at s (at + j) (n % 256) (omega arith) in
    let q : drop (at + j) (set s (at + j) (n % 256)) ≡ n % 256 ∷ drop (suc (at + j)) s =
    rw (set_split s (at + j) (n % 256) (omega arith)) (drop_at (take (at + j) s) (n % 256 ∷ drop (suc (at + j)) s) (at + j) (length-take-le (at + j) s (omega arith))) in
    let e : at + suc j ≡ suc (at + j) = omega arith in
    rw (p, q, e, append_assoc)

pub writing_last : (s : List ℕ) (at left n : ℕ) → 0 < left → at + left ≤ length s → written (set s (at + (left - 1)) (n % 256)) at (left - 1) (n / 256) ≡ written s at left n
writing_last s at left n h k =
    let e : suc (left - 1) ≡ left = omega arith in
    rw e at (last-written s at (left - 1) n (omega arith))

pub writing_none : (s : List ℕ) (at left n : ℕ) → left ≤ 0 → written s at left n ≡ s
unfolding bytes
writing_none s at left n h =
    let e : left ≡ 0 = omega arith in
    rw (e, add-zero) (take-append-drop at s)
