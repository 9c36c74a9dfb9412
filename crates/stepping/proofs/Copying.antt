-- A loop that copies numbers one by one to a place of a buffer: so far the first i are there, and the rest is as it was.
use Prim.Native.Nat.{ℕ, ◌+◌, ◌-◌, ◌≤◌, ◌<◌}
use native.Mathlib.Numerals.{add-one}
use native.Mathlib.Omega.{arith}
use mathlib.Core.Path.{◌≡◌, ap, sym, ◌∙◌}
use mathlib.Core.List.{List, ◌++◌, append-nil}
use lib.ListN.{length, get_or, take, drop, set, drop_of_length-le, length-drop}
use lib.Seq.{paste, paste-zero, paste-suc, take_all}

pub record Copying (d₀ : List ℕ) (at : ℕ) (s : List ℕ) (d : List ℕ) (i : ℕ) : Type 0 where
  pub within : i ≤ length s
  pub room : at + length s ≤ length d₀
  pub same : d ≡ paste d₀ at s i

module _ (d₀ : List ℕ) (at : ℕ) (s : List ℕ) where
  pub copying_starts : at + length s ≤ length d₀ → Copying d₀ at s d₀ 0
  copying_starts h = record { within = omega arith; room = h; same = paste-zero d₀ at s }

  module _ {d : List ℕ} {i : ℕ} (c : Copying d₀ at s d i) where
    pub copying_more : {j v : ℕ} → j ≡ at + i → v ≡ get_or s i 0 → i < length s → Copying d₀ at s (set d j v) (i + 1)
    copying_more p e h =
        record {
          within = omega arith;
          room = c.room;
          same = rw (c.same, p, e) (paste-suc d₀ at s i 0 (omega (arith, c.room)) h ∙ ap (paste d₀ at s) (sym (add-one i)));
        }

    pub copying_ends : length s ≤ i → length d₀ ≤ at + length s → d ≡ take at d₀ ++ s
    copying_ends h l = c.same ∙ rw (take_all i s h, drop_of_length-le d₀ {i = at + i} (omega (arith, c.within)), append-nil)

-- a part from k on is all that is there
module _ {A : Type 0} (k : ℕ) (s : List A) where
  pub part-whole : take (length s - k) (drop k s) ≡ drop k s
  part-whole = take_all (length s - k) (drop k s) (omega (arith, length-drop k s))

  pub part-long : length (take (length s - k) (drop k s)) ≡ length s - k
  part-long = ap length part-whole ∙ length-drop k s
