-- A word as a number, by its form: each case as `scan` finds it, where the decimals are the rest behind the point.
use Prim.Native.Nat.{ℕ, ◌+◌, ◌-◌, ◌<◌}
use native.Mathlib.Omega.{arith}
use mathlib.Core.Bool.{true, false}
use mathlib.Core.Path.{◌≡◌, refl, sym, ap, ◌∙◌}
use mathlib.Core.List.{List, []}
use lib.ListN.{length, get_or, take, drop, length-drop}
use lib.Seq.{take_all}
use Rattle.std.specs.Prelude.{Some, None}
use Rattle.std.specs.List.{list_all}
use Rattle.rules.proofs.Lists.{all-every}
use Rattle.gencost.specs.declared.Number.{Number}
use Rattle.gencost.specs.Row.{digit, Decimal, decimal}
use Rattle.gencost.specs.Clauses.{run, Digits, valued, scanned}
use Rattle.gencost.proofs.Runs.{run-within, all-is}
use Rattle.gencost.proofs.Placing.{spelt}
use Rattle.gencost.proofs.Grammar.{told_none, told-whole, told-strange, told_bare, told-other, told-parted}

-- the text behind the character at a place
abbrev pub behind : List ℕ → ℕ → List ℕ
behind w n = take (length w - (n + 1)) (drop (n + 1) w)

behind-rest : (w : List ℕ) (n : ℕ) → behind w n ≡ drop (n + 1) w
behind-rest w n = take_all (length w - (n + 1)) (drop (n + 1) w) (omega (arith, length-drop (n + 1) w))

pub digits-behind : (w : List ℕ) (n : ℕ) → list_all digit (behind w n) ≡ true → Digits (behind w n)
digits-behind w n e = (all-every digit (behind w n)).0 (sym (all-is digit (behind w n)) ∙ e)

module _ (places limit : ℕ) where
  -- no number
  module _ (w : List ℕ) where
    abbrev point : ℕ
    point = run digit w

    malformed : (decimal w).formed ≡ false → None ≡ scanned places limit w
    unfolding scanned
    malformed e = rw e

    pub scan-start : run digit w ≡ 0 → None ≡ scanned places limit w
    scan-start z = malformed (told_none w refl z)

    module _ (y : run digit w ≡ length w → ⊥) where
      before : point < length w
      before = omega (arith, run-within digit w)

      pub scan-strange : (get_or w (run digit w) 0 ≡ 46 → ⊥) → None ≡ scanned places limit w
      scan-strange n = malformed (told-strange w refl before n)

      module _ (p : get_or w (run digit w) 0 ≡ 46) where
        pub scan-bare : length (behind w (run digit w)) ≡ 0 → None ≡ scanned places limit w
        scan-bare e = malformed (told_bare w refl before p (behind-rest w point) e)

        pub scan-other : list_all digit (behind w (run digit w)) ≡ false → None ≡ scanned places limit w
        scan-other e = malformed (told-other w refl before p (behind-rest w point) (sym (all-is digit (behind w point)) ∙ e))

  -- a number
  formed : (w : List ℕ) {d : Decimal} {n : Number} → d.formed ≡ true → decimal w ≡ d → n ≡ valued places limit d → Some n ≡ scanned places limit w
  unfolding scanned valued
  formed w t e f = rw (e, t) (ap (λ (n : Number). Some n) f)

  module _ (w : List ℕ) {n : ℕ} (e : n ≡ run digit w) (z : n ≡ 0 → ⊥) where
    pub scan-whole : n ≡ length w → {r : Number} → r ≡ valued places limit (spelt w []) → Some r ≡ scanned places limit w
    scan-whole l f = formed w refl (told-whole w e z l) f

    pub scan-parted : n < length w → get_or w n 0 ≡ 46 → (length (behind w n) ≡ 0 → ⊥) → list_all digit (behind w n) ≡ true → {r : Number} → r ≡ valued places limit (spelt (take n w) (behind w n)) → Some r ≡ scanned places limit w
    scan-parted h p y d f = formed w refl (told-parted w e h p (behind-rest w n) z y (digits-behind w n d)) f

pub ruleset scanning = (scan-start, scan-strange, scan-bare, scan-other)
