-- Histories written one by one, and histories after a slot.
use mathlib.Core.Path.{◌≡◌, refl, ap, ◌∙◌}
use Prim.Native.Nat.{ℕ, ◌+◌, ◌<◌, ◌≤◌}
use native.Mathlib.Numerals.{add-one}
use native.Mathlib.Omega.{arith}
use mathlib.Core.List.{List, [], ◌∷◌, ◌++◌, append-nil}
use lib.ListN.{length, get_or, take, set, drop_of_length-le}
use lib.Seq.{get_or-append_right}
use Rattle.std.proofs.lemmas.List.{get_or-drop}
use Rattle.rules.specs.Lists.{each}
use Rattle.rules.proofs.Lists.{each_last}
use Rattle.rules.proofs.Encoding.Front.{Front, front-set}
use Rattle.day.specs.declared.History.{History}
use Rattle.day.specs.Day.{history_after, histories_after}
use Rattle.day.specs.Clauses.{none}

-- ---- the first k are g 0, g 1, .., and the others as they were

module _ {s₀ s : List History} (g : ℕ → History) {k : ℕ} (f : Front s₀ (each k g) s k) where
  pub front-next : k < length s₀ → get_or s k none ≡ get_or s₀ k none
  front-next h =
      ap (λ (l : List History). get_or l k none) f.whole
      ∙ get_or-append_right (each k g) _ k none (omega (arith, f.long))
      ∙ get_or-drop k s₀ _ none
      ∙ ap (λ (i : ℕ). get_or s₀ i none) (omega (arith, f.long))

  pub front-each : {v : History} → v ≡ g k → k < length s₀ → Front s₀ (each (k + 1) g) (set s k v) (k + 1)
  front-each {v} e h = rw (e, add-one, each_last k g, ← add-one k) (front-set f (g k) h)

  pub front-all : k ≡ length s₀ → s ≡ each (length s₀) g
  front-all e =
      f.whole
      ∙ ap (λ (l : List History). each k g ++ l) (drop_of_length-le s₀ {i = k} (omega (arith, e)))
      ∙ append-nil (each k g)
      ∙ ap (λ (n : ℕ). each n g) e

-- ---- after a slot

pub after-each : (hs : List History) (ps : List ℕ) → length hs ≤ length ps → histories_after hs ps ≡ each (length hs) (λ i. history_after (get_or hs i none) (get_or ps i 0))
after-each [] ps h = refl
after-each (x ∷ hs) [] h = absurd (omega (arith, h))
after-each (x ∷ hs) (p ∷ ps) h = ap (λ (l : List History). history_after x p ∷ l) (after-each hs ps (omega (arith, h)))

-- it depends on as many outputs as there are histories
pub after-taken : (hs : List History) (ps : List ℕ) → histories_after hs ps ≡ histories_after hs (take (length hs) ps)
after-taken [] ps = refl
after-taken (x ∷ hs) [] = refl
after-taken (x ∷ hs) (p ∷ ps) = ap (λ (l : List History). history_after x p ∷ l) (after-taken hs ps)
