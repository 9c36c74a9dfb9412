-- Bytes put one behind the other into a buffer from a place on (`Put`), and so by a writer (`Puts`).
use Prim.Native.Nat.{ℕ, ◌+◌, ◌≤◌}
use native.Mathlib.Nat.{add-zero, zero-add}
use native.Mathlib.Omega.{arith}
use mathlib.Core.Path.{◌≡◌, refl, ◌∙◌}
use mathlib.Core.List.{List, [], ◌++◌, append_assoc}
use lib.ListN.{length, take, length-append, take-append-drop}
use lib.Seq.{length-take-le}
use Rattle.rules.specs.Lists.{over}
use Rattle.rules.proofs.Encoding.Front.{Front, front-part}
use Rattle.text.specs.Clauses.{Put, Puts}
use Rattle.text.specs.declared.Writer.{Writer}

module _ {s₀ : List ℕ} {at : ℕ} (room : at ≤ length s₀) where
  front : {p s : List ℕ} {k : ℕ} → Put s₀ at p s k → Front s₀ (take at s₀ ++ p) s k
  front h =
      record {
        long = simp length-append (omega (arith, length-take-le at s₀ room, h.ends));
        whole = h.whole ∙ rw (h.ends, append_assoc);
      }

  back : {p s : List ℕ} {k : ℕ} → Front s₀ (take at s₀ ++ p) s k → Put s₀ at p s k
  back {p = p} {k = k} f =
      let e : k ≡ at + length p = omega (arith, simp length-append at f.long, length-take-le at s₀ room) in
      record { ends = e; whole = f.whole ∙ rw (e, append_assoc) }

  put-more : {p q s s' : List ℕ} {k k' : ℕ} → Put s₀ at p s k → Put s k q s' k' → Put s₀ at (p ++ q) s' k'
  put-more {p = p} {q = q} h g = back (rw (g.whole, g.ends, ← append_assoc (take at s₀) p q) (front-part (front h) q (length q) refl))

put-none : (s₀ : List ℕ) (at : ℕ) → Put s₀ at [] s₀ at
put-none s₀ at = record { ends = omega arith; whole = rw (add-zero, take-append-drop) }

pub puts_more : {a b c : Writer} {p q : List ℕ} → a.at ≤ length a.text.now → Puts a p b → Puts b q c → Puts a (p ++ q) c
puts_more room h g = record { same = g.same ∙ h.same; long = g.long ∙ h.long; bytes = put-more room h.bytes g.bytes }

pub puts-none : {a : Writer} → Puts a [] a
puts-none {a} = record { same = refl; long = refl; bytes = put-none a.text.now a.at }

-- from the buffer's start on
pub puts-over : {a b : Writer} {p : List ℕ} → a.at ≡ 0 → Puts a p b → (b.at ≡ length p) × (b.text.now ≡ over p a.text.now)
puts-over {a} {b} {p} e h = (h.bytes.ends ∙ rw (e, zero-add (length p)) refl, h.bytes.whole ∙ rw (e, zero-add (length p)) refl)
