-- What packing has written so far: one entry more, one body more, and the whole file.
use Prim.Native.Nat.{ℕ, zero, suc, ◌+◌, ◌*◌, ◌<◌}
use native.Mathlib.Decide.{dec_lt}
use native.Mathlib.Omega.{arith}
use mathlib.Core.Path.{◌≡◌, refl, ap, sym, ◌∙◌}
use mathlib.Core.List.{List, [], ◌∷◌, ◌++◌, append_assoc, append-nil}
use lib.IntN.{ℤ}
use lib.ListN.{length, get_or, take, length-append, length-take, get_or-eq_default}
use lib.Seq.{get_or-take}
use Rattle.fields.specs.Field.{unsigned, bytes, bytes_of_each, written}
use Rattle.fields.proofs.Width.{length-bytes}
use Rattle.rules.specs.Lists.{each, over, Every}
use Rattle.rules.specs.Unit.{Unit}
use Rattle.rules.specs.Layout.{in_second, unit_in_row, body_of_unit, contents_from, bodies_of, file_in}
use Rattle.rules.proofs.Lists.{length-each}
use Rattle.rules.specs.Sound.{Sound}
use Rattle.rules.proofs.Sound.{edge-small}
use Rattle.rules.proofs.Encoding.Pieces.{length_each_bytes}
use Rattle.rules.proofs.Encoding.Body.{length-body}
use Rattle.rules.proofs.Encoding.RoundTrip.{length-contents}
use Rattle.rules.proofs.Encoding.Front.{Front, lent, given_back, front-none, front-made, front-field, front_tail, front-over}
use Rattle.packing.specs.Clauses.{RowsSound, WordsFit}
use Rattle.packing.proofs.Lengths.{size_of, total, contents-more, bodies-more, packable}

-- ---- the contents

pub entry_next : {s₀ s s₁ s₂ : List ℕ} (e : ℕ) (f : ℕ → Unit) (at i offset size : ℕ) → Front s₀ (contents_from e at (each i f)) s (4 * i) → s₁ ≡ written s (4 * i) 2 offset → s₂ ≡ written s₁ (4 * i + 2) 2 size → offset ≡ at + total e f i → size ≡ size_of e (f i) → Front s₀ (contents_from e at (each (i + 1) f)) s₂ (4 * (i + 1))
entry_next e f at i offset size p e₁ e₂ o z =
    let n : 4 * (i + 1) ≡ 4 * i + 2 + 2 = omega arith in
    rw (n, contents-more e f at i, ← o, ← z) (front-field (front-field p 2 offset e₁) 2 size e₂)

-- ---- a body: two numbers of 32 bits, nine words, b1 in the bytes that the edition has for it, the edges in use

abbrev pub words_of : Unit → List ℕ
words_of u = u.c2 ∷ u.b ∷ u.least ∷ u.greatest ∷ u.previous ∷ u.up ∷ u.down ∷ u.mark ∷ u.zone_count ∷ []

words-every : (words : List ℕ) → Every (λ w. w < 65536) words → (k : ℕ) → get_or words k 0 < 65536
words-every [] p k = omega arith
words-every (w ∷ ws) p zero = p.0
words-every (w ∷ ws) p (suc k) = words-every ws p.1 k

module _ {u : Unit} (s : Sound u) where
  pub words-fit : WordsFit (words_of u)
  words-fit =
      record {
        small = words-every (words_of u) (
          omega (arith, s.c2),
          (
            omega (arith, s.b),
            (
              omega (arith, s.range, s.greatest),
              (
                omega (arith, s.greatest),
                (
                  omega (arith, s.previous),
                  (omega (arith, s.up), (omega (arith, s.down), (omega (arith, s.mark), (omega (arith, s.zone_count), tt)))),
                ),
              ),
            ),
          ),
        );
      }

  pub edges_fit : (n : ℕ) → WordsFit (take n u.edges)
  edges_fit n = record { small = λ k. by k (dec_lt k n) }
    where
      by : (k : ℕ) → Dec (k < n) → get_or (take n u.edges) k 0 < 65536
      by k (yes h) = rw (get_or-take n u.edges k 0 h) (omega (arith, edge-small s k))
      by k (no h) = rw (get_or-eq_default (take n u.edges) 0 {n = k} (simp length-take (omega arith))) (omega arith)

body-parts : (e : ℕ) (u : Unit) → bytes 4 u.c0 ++ bytes 4 u.c1 ++ bytes_of_each 2 (words_of u) ++ bytes (in_second e 4) (unsigned 4 u.b1) ++ bytes_of_each 2 (take (2 * u.zone_count) u.edges) ≡ body_of_unit e u
unfolding body_of_unit bytes_of_each
body-parts e u = simp (append_assoc, append-nil)

module _ (e : ℕ) (u : Unit) (s₀ s₁ s₂ t : List ℕ) (e₁ : s₁ ≡ written s₀ 0 4 u.c0) (e₂ : s₂ ≡ written s₁ 4 4 u.c1) (e₃ : t ≡ over (bytes_of_each 2 (words_of u)) (lent 8 s₂)) where
  pub numbers-front : Front s₀ (bytes 4 u.c0 ++ bytes 4 u.c1 ++ bytes_of_each 2 (words_of u)) (given_back 8 s₂ t) 26
  numbers-front =
      front_tail (front-field (front-field (front-none s₀) 4 u.c0 e₁) 4 u.c1 e₂) t (bytes_of_each 2 (words_of u)) 18 (length_each_bytes 2 (words_of u)) e₃

  module _ (s₃ : List ℕ) (e₄ : s₃ ≡ written (given_back 8 s₂ t) 26 (in_second e 4) (unsigned 4 u.b1)) where
    pub loss-front : Front s₀ (bytes 4 u.c0 ++ bytes 4 u.c1 ++ bytes_of_each 2 (words_of u) ++ bytes (in_second e 4) (unsigned 4 u.b1)) s₃ (26 + in_second e 4)
    loss-front = front-field numbers-front (in_second e 4) (unsigned 4 u.b1) e₄

    pub body-whole : (k : ℕ) → k ≡ 26 + in_second e 4 → (r : List ℕ) → r ≡ over (bytes_of_each 2 (take (2 * u.zone_count) u.edges)) (lent k s₃) → given_back k s₃ r ≡ over (body_of_unit e u) s₀
    body-whole k h r g =
        let edges = bytes_of_each 2 (take (2 * u.zone_count) u.edges) in
        front-over (front_tail (rw (← h) at loss-front) r edges (length edges) refl g) ∙ ap (λ (p : List ℕ). over p s₀) (body-parts e u)

-- ---- the bodies

-- row i's body, written by a callee that was lent the part from `at` on
pub body-next : {s₀ s : List ℕ} {at e : ℕ} {rows : List ℕ} {b1 : List ℤ} {n : ℕ} → RowsSound e rows b1 n → (i : ℕ) → i < n → (t : List ℕ) → Front s₀ (bodies_of e (each i (unit_in_row rows b1))) s at → t ≡ over (body_of_unit e (unit_in_row rows b1 i)) (lent at s) → Front s₀ (bodies_of e (each (i + 1) (unit_in_row rows b1))) (given_back at s t) (at + size_of e (unit_in_row rows b1 i))
body-next {e = e} {rows = rows} {b1 = b1} r i h t f g =
    let u = unit_in_row rows b1 i in
    rw (bodies-more e (unit_in_row rows b1) i) (front_tail f t (body_of_unit e u) (size_of e u) (length-body e u (packable r i h)) g)

-- ---- the file

abbrev pub head_of : ℕ → ℕ → ℕ → List ℕ
head_of ed n d = bytes 2 ed ++ bytes 2 n ++ bytes 4 d

module _ (ed n d : ℕ) (f : ℕ → Unit) (s₀ s t : List ℕ) (e : s ≡ over (head_of ed n d) s₀) (g : t ≡ over (contents_from ed (8 + 4 * n) (each n f)) (lent 8 s)) where
  pub front-contents : Front s₀ (head_of ed n d ++ contents_from ed (8 + 4 * n) (each n f)) (given_back 8 s t) (8 + 4 * n)
  front-contents =
      let units : length (each n f) ≡ n = length-each n f in
      let head : length (head_of ed n d) ≡ 8 = simp (length-append, length-bytes) in
      front_tail (front-made s₀ (head_of ed n d) s 8 head e) t (contents_from ed (8 + 4 * n) (each n f)) (4 * n) (length-contents ed (8 + 4 * n) (each n f) ∙ rw units) g

  pub file-whole : (r : List ℕ) → r ≡ over (bodies_of ed (each n f)) (lent (8 + 4 * n) (given_back 8 s t)) → given_back (8 + 4 * n) (given_back 8 s t) r ≡ over (file_in ed d (each n f)) s₀
  unfolding file_in
  file-whole r h =
      front-over (front_tail front-contents r (bodies_of ed (each n f)) (length (bodies_of ed (each n f))) refl h)
      ∙ ap (λ (k : ℕ). over (head_of ed k d ++ contents_from ed (8 + 4 * k) (each n f) ++ bodies_of ed (each n f)) s₀) (sym (length-each n f))
