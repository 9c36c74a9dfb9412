-- A unit and its body, of either edition: each is read back from the other, and the body of a sound unit is accepted. A body that is accepted spells a sound unit.
use Rattle.std.specs.Prelude.{Ok}
use Prim.Native.Nat.{ℕ, zero, suc, ◌+◌, ◌*◌, ◌^◌, ◌<◌, ◌≤◌}
use native.Mathlib.Decide.{dec_lt}
use native.Mathlib.Omega.{arith}
use mathlib.Core.Path.{◌≡◌, refl, sym, ap, ap₂, ◌∙◌}
use mathlib.Core.Bool.{Bool, true, false, cond}
use mathlib.Core.List.{List, [], ◌∷◌, ◌++◌, append_assoc, append-nil}
use lib.Dec.{eqb}
use lib.IntN.{pos}
use lib.ListN.{length, get_or, take, drop, drop_of_length-le}
use lib.Seq.{take_all, length-take-le, get_or-take}
use borrow.Author.Tests.{lt-ltb, le-ltb, eq-eqb, ne_eqb}
use Rattle.fields.specs.Field.{Bytes, number_after, field, signed, unsigned, signed_field, bytes_of_each}
use Rattle.fields.specs.Integers.{positive_part, negative_part}
use Rattle.fields.proofs.Integers.{one-zero, ≤_in}
use Rattle.fields.proofs.Signed.{unsigned_signed, signed-unsigned, unsigned-fits, field_fits}
use Rattle.rules.specs.Lists.{each, sum, Every}
use Rattle.rules.specs.Unit.{Unit}
use Rattle.rules.specs.Layout.{edges_start, in_second, edge_of_body, unit_of_body, body_length, body_of_unit}
use Rattle.rules.specs.Refusal.{legal_size, body_verdict}
use Rattle.rules.proofs.Lists.{every-from, each_same, each_take, take-each}
use Rattle.rules.proofs.Verdicts.{either_way, accepts}
use Rattle.rules.specs.Sound.{Sound}
use Rattle.rules.proofs.Sound.{sound, sound-accepted, edge-small}
use Rattle.rules.proofs.Encoding.Pieces.{Piece, Fits, spell, widths, place, piece, read-piece, read_behind, length-spell, spell-pieces, read-each, length_each_bytes, each_again}
use Rattle.rules.proofs.Encoding.Rows.{InRow}

-- a unit that a file of edition e can hold
pub record Packable (e : ℕ) (u : Unit) : Type 0 where
  pub sound : Sound u
  pub row : InRow e u

-- ---- b1, in the four bytes of edition 2 or in none

pub edges-behind : (e : ℕ) → edges_start e ≡ 26 + in_second e 4
edges-behind e = by (eqb e 2)
  where
    by : (t : Bool) → cond t 30 26 ≡ 26 + cond t 4 0
    by true = refl
    by false = refl

module _ (u : Unit) (s : Sound u) where
  loss-range : (2 * positive_part u.b1 < 256 ^ 4) × (2 * negative_part u.b1 ≤ 256 ^ 4)
  unfolding positive_part negative_part
  loss-range =
      let low = ≤_in s.losses.range.least in
      let high = ≤_in s.losses.range.greatest in
      (omega (arith, one-zero u.b1), omega (arith, one-zero u.b1))

  loss-fits : (t : Bool) → cond t u.b1 (pos 0) ≡ u.b1 → unsigned 4 u.b1 < 256 ^ cond t 4 0
  unfolding unsigned
  loss-fits true l = unsigned-fits 4 u.b1 loss-range.0 loss-range.1
  loss-fits false l = rw (← l) (omega arith)

  loss-read : (t : Bool) (body : List ℕ) → field body 26 (cond t 4 0) ≡ unsigned 4 u.b1 → cond t u.b1 (pos 0) ≡ u.b1 → cond t (signed_field body 26 4) (pos 0) ≡ u.b1
  loss-read true body f l = ap (signed 4) f ∙ signed-unsigned 4 u.b1 loss-range.0 loss-range.1
  loss-read false body f l = l

loss-again : (t : Bool) (s : List ℕ) → 26 + cond t 4 0 ≤ length s → Bytes s → unsigned 4 (cond t (signed_field s 26 4) (pos 0)) ≡ field s 26 (cond t 4 0)
unfolding unsigned number_after
loss-again true s h b = unsigned_signed 4 (field s 26 4) (field_fits s 26 4 h b)
loss-again false s h b = refl

-- ---- a body is eleven pieces, b1, then the edges in use

abbrev pieces_with : ℕ → ℕ → Unit → List Piece
pieces_with w n u =
    record { width = 4; value = u.c0 }
    ∷ record { width = 4; value = u.c1 }
    ∷ record { width = 2; value = u.c2 }
    ∷ record { width = 2; value = u.b }
    ∷ record { width = 2; value = u.least }
    ∷ record { width = 2; value = u.greatest }
    ∷ record { width = 2; value = u.previous }
    ∷ record { width = 2; value = u.up }
    ∷ record { width = 2; value = u.down }
    ∷ record { width = 2; value = u.mark }
    ∷ record { width = 2; value = u.zone_count }
    ∷ record { width = w; value = n }
    ∷ []

abbrev head_pieces : ℕ → Unit → List Piece
head_pieces e u = pieces_with (in_second e 4) (unsigned 4 u.b1) u

abbrev edges_in_use : Unit → List ℕ
edges_in_use u = take (2 * u.zone_count) u.edges

body_spelled : (e : ℕ) (u : Unit) → body_of_unit e u ≡ spell (head_pieces e u) (bytes_of_each 2 (edges_in_use u))
unfolding body_of_unit
body_spelled e u = simp append_assoc

head-fits : (e : ℕ) (u : Unit) → Packable e u → Every Fits (head_pieces e u)
head-fits e u p = let s = p.sound in omega (arith, loss-fits u s (eqb e 2) p.row.loss)

module _ (e : ℕ) (u : Unit) (p : Packable e u) where
  length_used : length (edges_in_use u) ≡ 2 * u.zone_count
  length_used = length-take-le (2 * u.zone_count) u.edges (omega (arith, p.sound.zone_count, p.row))

  pub length-body : length (body_of_unit e u) ≡ body_length e u.zone_count
  length-body =
      rw (body_spelled e u, length-spell (head_pieces e u) (bytes_of_each 2 (edges_in_use u)), length_each_bytes 2 (edges_in_use u), length_used) (omega (arith, edges-behind e))

  -- the field at the place of piece k
  head_read : (k : ℕ) → k < 12 → field (body_of_unit e u) (place (head_pieces e u) k) (piece (head_pieces e u) k).width ≡ (piece (head_pieces e u) k).value
  head_read k h = rw (body_spelled e u) (read-piece (head_pieces e u) (bytes_of_each 2 (edges_in_use u)) k h (head-fits e u p))

  used_fit : Every (λ n. n < 256 ^ 2) (edges_in_use u)
  used_fit = every-from (λ n. n < 256 ^ 2) (edges_in_use u) 0 (λ i h. rw (get_or-take (2 * u.zone_count) u.edges i 0 (omega (arith, length_used))) (omega (arith, edge-small p.sound i)))

  edge-read : (k : ℕ) → k < 2 * u.zone_count → field (body_of_unit e u) (edges_start e + 2 * k) 2 ≡ get_or u.edges k 0
  edge-read k h =
      let at : edges_start e + 2 * k ≡ widths (head_pieces e u) + 2 * k = omega (arith, edges-behind e) in
      rw (at, body_spelled e u)
      (read_behind (head_pieces e u) (bytes_of_each 2 (edges_in_use u)) (2 * k) 2
      ∙ ap (λ (s : List ℕ). field s (2 * k) 2) (sym (append-nil (bytes_of_each 2 (edges_in_use u))))
      ∙ read-each 2 (edges_in_use u) [] k (omega (arith, length_used)) used_fit
      ∙ get_or-take (2 * u.zone_count) u.edges k 0 h)

  edge-again : (k : ℕ) → edge_of_body e (body_of_unit e u) (field (body_of_unit e u) 24 2) k ≡ get_or u.edges k 0
  unfolding edge_of_body
  edge-again k = rw (head_read 10 (omega arith)) (by (dec_lt k (2 * u.zone_count)))
    where
      by : Dec (k < 2 * u.zone_count) → edge_of_body e (body_of_unit e u) u.zone_count k ≡ get_or u.edges k 0
      by (yes h) = rw (lt-ltb k (2 * u.zone_count) h) (edge-read k h)
      by (no h) = rw (le-ltb k (2 * u.zone_count) (omega arith)) (sym (p.sound.unused k (omega arith)))

  edges-again : each 8 (edge_of_body e (body_of_unit e u) (field (body_of_unit e u) 24 2)) ≡ u.edges
  edges-again =
      each_same 8 (edge_of_body e (body_of_unit e u) (field (body_of_unit e u) 24 2)) (λ k. get_or u.edges k 0) (λ k h. edge-again k)
      ∙ each_take 8 u.edges 0 (omega (arith, p.row)) ∙ take_all 8 u.edges (omega (arith, p.row))

  pub unit_body_unit : unit_of_body e (body_of_unit e u) ≡ u
  unfolding unit_of_body
  unit_body_unit =
      λ i.
      record {
        c0 = head_read 0 (omega arith) i;
        c1 = head_read 1 (omega arith) i;
        c2 = head_read 2 (omega arith) i;
        b = head_read 3 (omega arith) i;
        b1 = loss-read u p.sound (eqb e 2) (body_of_unit e u) (head_read 11 (omega arith)) p.row.loss i;
        least = head_read 4 (omega arith) i;
        greatest = head_read 5 (omega arith) i;
        previous = head_read 6 (omega arith) i;
        up = head_read 7 (omega arith) i;
        down = head_read 8 (omega arith) i;
        mark = head_read 9 (omega arith) i;
        zone_count = head_read 10 (omega arith) i;
        edges = edges-again i;
      }

  pub body-accepted : body_verdict e (body_of_unit e u) ≡ Ok tt
  unfolding body_verdict
  body-accepted =
      simp accepts ((rw unit_body_unit p.sound.zone_count, rw unit_body_unit length-body), rw unit_body_unit (sound-accepted u p.sound))

-- ---- back

-- the length that so many zones make is legal
pub legal : (e l z : ℕ) → z ≤ 4 → l ≡ body_length e z → legal_size e l ≡ true
legal e l zero h k = simp (eq-eqb l (body_length e 0) k)
legal e l (suc zero) h k = simp (ne_eqb l (body_length e 0) (omega arith), eq-eqb l (body_length e 1) k)
legal e l (suc (suc zero)) h k = simp (ne_eqb l (body_length e 0) (omega arith), ne_eqb l (body_length e 1) (omega arith), eq-eqb l (body_length e 2) k)
legal e l (suc (suc (suc zero))) h k =
    simp (ne_eqb l (body_length e 0) (omega arith), ne_eqb l (body_length e 1) (omega arith), ne_eqb l (body_length e 2) (omega arith), eq-eqb l (body_length e 3) k)
legal e l (suc (suc (suc (suc zero)))) h k =
    simp (ne_eqb l (body_length e 0) (omega arith), ne_eqb l (body_length e 1) (omega arith), ne_eqb l (body_length e 2) (omega arith), ne_eqb l (body_length e 3) (omega arith), eq-eqb l (body_length e 4) k)
legal e l (suc (suc (suc (suc (suc z))))) h k = absurd (omega arith)

-- in either edition the edges lie behind the zone count, and not far
pub edges-start : (e : ℕ) → (26 ≤ edges_start e) × (edges_start e ≤ 30)
edges-start e =
    either_way (λ n. (26 ≤ n) × (n ≤ 30)) (eqb e 2) {x = 30} {y = 26} (λ t. (omega arith, omega arith)) (λ t. (omega arith, omega arith))

pub body-eight : (e : ℕ) (s : List ℕ) → length (unit_of_body e s).edges ≡ 8
unfolding unit_of_body
body-eight e s = refl

-- a body of edition e
pub record SoundBody (e : ℕ) (s : List ℕ) : Type 0 where
  pub zones : (unit_of_body e s).zone_count ≤ 4
  pub size : length s ≡ body_length e (unit_of_body e s).zone_count
  pub unit : Sound (unit_of_body e s)

pub sound-body : (e : ℕ) (s : List ℕ) → body_verdict e s ≡ Ok tt → SoundBody e s
unfolding body_verdict
sound-body e s a =
    let ((zones, size), unit) = simp accepts at a in record { zones = zones; size = size; unit = sound (unit_of_body e s) unit }

module _ (e : ℕ) (s : List ℕ) (p : SoundBody e s) where
  pub body-packable : Packable e (unit_of_body e s)
  unfolding unit_of_body
  body-packable = record { sound = p.unit; row = record { eight = body-eight e s; loss = again (eqb e 2) } }
    where
      again : (t : Bool) → cond t (cond t (signed_field s 26 4) (pos 0)) (pos 0) ≡ cond t (signed_field s 26 4) (pos 0)
      again true = refl
      again false = refl

  used_again : edges_in_use (unit_of_body e s) ≡ each (2 * (unit_of_body e s).zone_count) (λ k. field s (edges_start e + 2 * k) 2)
  unfolding unit_of_body edge_of_body
  used_again =
      let z = (unit_of_body e s).zone_count in
      take-each (2 * z) 8 (edge_of_body e s z) (omega (arith, p.zones))
      ∙ each_same (2 * z) (edge_of_body e s z) (λ k. field s (edges_start e + 2 * k) 2) (λ k h. rw (lt-ltb k (2 * z) h))

  pub body_unit_body : Bytes s → body_of_unit e (unit_of_body e s) ≡ s
  unfolding unit_of_body
  body_unit_body b =
      let z = (unit_of_body e s).zone_count in
      let w = in_second e 4 in
      let at : edges_start e ≡ 26 + w = edges-behind e in
      let numbers = each (2 * z) (λ k. field s (edges_start e + 2 * k) 2) in
      let ends : drop (edges_start e + 2 * (2 * z)) s ≡ [] = drop_of_length-le s {i = edges_start e + 2 * (2 * z)} (omega (arith, p.size)) in
      let tail : bytes_of_each 2 numbers ≡ drop (26 + w) s =
      sym (append-nil (bytes_of_each 2 numbers)) ∙ ap (λ (t : List ℕ). bytes_of_each 2 numbers ++ t) (sym ends)
      ∙ each_again 2 s (edges_start e) (2 * z) (omega (arith, p.size)) b ∙ ap (λ (n : ℕ). drop n s) at in
      let loss = loss-again (eqb e 2) s (omega (arith, p.size)) b in
      let ws : List ℕ = 4 ∷ 4 ∷ 2 ∷ 2 ∷ 2 ∷ 2 ∷ 2 ∷ 2 ∷ 2 ∷ 2 ∷ 2 ∷ w ∷ [] in
      let all : 26 + w ≡ 0 + sum ws = omega arith in
      body_spelled e (unit_of_body e s) ∙ ap (λ (ns : List ℕ). spell (head_pieces e (unit_of_body e s)) (bytes_of_each 2 ns)) used_again
      ∙ ap₂ (λ (n : ℕ) (t : List ℕ). spell (pieces_with w n (unit_of_body e s)) t) loss (tail ∙ ap (λ (n : ℕ). drop n s) all)
      ∙ spell-pieces s 0 ws (omega (arith, p.size)) b
