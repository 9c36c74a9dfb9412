-- An accepted file is a sound one: `file_verdict file ≡ Accepted` as facts of its fields, both ways.
use Rattle.std.specs.Prelude.{Ok}
use Prim.Native.Nat.{ℕ, zero, suc, ◌+◌, ◌-◌, ◌*◌, ◌≤◌, ◌<◌}
use native.Mathlib.Omega.{arith}
use native.Mathlib.Nat.{le_refl, mul-le-mul}
use mathlib.Core.Path.{◌≡◌, sym, ap, ◌∙◌}
use mathlib.Core.Logic.{◌↔◌}
use mathlib.Core.Bool.{true}
use mathlib.Core.List.{List}
use lib.ListN.{length, drop, length-drop}
use lib.Seq.{length-take-le}
use Rattle.fields.specs.Field.{Bytes}
use Rattle.fields.proofs.Width.{bytes-part}
use Rattle.rules.specs.Layout.{edges_start, body_length, body_of_unit, edition, count, demand, offset, size, body, unit_at, case_of}
use Rattle.rules.specs.Refusal.{start, legal_size, entry_fits, edition_verdict, head_verdict, contents_verdict, body_verdict, file_verdict}
use Rattle.rules.specs.Lists.{Every}
use Rattle.rules.proofs.Lists.{every-each, all-each}
use Rattle.rules.proofs.Verdicts.{in_order_each, accepts}
use Rattle.rules.specs.Sound.{Sound}
use Rattle.rules.proofs.Encoding.Body.{Packable, SoundBody, edges-start, sound-body, body-packable, body_unit_body}

-- ---- place by place

pub record SoundHead (file : List ℕ) : Type 0 where
  pub long : 8 ≤ length file
  pub edition-least : 1 ≤ edition file
  pub edition-greatest : edition file ≤ 2
  pub count-least : 1 ≤ count file
  pub count-greatest : count file ≤ 32
  pub demand-greatest : demand file ≤ 320000

pub record SoundContents (file : List ℕ) : Type 0 where
  pub room : 8 + 4 * count file ≤ length file
  pub offsets : (i : ℕ) → i < count file → offset file i ≡ start file i
  pub sizes : (i : ℕ) → i < count file → legal_size (edition file) (size file i) ≡ true
  pub ends : start file (count file) ≡ length file

pub record SoundFile (file : List ℕ) : Type 0 where
  pub head : SoundHead file
  pub contents : SoundContents file
  pub bodies : (i : ℕ) → i < count file → body_verdict (edition file) (body file i) ≡ Ok tt

module _ (file : List ℕ) where
  pub sound-head : (head_verdict file ≡ Ok tt) ↔ SoundHead file
  unfolding head_verdict edition_verdict
  sound-head = (
    λ e.
        let ((long, (first, last)), ((least, greatest), demand)) = simp accepts at e in
        record {
          long = long;
          edition-least = first;
          edition-greatest = last;
          count-least = least;
          count-greatest = greatest;
          demand-greatest = demand;
        },
    λ s. simp accepts ((s.long, (s.edition-least, s.edition-greatest)), ((s.count-least, s.count-greatest), s.demand-greatest)),
  )

  -- what unpacking asks besides
  pub edition-one : (edition_verdict 1 file ≡ Ok tt) ↔ ((8 ≤ length file) × (edition file ≡ 1))
  unfolding edition_verdict
  edition-one = (λ e. let (long, (first, last)) = simp accepts at e in (long, omega arith), λ s. simp accepts (s.0, (omega (arith, s.1), omega (arith, s.1))))

  entry-fits : (i : ℕ) → (entry_fits file i ≡ true) ↔ ((offset file i ≡ start file i) × (legal_size (edition file) (size file i) ≡ true))
  entry-fits i = (λ e. simp accepts at e, λ p. simp accepts p)

  pub sound-contents : (contents_verdict file ≡ Ok tt) ↔ SoundContents file
  unfolding contents_verdict
  sound-contents = (
    λ e.
        let ((room, entries), ends) = simp accepts at e in
        let fit = (all-each (entry_fits file) (count file) (λ i. i)).0 entries in
        record { room = room; offsets = λ i h. ((entry-fits i).0 (fit i h)).0; sizes = λ i h. ((entry-fits i).0 (fit i h)).1; ends = ends },
    λ s.
        let entries = (all-each (entry_fits file) (count file) (λ i. i)).1 (λ i h. (entry-fits i).1 (s.offsets i h, s.sizes i h)) in
        simp accepts ((s.room, entries), s.ends),
  )

  pub sound-file : (file_verdict file ≡ Ok tt) ↔ SoundFile file
  unfolding file_verdict
  sound-file =
      let bodies = in_order_each (count file) (λ i. body_verdict (edition file) (body file i)) in (
        λ e.
            let (head, (contents, last)) = simp accepts at e in
            record { head = sound-head.0 head; contents = sound-contents.0 contents; bodies = bodies.0 last },
        λ s. simp accepts (sound-head.1 s.head, (sound-contents.1 s.contents, bodies.1 s.bodies)),
      )

-- ---- the bodies

module _ {file : List ℕ} (s : SoundContents file) where
  -- each body starts where the one before ends
  pub start-next : (i : ℕ) → i < count file → start file (suc i) ≡ start file i + size file i
  start-next i h = ap (λ (n : ℕ). n + size file i) (s.offsets i h)

  start-within : (i k : ℕ) → i + k ≡ count file → start file i ≤ length file
  start-within i zero e = let f : i ≡ count file = omega arith in rw f (omega (arith, s.ends))
  start-within i (suc k) e = omega (arith, start-next i (omega arith), start-within (suc i) k (omega arith))

  -- and ends within the file
  pub body-within : (i : ℕ) → i < count file → offset file i + size file i ≤ length file
  body-within i h =
      omega (arith, s.offsets i h, start-next i h, start-within (suc i) (count file - suc i) (omega arith))

  pub length_body_at : (i : ℕ) → i < count file → length (body file i) ≡ size file i
  length_body_at i h =
      length-take-le (size file i) (drop (offset file i) file) (simp length-drop (omega (arith, body-within i h)))

module _ {file : List ℕ} (s : SoundFile file) where
  -- every unit is sound
  pub unit_at_sound : (i : ℕ) → i < count file → Sound (unit_at file i)
  unit_at_sound i h = (sound-body (edition file) (body file i) (s.bodies i h)).unit

  sound-at : (i : ℕ) → i < count file → SoundBody (edition file) (body file i)
  sound-at i h = sound-body (edition file) (body file i) (s.bodies i h)

  pub unit_at_packable : (i : ℕ) → i < count file → Packable (edition file) (unit_at file i)
  unit_at_packable i h = body-packable (edition file) (body file i) (sound-at i h)

  pub size-at : (i : ℕ) → i < count file → size file i ≡ body_length (edition file) (unit_at file i).zone_count
  size-at i h = sym (length_body_at s.contents i h) ∙ (sound-at i h).size

  pub body_at : Bytes file → (i : ℕ) → i < count file → body_of_unit (edition file) (unit_at file i) ≡ body file i
  body_at b i h = body_unit_body (edition file) (body file i) (sound-at i h) (bytes-part file (offset file i) (size file i) b)

-- every unit of an accepted file is sound
pub units-sound : (file : List ℕ) → file_verdict file ≡ Ok tt → Every Sound (case_of file).units
unfolding case_of
units-sound file e = every-each Sound (count file) (unit_at file) (unit_at_sound ((sound-file file).0 e))

-- and one that packing can write
pub units-packable : (file : List ℕ) → file_verdict file ≡ Ok tt → Every (Packable (edition file)) (case_of file).units
unfolding case_of
units-packable file e = every-each (Packable (edition file)) (count file) (unit_at file) (unit_at_packable ((sound-file file).0 e))

-- ---- how long an accepted file is: each body has from edges_start bytes up to 16 more
module _ {file : List ℕ} (s : SoundFile file) where
  size-range : (i : ℕ) → i < count file → (edges_start (edition file) ≤ size file i) × (size file i ≤ edges_start (edition file) + 16)
  size-range i h =
      let b = sound-body (edition file) (body file i) (s.bodies i h) in
      omega (arith, length_body_at s.contents i h, b.zones, b.size)

  start-range : (i : ℕ) → i ≤ count file → (8 + 4 * count file + edges_start (edition file) * i ≤ start file i) × (start file i ≤ 8 + 4 * count file + (edges_start (edition file) + 16) * i)
  start-range zero h = omega arith
  start-range (suc i) h = omega (arith, start-range i (omega arith), start-next s.contents i (omega arith), size-range i (omega arith))

pub accepted-length : (file : List ℕ) → file_verdict file ≡ Ok tt → (38 ≤ length file) × (length file ≤ 1608)
accepted-length file e =
    let s = (sound-file file).0 e in
    let r = start-range s (count file) (omega arith) in
    let k = edges-start (edition file) in
    let n = s.head.count-greatest in
    let o = s.head.count-least in
    let a : edges_start (edition file) * 1 ≤ edges_start (edition file) * count file = mul-le-mul (le_refl (edges_start (edition file))) o in
    let w : edges_start (edition file) + 16 ≤ 46 = omega (arith, k) in
    let b : (edges_start (edition file) + 16) * count file ≤ 46 * 32 = mul-le-mul w n in
    omega (arith, r, k, a, b, n, o, s.contents.ends)
