-- A case and its file, of either edition: each is read back from the other. A file that was written of sound units is accepted, and an accepted file is what its case would be written as.
use Rattle.std.specs.Prelude.{Ok}
use Prim.Native.Nat.{ℕ, zero, suc, ◌+◌, ◌*◌, ◌≤◌, ◌<◌}
use native.Mathlib.Nat.{zero-add, add-zero, add_assoc}
use native.Mathlib.Omega.{arith}
use mathlib.Core.Path.{◌≡◌, refl, sym, ap, ap₂, ◌∙◌}
use mathlib.Core.List.{List, [], ◌∷◌, ◌++◌, append_assoc}
use lib.ListN.{length, get_or, take, drop, length-append, take-append-drop}
use lib.Seq.{take_at, drop_at, drop-drop, drop-length}
use Rattle.fields.specs.Field.{Bytes, field, bytes}
use Rattle.fields.proofs.Width.{length-bytes}
use Rattle.rules.specs.Lists.{each, Every}
use Rattle.rules.specs.Unit.{Unit}
use Rattle.rules.specs.Layout.{unit_of_body, body_length, body_of_unit, edition, count, demand, offset, size, body, unit_at, case_of, contents_from, bodies_of, bodies_length, file_in}
use Rattle.rules.specs.Refusal.{start, file_verdict}
use Rattle.rules.specs.Calls.{file_length}
use Rattle.rules.proofs.Lists.{every-at, length-each, each_same, each_from, each_get_or}
use Rattle.rules.proofs.Encoding.Pieces.{Piece, Fits, spell, pieces, read-piece, read_behind, spell-pieces}
use Rattle.rules.proofs.Encoding.Body.{Packable, legal, edges-start, length-body, unit_body_unit, body-accepted}
use Rattle.rules.proofs.Encoding.SoundFile.{SoundFile, sound-file, start-next, size-at, body_at}

module _ (e : ℕ) where
  -- ---- where the bodies stand

  -- the place of body i, where the first one starts at a place
  abbrev pub start_from : ℕ → List Unit → ℕ → ℕ
  start_from at us zero = at
  start_from at [] (suc i) = at
  start_from at (u ∷ us) (suc i) = start_from (at + body_length e u.zone_count) us i

  pub start_from_next : (at : ℕ) (us : List Unit) (i : ℕ) (d : Unit) → i < length us → start_from at us (suc i) ≡ start_from at us i + body_length e (get_or us i d).zone_count
  start_from_next at [] i d h = absurd (omega arith)
  start_from_next at (u ∷ us) zero d h = refl
  start_from_next at (u ∷ us) (suc i) d h = start_from_next (at + body_length e u.zone_count) us i d (omega arith)

  pub start_from_last : (at : ℕ) (us : List Unit) → start_from at us (length us) ≡ at + bodies_length e us
  start_from_last at [] = sym (add-zero at)
  start_from_last at (u ∷ us) = start_from_last (at + body_length e u.zone_count) us ∙ add_assoc at (body_length e u.zone_count) (bodies_length e us)

  -- ---- lengths

  pub length-contents : (at : ℕ) (us : List Unit) → length (contents_from e at us) ≡ 4 * length us
  unfolding contents_from
  length-contents at [] = refl
  length-contents at (u ∷ us) = simp (length-append, length-bytes, length-contents (at + body_length e u.zone_count) us) (omega arith)

  pub length-bodies : (us : List Unit) → Every (Packable e) us → length (bodies_of e us) ≡ bodies_length e us
  unfolding bodies_of
  length-bodies [] p = refl
  length-bodies (u ∷ us) p = simp (length-append, length-body e u p.0, length-bodies us p.1)

  -- all of a file before its bodies
  abbrev pub front : ℕ → List Unit → List ℕ
  front d us = bytes 2 e ++ bytes 2 (length us) ++ bytes 4 d ++ contents_from e (8 + 4 * length us) us

  pub length_front : (d : ℕ) (us : List Unit) → length (front d us) ≡ 8 + 4 * length us
  length_front d us = simp (length-append, length-bytes, length-contents) (omega arith)

  pub length-file : (d : ℕ) (us : List Unit) → Every (Packable e) us → length (file_in e d us) ≡ file_length e us
  unfolding file_in
  length-file d us p = length-append (front d us) (bodies_of e us) ∙ ap₂ (λ (m n : ℕ). m + n) (length_front d us) (length-bodies us p)

  -- ---- reading the contents of a file that was written

  abbrev entry : ℕ → Unit → List Piece
  entry at u = record { width = 2; value = at } ∷ record { width = 2; value = body_length e u.zone_count } ∷ []

  contents-spelled : (at : ℕ) (u : Unit) (us : List Unit) (rest : List ℕ) → contents_from e at (u ∷ us) ++ rest ≡ spell (entry at u) (contents_from e (at + body_length e u.zone_count) us ++ rest)
  unfolding contents_from
  contents-spelled at u us rest = simp append_assoc

  entry-later : (at : ℕ) (u : Unit) (us : List Unit) (rest : List ℕ) (i : ℕ) → field (contents_from e at (u ∷ us) ++ rest) (4 + i) 2 ≡ field (contents_from e (at + body_length e u.zone_count) us ++ rest) i 2
  entry-later at u us rest i = rw (contents-spelled at u us rest) (read_behind (entry at u) (contents_from e (at + body_length e u.zone_count) us ++ rest) i 2)

  record Entry (s : List ℕ) (at : ℕ) (us : List Unit) (d : Unit) (i : ℕ) : Type 0 where
    place : field s (4 * i) 2 ≡ start_from at us i
    length_of : field s (2 + 4 * i) 2 ≡ body_length e (get_or us i d).zone_count

  entry_read : (at : ℕ) (us : List Unit) (rest : List ℕ) (d : Unit) (i : ℕ) → i < length us → Every (Packable e) us → at + 46 * length us < 65536 → Entry (contents_from e at us ++ rest) at us d i
  entry_read at [] rest d i h p small = absurd (omega arith)
  entry_read at (u ∷ us) rest d zero h p small =
      let fits : Every Fits (entry at u) = omega (arith, p.0.sound.zone_count, edges-start e) in
      let behind = contents_from e (at + body_length e u.zone_count) us ++ rest in
      record {
        place = rw (contents-spelled at u us rest) (read-piece (entry at u) behind 0 (omega arith) fits);
        length_of = rw (contents-spelled at u us rest) (read-piece (entry at u) behind 1 (omega arith) fits);
      }
  entry_read at (u ∷ us) rest d (suc i) h p small =
      let later = entry_read (at + body_length e u.zone_count) us rest d i (omega arith) p.1 (omega (arith, p.0.sound.zone_count, edges-start e)) in
      let g : 4 * suc i ≡ 4 + 4 * i = omega arith in
      let f : 2 + 4 * suc i ≡ 4 + (2 + 4 * i) = omega arith in
      record {
        place = rw g (entry-later at u us rest (4 * i) ∙ later.place);
        length_of = rw f (entry-later at u us rest (2 + 4 * i) ∙ later.length_of);
      }

  body-read : (p : List ℕ) (at : ℕ) (us : List Unit) (d : Unit) (i : ℕ) → length p ≡ at → i < length us → Every (Packable e) us → take (body_length e (get_or us i d).zone_count) (drop (start_from at us i) (p ++ bodies_of e us)) ≡ body_of_unit e (get_or us i d)
  unfolding bodies_of
  body-read p at [] d i l h q = absurd (omega arith)
  body-read p at (u ∷ us) d zero l h q =
      rw (drop_at p (body_of_unit e u ++ bodies_of e us) at l) (take_at (body_of_unit e u) (bodies_of e us) (body_length e u.zone_count) (length-body e u q.0))
  body-read p at (u ∷ us) d (suc i) l h q =
      let long : length (p ++ body_of_unit e u) ≡ at + body_length e u.zone_count = length-append p (body_of_unit e u) ∙ ap₂ (λ (m n : ℕ). m + n) l (length-body e u q.0) in
      rw (← append_assoc p (body_of_unit e u) (bodies_of e us)) (body-read (p ++ body_of_unit e u) (at + body_length e u.zone_count) us d i long (omega arith) q.1)

-- ---- a file that was written is accepted, and read as what was written

abbrev head_of : ℕ → ℕ → List Unit → List Piece
head_of e d us = record { width = 2; value = e } ∷ record { width = 2; value = length us } ∷ record { width = 4; value = d } ∷ []

file-spelled : (e d : ℕ) (us : List Unit) → file_in e d us ≡ spell (head_of e d us) (contents_from e (8 + 4 * length us) us ++ bodies_of e us)
unfolding file_in
file-spelled e d us = simp append_assoc

module _ (e : ℕ) (first : 1 ≤ e) (last : e ≤ 2) (d : ℕ) (us : List Unit) (some : 1 ≤ length us) (few : length us ≤ 32) (small : d ≤ 320000) (every : Every (Packable e) us) where
  abbrev file : List ℕ
  file = file_in e d us

  abbrev behind : List ℕ
  behind = contents_from e (8 + 4 * length us) us ++ bodies_of e us

  head-fits : Every Fits (head_of e d us)
  head-fits = omega arith

  pub edition-read : edition file ≡ e
  edition-read = rw (file-spelled e d us) (read-piece (head_of e d us) behind 0 (omega arith) head-fits)

  count-read : count file ≡ length us
  count-read = rw (file-spelled e d us) (read-piece (head_of e d us) behind 1 (omega arith) head-fits)

  demand-read : demand file ≡ d
  demand-read = rw (file-spelled e d us) (read-piece (head_of e d us) behind 2 (omega arith) head-fits)

  module _ (v : Unit) (i : ℕ) (h : i < length us) where
    at_entry : Entry e behind (8 + 4 * length us) us v i
    at_entry = entry_read e (8 + 4 * length us) us (bodies_of e us) v i h every (omega arith)

    offset_read : offset file i ≡ start_from e (8 + 4 * length us) us i
    offset_read = rw (file-spelled e d us) (read_behind (head_of e d us) behind (4 * i) 2 ∙ at_entry.place)

    size-read : size file i ≡ body_length e (get_or us i v).zone_count
    size-read =
        let k : 10 + 4 * i ≡ 8 + (2 + 4 * i) = omega arith in
        rw (k, file-spelled e d us) (read_behind (head_of e d us) behind (2 + 4 * i) 2 ∙ at_entry.length_of)

    body-written : body file i ≡ body_of_unit e (get_or us i v)
    unfolding file_in
    body-written =
        rw (offset_read, size-read) (body-read e (front e d us) (8 + 4 * length us) us v i (length_front e d us) h every)

  start-read : (v : Unit) (i : ℕ) → i ≤ length us → start file i ≡ start_from e (8 + 4 * length us) us i
  start-read v zero h = ap (λ (n : ℕ). 8 + 4 * n) count-read
  start-read v (suc i) h =
      ap₂ (λ (m n : ℕ). m + n) (offset_read v i h) (size-read v i h) ∙ sym (start_from_next e (8 + 4 * length us) us i v h)

  pub written-sound : SoundFile file
  written-sound =
      let long : length file ≡ file_length e us = length-file e d us every in
      let v = unit_of_body e [] in
      let at : (i : ℕ) → i < count file → i < length us = λ i h. omega (arith, count-read) in
      record {
        head =
            record {
              long = omega arith;
              edition-least = omega (arith, edition-read);
              edition-greatest = omega (arith, edition-read);
              count-least = omega (arith, count-read);
              count-greatest = omega (arith, count-read);
              demand-greatest = omega (arith, demand-read);
            };
        contents =
            record {
              room = omega (arith, count-read);
              offsets = λ i h. offset_read v i (at i h) ∙ sym (start-read v i (omega (arith, count-read)));
              sizes = λ i h. rw (edition-read, size-read v i (at i h)) (legal e (body_length e (get_or us i v).zone_count) (get_or us i v).zone_count (every-at (Packable e) us i v every (at i h)).sound.zone_count refl);
              ends = rw count-read (start-read v (length us) (omega arith) ∙ start_from_last e (8 + 4 * length us) us ∙ sym long);
            };
        bodies = λ i h. rw (edition-read, body-written v i (at i h)) (body-accepted e (get_or us i v) (every-at (Packable e) us i v every (at i h)));
      }

  pub file-accepted : file_verdict file ≡ Ok tt
  file-accepted = (sound-file file).1 written-sound

  pub case_file_case : case_of file ≡ record { demand = d; units = us }
  unfolding case_of
  case_file_case =
      let v = unit_of_body e [] in
      let units : each (count file) (unit_at file) ≡ us =
      ap (λ (n : ℕ). each n (unit_at file)) count-read
      ∙ each_same (length us) (unit_at file) (λ i. get_or us i v) (λ i h. ap₂ unit_of_body edition-read (body-written v i h) ∙ unit_body_unit e (get_or us i v) (every-at (Packable e) us i v every h))
      ∙ each_get_or us v in
      λ i. record { demand = demand-read i; units = units i }

-- ---- an accepted file is what its case is written as

module _ {file : List ℕ} (s : SoundFile file) (b : Bytes file) where
  abbrev ed : ℕ
  ed = edition file

  -- the entries from j on
  contents-again : (k j : ℕ) → j + k ≡ count file → contents_from ed (start file j) (each k (λ i. unit_at file (j + i))) ++ drop (8 + 4 * count file) file ≡ drop (8 + 4 * j) file
  unfolding contents_from
  contents-again zero j e = let f : count file ≡ j = omega arith in rw f
  contents-again (suc k) j e =
      let u = unit_at file j in
      let us = each k (λ i. unit_at file (suc j + i)) in
      let rest = drop (8 + 4 * count file) file in
      let h : j < count file = omega arith in
      let next : start file j + body_length ed u.zone_count ≡ start file (suc j) = omega (arith, start-next s.contents j h, size-at s j h) in
      let m : 8 + 4 * suc j ≡ 8 + 4 * j + 4 = omega arith in
      let later : contents_from ed (start file j + body_length ed u.zone_count) us ++ rest ≡ drop (8 + 4 * j + 4) file =
      ap (λ (n : ℕ). contents_from ed n us ++ rest) next ∙ contents-again k (suc j) (omega arith) ∙ ap (λ (n : ℕ). drop n file) m in
      let l : 10 + 4 * j ≡ 8 + 4 * j + 2 = omega arith in
      let long : body_length ed u.zone_count ≡ field file (8 + 4 * j + 2) 2 = sym (size-at s j h) ∙ ap (λ (n : ℕ). field file n 2) l in
      let first : entry ed (start file j) u ≡ pieces file (8 + 4 * j) (2 ∷ 2 ∷ []) =
      λ i. record { width = 2; value = sym (s.contents.offsets j h) i } ∷ record { width = 2; value = long i } ∷ [] in
      ap (λ (vs : List Unit). contents_from ed (start file j) vs ++ rest) (each_from k j (unit_at file))
      ∙ contents-spelled ed (start file j) u us rest ∙ ap₂ spell first later
      ∙ spell-pieces file (8 + 4 * j) (2 ∷ 2 ∷ []) (omega (arith, s.contents.room)) b

  -- the bodies from j on
  bodies-again : (k j : ℕ) → j + k ≡ count file → bodies_of ed (each k (λ i. unit_at file (j + i))) ≡ drop (start file j) file
  unfolding bodies_of
  bodies-again zero j e = let f : j ≡ count file = omega arith in rw (f, s.contents.ends) (sym (drop-length file))
  bodies-again (suc k) j e =
      let h : j < count file = omega arith in
      ap (bodies_of ed) (each_from k j (unit_at file)) ∙ ap₂ (λ (x y : List ℕ). x ++ y) (body_at s b j h) (bodies-again k (suc j) (omega arith))
      ∙ ap (λ (x : List ℕ). body file j ++ x) (sym (drop-drop (size file j) (offset file j) file))
      ∙ take-append-drop (size file j) (drop (offset file j) file)
      ∙ ap (λ (n : ℕ). drop n file) (s.contents.offsets j h)

  -- the units from 0 on
  units-from : (case_of file).units ≡ each (count file) (λ i. unit_at file (0 + i))
  unfolding case_of
  units-from = each_same (count file) (unit_at file) (λ i. unit_at file (0 + i)) (λ i h. ap (unit_at file) (sym (zero-add i)))

  sound_file_again : file_in ed (case_of file).demand (case_of file).units ≡ file
  unfolding case_of
  sound_file_again =
      let us = each (count file) (λ i. unit_at file (0 + i)) in
      let n : length us ≡ count file = length-each (count file) (λ i. unit_at file (0 + i)) in
      let all : 0 + count file ≡ count file = zero-add (count file) in
      let behind : contents_from ed (8 + 4 * length us) us ++ bodies_of ed us ≡ drop 8 file =
      ap₂ (λ (m : ℕ) (x : List ℕ). contents_from ed (8 + 4 * m) us ++ x) n (bodies-again (count file) 0 all) ∙ contents-again (count file) 0 all in
      let first : head_of ed (demand file) us ≡ pieces file 0 (2 ∷ 2 ∷ 4 ∷ []) =
      λ i. record { width = 2; value = ed } ∷ record { width = 2; value = n i } ∷ record { width = 4; value = demand file } ∷ [] in
      ap (file_in ed (demand file)) units-from ∙ file-spelled ed (demand file) us ∙ ap₂ spell first behind
      ∙ spell-pieces file 0 (2 ∷ 2 ∷ 4 ∷ []) (omega (arith, s.head.long)) b

pub file_case_file : (file : List ℕ) → Bytes file → file_verdict file ≡ Ok tt → file_in (edition file) (case_of file).demand (case_of file).units ≡ file
file_case_file file b e = sound_file_again ((sound-file file).0 e) b
