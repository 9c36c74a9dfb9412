-- Packing and unpacking undo each other, as calls: what one wrote, handed to the other, gives back what the first was given.
use Rattle.std.specs.Prelude.{Ok, Err}
use Prim.Native.Nat.{ℕ, ◌*◌, ◌/◌, ◌≤◌}
use native.Mathlib.Omega.{arith}
use mathlib.Core.Path.{◌≡◌, refl, sym, ap, ap₂, ◌∙◌}
use mathlib.Core.List.{List, [], map}
use lib.IntN.{ℤ, pos}
use lib.ListN.{length, take, drop}
use lib.Seq.{take_at, take_all}
use Rattle.fields.specs.Field.{Bytes}
use Rattle.rules.specs.Lists.{over, Every}
use Rattle.rules.specs.Unit.{Unit, with_loss}
use Rattle.rules.specs.Layout.{Case, edition, count, demand, unit_at, case_of, in_second, unit_in_row, units_of_rows, rows_of_units, file_in, file_of}
use Rattle.rules.specs.Refusal.{in_order, unit_verdict, file_verdict, Verdict}
use Rattle.rules.specs.Calls.{file_length, PackResult, pack_verdict, pack_ends, packed_in, packed, packed2, UnpackResult, unpack_verdict, unpack_ends, unpacked}
use Rattle.rules.specs.Undoing.{PackedFileIsAccepted, ReadingUndoesPacking2, UnpackingUndoesPacking, PackingUndoesUnpacking}
use Rattle.rules.specs.declared.Unpacked.{Unpacked}
use Rattle.rules.proofs.Lists.{every-both, every_more, every_map, length-each, each_take, map_each}
use Rattle.rules.proofs.Verdicts.{in_order_accepted, accepts}
use Rattle.rules.proofs.Sound.{sound, sound-accepted}
use Rattle.rules.proofs.Encoding.Rows.{InRow, rows_units_rows, units_rows_units, length-rows, rows_in_row}
use Rattle.rules.proofs.Encoding.Body.{Packable}
use Rattle.rules.proofs.Encoding.SoundFile.{sound-file, edition-one, units-packable}
use Rattle.rules.proofs.Encoding.RoundTrip.{length-file, edition-read, file-accepted, case_file_case, file_case_file}

-- ---- accepted rows

-- rows that packing takes, a b1 for each in edition 2, and a demand and a buffer for them
pub record SoundRows (e d : ℕ) (rows : List ℕ) (b1 : List ℤ) (buffer : List ℕ) : Type 0 where
  pub given : length b1 ≡ in_second e (length rows / 19)
  pub whole : length rows ≡ 19 * length (units_of_rows rows b1)
  pub some : 1 ≤ length (units_of_rows rows b1)
  pub few : length (units_of_rows rows b1) ≤ 32
  pub demand : d ≤ 320000
  pub units : Every (Packable e) (units_of_rows rows b1)
  pub room : file_length e (units_of_rows rows b1) ≤ length buffer

-- units that rows can hold: each verdict is Accepted exactly if each unit is sound
each-accepted : (e : ℕ) (us : List Unit) → Every (InRow e) us → in_order (map unit_verdict us) ≡ Ok tt → Every (Packable e) us
each-accepted e us held a =
    every-both (λ u. unit_verdict u ≡ Ok tt) (InRow e) (Packable e) (λ u v n. record { sound = sound u v; row = n }) us
    ((every_map (λ v. v ≡ Ok tt) unit_verdict us).0 ((in_order_accepted (map unit_verdict us)).0 a)) held

each-sound : (e : ℕ) (us : List Unit) → Every (Packable e) us → in_order (map unit_verdict us) ≡ Ok tt
each-sound e us p =
    (in_order_accepted (map unit_verdict us)).1
    ((every_map (λ v. v ≡ Ok tt) unit_verdict us).1 (every_more (Packable e) (λ u. unit_verdict u ≡ Ok tt) (λ u q. sound-accepted u q.sound) us p))

module _ (e d : ℕ) (rows : List ℕ) (b1 : List ℤ) (buffer : List ℕ) where
  count-is : length (units_of_rows rows b1) ≡ length rows / 19
  unfolding units_of_rows
  count-is = length-each (length rows / 19) _

  pub sound-rows : pack_verdict e d rows b1 buffer ≡ Ok tt → SoundRows e d rows b1 buffer
  unfolding pack_verdict
  sound-rows a =
      let ((((given, some), whole), few), (demand, (units, room))) = simp accepts at a in
      record {
        given = given;
        whole = omega (arith, count-is);
        some = omega (arith, count-is);
        few = omega (arith, count-is);
        demand = demand;
        units = each-accepted e (units_of_rows rows b1) (rows_in_row e rows b1 given) units;
        room = room;
      }

  pub sound_rows_accepted : SoundRows e d rows b1 buffer → pack_verdict e d rows b1 buffer ≡ Ok tt
  unfolding pack_verdict
  sound_rows_accepted s =
      simp accepts (
        (((s.given, omega (arith, s.whole, s.some)), omega (arith, s.whole)), omega (arith, s.whole, s.few)),
        (s.demand, (each-sound e (units_of_rows rows b1) s.units, s.room)),
      )

-- ---- what an answer tells

pub pack-wrote : (v : Verdict) (e d : ℕ) (rows : List ℕ) (b1 : List ℤ) (buffer : List ℕ) (n : ℕ) → (pack_ends v e d rows b1 buffer).answer ≡ Ok n → (v ≡ Ok tt) × (length (file_in e d (units_of_rows rows b1)) ≡ n)
unfolding pack_ends
pack-wrote (Ok _) e d rows b1 buffer n a = (refl, cc)
pack-wrote (Err r) e d rows b1 buffer n a = absurd (let z : ◌≡◌ {A = ℕ} 0 1 = cc in omega arith)

unpack_read : (v : Verdict) (file rows : List ℕ) (d n : ℕ) → (unpack_ends v file rows).answer ≡ Ok (record { demand = d; count = n }) → (v ≡ Ok tt) × ((case_of file).demand ≡ d) × (length (case_of file).units ≡ n)
unfolding unpack_ends
unpack_read (Ok _) file rows d n e =
    let same : ◌≡◌ {A = Unpacked} (record { demand = (case_of file).demand; count = length (case_of file).units }) (record { demand = d; count = n }) = cc in
    (refl, ap (λ (u : Unpacked). u.demand) same, ap (λ (u : Unpacked). u.count) same)
unpack_read (Err r) file rows d n e = absurd (let z : ◌≡◌ {A = ℕ} 0 1 = cc in omega arith)

-- what packing and unpacking give, where they refuse nothing
abbrev wrote : List ℕ → List ℕ → PackResult
wrote file buffer = record { answer = Ok (length file); file = over file buffer }

abbrev read : Case → List ℕ → UnpackResult
read c out = record { answer = Ok (record { demand = c.demand; count = length c.units }); rows = over (rows_of_units c.units) out }

packed-is : (e d : ℕ) (rows : List ℕ) (b1 : List ℤ) (buffer : List ℕ) → pack_verdict e d rows b1 buffer ≡ Ok tt → packed_in e d rows b1 buffer ≡ wrote (file_in e d (units_of_rows rows b1)) buffer
unfolding packed_in pack_ends
packed-is e d rows b1 buffer a = rw a

unpacked-is : (file out : List ℕ) → unpack_verdict file out ≡ Ok tt → unpacked file out ≡ read (case_of file) out
unfolding unpacked unpack_ends
unpacked-is file out e = rw e

-- what packing wrote: the file of sound rows
record WroteFile (e d : ℕ) (rows : List ℕ) (b1 : List ℤ) (buffer : List ℕ) (n : ℕ) : Type 0 where
  sound_are : SoundRows e d rows b1 buffer
  file-is : take n (packed_in e d rows b1 buffer).file ≡ file_in e d (units_of_rows rows b1)

wrote-file : (e d : ℕ) (rows : List ℕ) (b1 : List ℤ) (buffer : List ℕ) (n : ℕ) → (packed_in e d rows b1 buffer).answer ≡ Ok n → WroteFile e d rows b1 buffer n
unfolding packed_in
wrote-file e d rows b1 buffer n a =
    let (accepted, long) = pack-wrote (pack_verdict e d rows b1 buffer) e d rows b1 buffer n a in
    let file = file_in e d (units_of_rows rows b1) in
    record {
      sound_are = sound-rows e d rows b1 buffer accepted;
      file-is = ap (λ (r : PackResult). take n r.file) (packed-is e d rows b1 buffer accepted) ∙ take_at file (drop (length file) buffer) n long;
    }

-- ---- each undoes the other

-- what packing writes is an accepted file
pub packed-accepted : PackedFileIsAccepted
packed-accepted d rows buffer n a =
    let w = wrote-file 1 d rows [] buffer n a in
    let s = w.sound_are in
    ap file_verdict w.file-is ∙ file-accepted 1 (omega arith) (omega arith) d (units_of_rows rows []) s.some s.few s.demand s.units

-- also in edition 2, and it is read as what was packed
pub read_pack2 : ReadingUndoesPacking2
unfolding units_of_rows with_loss
read_pack2 d rows b1 buffer n a =
    let w = wrote-file 2 d rows b1 buffer n a in
    let s = w.sound_are in
    let us = units_of_rows rows b1 in
    let same : case_of (take n (packed2 d rows b1 buffer).file) ≡ record { demand = d; units = us } =
    ap case_of w.file-is ∙ case_file_case 2 (omega arith) (omega arith) d us s.some s.few s.demand s.units in
    record {
      accepted = ap file_verdict w.file-is ∙ file-accepted 2 (omega arith) (omega arith) d us s.some s.few s.demand s.units;
      case = same;
      rows_back = ap (λ (c : Case). rows_of_units c.units) same ∙ rows_units_rows rows b1 (length us) s.whole;
      losses-back =
          ap (λ (c : Case). map (λ u. u.b1) c.units) same ∙ map_each (λ u. u.b1) (length rows / 19) (unit_in_row rows b1)
          ∙ each_take (length rows / 19) b1 (pos 0) (omega (arith, s.given)) ∙ take_all (length rows / 19) b1 (omega (arith, s.given));
    }

-- rows that were packed: unpacking the file gives back the demand and the rows
pub unpack_pack : UnpackingUndoesPacking
unfolding unpack_verdict
unpack_pack d rows buffer out n a h =
    let w = wrote-file 1 d rows [] buffer n a in
    let s = w.sound_are in
    let us = units_of_rows rows [] in
    let file = file_of d us in
    let sound : file_verdict file ≡ Ok tt = file-accepted 1 (omega arith) (omega arith) d us s.some s.few s.demand s.units in
    let one = (edition-one file).1 (((sound-file file).0 sound).head.long, edition-read 1 (omega arith) (omega arith) d us s.some s.few s.demand s.units) in
    let verdict : unpack_verdict file out ≡ Ok tt = simp accepts (h, (one, sound)) in
    ap (λ (f : List ℕ). unpacked f out) w.file-is ∙ unpacked-is file out verdict
    ∙ ap (λ (c : Case). read c out) (case_file_case 1 (omega arith) (omega arith) d us s.some s.few s.demand s.units)
    ∙ (λ i. record { answer = Ok (record { demand = d; count = count-is 1 d rows [] buffer i }); rows = over (rows_units_rows rows [] (length us) s.whole i) out })

-- a file that was unpacked, of edition 1: packing the demand and the rows gives back the file
module _ (file : List ℕ) (b : Bytes file) (verdict : file_verdict file ≡ Ok tt) (one : edition file ≡ 1) where
  abbrev us : List Unit
  us = (case_of file).units

  abbrev rows : List ℕ
  rows = rows_of_units us

  packable : Every (Packable 1) us
  packable = rw one at (units-packable file verdict)

  file-again : file_of (case_of file).demand us ≡ file
  file-again = ap (λ (e : ℕ). file_in e (case_of file).demand us) (sym one) ∙ file_case_file file b verdict

  held : Every (InRow 1) us
  held = every_more (Packable 1) (InRow 1) (λ u p. p.row) us packable

  units-again : units_of_rows rows [] ≡ us
  units-again = units_rows_units us held

  rows-sound : (buffer : List ℕ) → length file ≤ length buffer → SoundRows 1 (case_of file).demand rows [] buffer
  unfolding case_of
  rows-sound buffer h =
      let s = ((sound-file file).0 verdict).head in
      let n : length us ≡ count file = length-each (count file) (unit_at file) in
      let long : length file ≡ file_length 1 us = ap length (sym file-again) ∙ length-file 1 (demand file) us packable in
      record {
        given = refl;
        whole = rw units-again (length-rows us held);
        some = rw units-again (omega (arith, n, s.count-least));
        few = rw units-again (omega (arith, n, s.count-greatest));
        demand = s.demand-greatest;
        units = rw units-again packable;
        room = rw units-again (omega arith);
      }

pub pack_unpack : PackingUndoesUnpacking
unfolding unpacked unpack_verdict
pack_unpack file out buffer d n b e h =
    let (accepted, demand-is, count-is) = unpack_read (unpack_verdict file out) file out d n e in
    let (long, (head, verdict)) = simp accepts at accepted in
    let one = ((edition-one file).0 head).1 in
    let rows = rows_of_units (case_of file).units in
    let same : take (19 * n) (unpacked file out).rows ≡ rows =
    ap (λ (r : UnpackResult). take (19 * n) r.rows) (unpacked-is file out accepted)
    ∙ take_at rows (drop (length rows) out) (19 * n) (length-rows (case_of file).units (held file b verdict one) ∙ ap (λ (m : ℕ). 19 * m) count-is) in
    let sound : SoundRows 1 d rows [] buffer = rw (← demand-is) (rows-sound file b verdict one buffer h) in
    let again : file_of d (units_of_rows rows []) ≡ file = ap₂ file_of (sym demand-is) (units-again file b verdict one) ∙ file-again file b verdict one in
    ap (λ (r : List ℕ). packed d r buffer) same ∙ packed-is 1 d rows [] buffer (sound_rows_accepted 1 d rows [] buffer sound)
    ∙ ap (λ (f : List ℕ). wrote f buffer) again
