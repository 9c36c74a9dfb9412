-- The fields one behind the other are the body: two of four bytes, nine of two, b1 in edition 2, the edges in use.
use Rattle.std.proofs.Common.{◌≡◌, ◌∙◌, ◌+◌, ◌*◌, ap, arith, rules, length, length-take}
use Rattle.std.proofs.Math.Facts.{to_z-of_z}
use mir.Syntax.{w32}
use Rattle.rules.specs.Layout.{in_second}
use Rattle.rules.proofs.Sound.{sound}
use Rattle.fields.specs.Field.{written, unsigned}
use Rattle.rules.proofs.Encoding.Front.{given_back}
use Rattle.unit.specs.UnitHeld.{unit_held}
use Rattle.packing.proofs.Written.{words-fit, edges_fit, body-whole}
use Rattle.packing.proofs.write_body.Goals as goal

pub write_words-requires-clause-words_fit : goal.write_words-requires-clause-words_fit
write_words-requires-clause-words_fit c = words-fit (sound (unit_held c.args.u) c.requires.u_value)

pub slice_bounds-edges-end : goal.slice_bounds-edges-end
slice_bounds-edges-end c =
    let eight : length c.args.u.edges ≡ 8 = search rules in
    omega (arith, (sound (unit_held c.args.u) c.requires.u_value).zone_count)

pub slice_bounds-write_words-end-4 : goal.slice_bounds-write_words-end-4
slice_bounds-write_words-end-4 c =
    let eight : length c.args.u.edges ≡ 8 = search rules in
    simp length-take (omega (arith, (sound (unit_held c.args.u) c.requires.u_value).zone_count))

pub write_words-requires-2-clause-words_fit : goal.write_words-requires-2-clause-words_fit
write_words-requires-2-clause-words_fit c = edges_fit (sound (unit_held c.args.u) c.requires.u_value) (2 * c.args.u.zone_count)

pub returns : goal.returns
returns c =
    let a = c.args in
    let width = c.in_second-width.ensures.0 in
    let held : c.into_field-loss.result ≡ unsigned 4 a.u.b1 = c.into_field-loss.ensures ∙ ap (λ z. unsigned 4 z) (to_z-of_z {w = w32} {z = a.u.b1} (search rules)) in
    let loss : c.write_number.new.s ≡ written (given_back 8 c.write-2.new.s c.write_words.new.part) 26 (in_second a.edition 4) (unsigned 4 a.u.b1) =
    rw (width, held) at c.write_number.ensures in
    body-whole a.edition (unit_held a.u) a.part.now c.write.new.s c.write-2.new.s c.write_words.new.part c.write.ensures c.write-2.ensures c.write_words.ensures c.write_number.new.s loss _ (ap (λ n. 26 + n) width) c.write_words-2.new.part c.write_words-2.ensures
