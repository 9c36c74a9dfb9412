-- Number 18 is exact: the step from 9,999 to 10,000 gains the least net, 100,000,000 − b1 − 19,999 × b. Where b1 is 0 it refuses nothing that 8 accepts.
use Rattle.std.specs.Prelude.{Ok, Err}
use Prim.Native.Nat.{ℕ, suc, ◌+◌, ◌*◌, ◌/◌, ◌%◌}
use native.Mathlib.Omega.{arith}
use mathlib.Core.Path.{◌≡◌, refl, ap}
use mathlib.Core.Bool.{Bool, true, false, not, ◌||◌, true≢false}
use mathlib.Core.List.{List, [], ◌∷◌, map}
use lib.Dec.{ltb, eqb}
use lib.IntN.{pos, ◌+ℤ◌}
use lib.ListN.{length}
use lib.Signed.{◌<ℤ◌}
use Rattle.fields.specs.Integers.{positive_part, negative_part}
use Rattle.fields.proofs.Integers.{itself, is_pos, is_add, under, ≤_in, ≤_out, <_out}
use Rattle.rules.specs.Lists.{each, all, Every}
use Rattle.rules.specs.Unit.{Unit, with_loss}
use Rattle.rules.specs.Layout.{unit_of_body, body_length, edition, count, demand, body, units_of_rows, unit_in_row}
use Rattle.rules.specs.Refusal.{number_of, number_of_verdict, ◌refuses◌, ◌then◌, in_order, zone_count_invalid, coefficient_out_of_range, losses_out_of_range, limits_invalid, ramp_or_mark_out_of_range, edition_verdict, head_verdict, start, entry_fits, contents_verdict, unit_verdict, body_verdict, file_verdict, Verdict}
use Rattle.rules.specs.Calls.{file_length, pack_verdict, pack_ends, packed_in}
use Rattle.rules.specs.Losses.{LinearLossInRange, NetRises, RefusedExactlyWhereNetDoesNotRise, PackingNeverMeets18, Edition1NeverMeets18}
use Rattle.rules.specs.declared.Refusal.{Refusal}
use Rattle.rules.specs.declared.Refusal.TheVariants.{FileTooShort, EditionUnknown, CountOutOfRange, DemandOutOfRange, ContentsInvalid, ZoneCountInvalid, CoefficientOutOfRange, LimitsInvalid, RampOrMarkOutOfRange, RowsInvalid, FileBufferTooShort, LossesOutOfRange}
use Rattle.rules.proofs.Lists.{every-each, every_map}
use Rattle.rules.proofs.Verdicts.{accepts}
use Rattle.rules.proofs.Sound.{losses-sound}
use Rattle.rules.proofs.Economics.Quantities.{net-is, factor-up, net_grows}

-- ---- 18 is exact

rising : (u : Unit) → LinearLossInRange u → NetRises u → (u.b1 +ℤ pos (19999 * u.b)) <ℤ pos 100000000
unfolding positive_part negative_part
rising u r n =
    let low = ≤_in r.least in
    let high = ≤_in r.greatest in
    let last = n 9999 (omega arith) in
    under (is_add (itself u.b1) (is_pos (19999 * u.b))) (is_pos 100000000) (omega (arith, last, net-is u 9999, net-is u 10000, factor-up u))

pub exact : RefusedExactlyWhereNetDoesNotRise
exact u = (
  λ e.
      let s = (losses-sound u).0 e in
      (s.range, λ p h. let one : p + 1 ≡ suc p = omega arith in let g = net_grows s p 1 (omega arith) in omega (arith, rw one at g)),
  λ p. (losses-sound u).1 (record { range = p.0; rises = rising u p.0 p.1 }),
)

-- ---- what never meets 18, check by check

abbrev Never18 : Verdict → Type 0
Never18 v = number_of_verdict v ≡ 18 → ⊥

refuses-never : (c : Bool) (r : Refusal) → (number_of r ≡ 18 → ⊥) → Never18 (c refuses r)
refuses-never true r h e = h e
refuses-never false r h e = omega arith

next-never : (c : Bool) (r : Refusal) (w : Verdict) → (number_of r ≡ 18 → ⊥) → Never18 w → Never18 (c refuses r then w)
next-never true r w h g e = h e
next-never false r w h g e = g e

then_never : (v w : Verdict) → Never18 v → Never18 w → Never18 (v then w)
then_never (Ok _) w f g e = g e
then_never (Err r) w f g e = f e

in_order_never : (vs : List Verdict) → Every Never18 vs → Never18 (in_order vs)
in_order_never [] p e = omega arith
in_order_never (v ∷ vs) p e = then_never v (in_order vs) p.0 (in_order_never vs p.1) e

-- a unit without a linear loss: b is at most 5,000 once 8 has not refused it
module _ (u : Unit) (none : u.b1 ≡ pos 0) where
  small : coefficient_out_of_range u ≡ false → losses_out_of_range u ≡ false
  unfolding positive_part negative_part
  small e =
      let (_, b) = simp accepts at e in
      (losses-sound u).1
      (record {
        range = record { least = rw none (≤_out (omega arith)); greatest = rw none (≤_out (omega arith)) };
        rises = rw none (<_out (omega arith));
      })

  no_loss_never : Never18 (unit_verdict u)
  unfolding unit_verdict
  no_loss_never = by (zone_count_invalid u) (coefficient_out_of_range u) (losses_out_of_range u) (limits_invalid u) (ramp_or_mark_out_of_range u) small
    where
      by : (z c l m r : Bool) → (c ≡ false → l ≡ false) → Never18 (z refuses ZoneCountInvalid then c refuses CoefficientOutOfRange then l refuses LossesOutOfRange then m refuses LimitsInvalid then r refuses RampOrMarkOutOfRange)
      by true c l m r h e = omega arith
      by false true l m r h e = omega arith
      by false false true m r h e = true≢false (h refl)
      by false false false m r h e =
          then_never (m refuses LimitsInvalid) (r refuses RampOrMarkOutOfRange) (refuses-never m LimitsInvalid (λ k. omega arith)) (refuses-never r RampOrMarkOutOfRange (λ k. omega arith)) e

row-never : (rows : List ℕ) (i : ℕ) → Never18 (unit_verdict (unit_in_row rows [] i))
unfolding with_loss
row-never rows i = no_loss_never (unit_in_row rows [] i) refl

rows-never : (d : ℕ) (rows file : List ℕ) → Never18 (pack_verdict 1 d rows [] file)
unfolding pack_verdict units_of_rows
rows-never d rows file =
    next-never (eqb (length rows) 0 || not (eqb (length rows % 19) 0) || ltb 608 (length rows)) RowsInvalid _ (λ k. omega arith)
    (next-never (ltb 320000 d) DemandOutOfRange _ (λ k. omega arith)
    (then_never (in_order (map unit_verdict (units_of_rows rows []))) _ (in_order_never (map unit_verdict (units_of_rows rows [])) ((every_map Never18 unit_verdict (units_of_rows rows [])).1 (every-each (λ u. Never18 (unit_verdict u)) (length rows / 19) (unit_in_row rows []) (λ i h. row-never rows i))))
    (refuses-never (ltb (length file) (file_length 1 (units_of_rows rows []))) FileBufferTooShort (λ k. omega arith))))

pub packing_never : PackingNeverMeets18
unfolding packed_in pack_ends
packing_never d rows file = by (pack_verdict 1 d rows [] file) (rows-never d rows file)
  where
    by : (v : Verdict) → Never18 v → (pack_ends v 1 d rows [] file).answer ≡ Err LossesOutOfRange → ⊥
    by (Ok _) h e = absurd (let z : ◌≡◌ {A = ℕ} 0 1 = cc in omega arith)
    by (Err r) h e = h (let same : r ≡ LossesOutOfRange = cc in ap number_of same)

body-never : (s : List ℕ) → Never18 (body_verdict 1 s)
unfolding body_verdict unit_of_body
body-never s =
    let z = (unit_of_body 1 s).zone_count in
    next-never (ltb 4 z || not (eqb (length s) (body_length 1 z))) ZoneCountInvalid _ (λ k. omega arith) (no_loss_never (unit_of_body 1 s) refl)

head_never : (file : List ℕ) → Never18 (head_verdict file)
unfolding head_verdict edition_verdict
head_never file =
    then_never (edition_verdict 2 file) _
    (next-never (ltb (length file) 8) FileTooShort _ (λ k. omega arith)
    (refuses-never (ltb (edition file) 1 || ltb 2 (edition file)) EditionUnknown (λ k. omega arith)))
    (next-never (ltb (count file) 1 || ltb 32 (count file)) CountOutOfRange _ (λ k. omega arith)
    (refuses-never (ltb 320000 (demand file)) DemandOutOfRange (λ k. omega arith)))

contents-never : (file : List ℕ) → Never18 (contents_verdict file)
unfolding contents_verdict
contents-never file =
    refuses-never
    (ltb (length file) (8 + 4 * count file) || not (all (entry_fits file) (each (count file) (λ i. i))) || not (eqb (start file (count file)) (length file))) ContentsInvalid
    (λ k. omega arith)

file-never : (file : List ℕ) → edition file ≡ 1 → Never18 (file_verdict file)
unfolding file_verdict
file-never file one =
    then_never (head_verdict file) _ (head_never file)
    (then_never (contents_verdict file) _ (contents-never file)
    (in_order_never (each (count file) (λ i. body_verdict (edition file) (body file i))) (every-each Never18 (count file) (λ i. body_verdict (edition file) (body file i)) (λ i h. rw one (body-never (body file i))))))

pub edition1-never : Edition1NeverMeets18
edition1-never file one e = file-never file one (ap number_of_verdict e)
