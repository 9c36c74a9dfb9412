-- (rule 14.2) Lengths are 30 or more and numbers are less: a C caller can tell the two apart. And no length is above 92, or of a file 1,480, in edition 2 1,608.
use Rattle.std.specs.Prelude.{Ok}
use mathlib.Core.Path.{◌≡◌}
use mathlib.Core.List.{List, [], ◌∷◌}
use Prim.Native.Nat.{ℕ, ◌+◌, ◌*◌, ◌≤◌, ◌<◌}
use native.Mathlib.Nat.{le_refl, mul-le-mul}
use native.Mathlib.Omega.{arith}
use lib.IntN.{ℤ}
use lib.ListN.{length}
use Rattle.rules.specs.Unit.{Unit}
use Rattle.rules.specs.Layout.{edges_start, bodies_length, units_of_rows}
use Rattle.rules.specs.Refusal.{number_of}
use Rattle.rules.specs.Calls.{dispatched, pack_verdict, packed_in}
use Rattle.rules.specs.declared.Refusal.{Refusal}
use Rattle.rules.specs.declared.Refusal.TheVariants.{
  BufferTooShort,
  FileTooShort,
  EditionUnknown,
  CountOutOfRange,
  DemandOutOfRange,
  ContentsInvalid,
  ZoneCountInvalid,
  CoefficientOutOfRange,
  LimitsInvalid,
  RampOrMarkOutOfRange,
  NoAllocation,
  RowsInvalid,
  FileBufferTooShort,
  MultiplierOutOfRange,
  ReplyMalformed,
  RequestLengthInvalid,
  AnswerTooShort,
  LossesOutOfRange,
  OutputCountInvalid,
  DemandsInvalid,
  FloorsTooShort,
  DayDemandsInvalid,
  DayBuffersTooShort,
  CaseChanged,
  BudgetOutOfRange,
  GencostMalformed,
  GencostNotWhole,
  GencostAboveLimit,
}
use Rattle.rules.specs.Lists.{Every}
use Rattle.rules.proofs.Encoding.Body.{Packable, edges-start}
use Rattle.rules.proofs.Encoding.RoundTrip.{length-file}
use Rattle.rules.proofs.Encoding.Undo.{sound-rows, pack-wrote}
use Rattle.rules.proofs.Replied.{counted, replied}

pub number_below_30 : (r : Refusal) → number_of r < 30
number_below_30 BufferTooShort = omega arith
number_below_30 FileTooShort = omega arith
number_below_30 EditionUnknown = omega arith
number_below_30 CountOutOfRange = omega arith
number_below_30 DemandOutOfRange = omega arith
number_below_30 ContentsInvalid = omega arith
number_below_30 ZoneCountInvalid = omega arith
number_below_30 CoefficientOutOfRange = omega arith
number_below_30 LimitsInvalid = omega arith
number_below_30 RampOrMarkOutOfRange = omega arith
number_below_30 NoAllocation = omega arith
number_below_30 RowsInvalid = omega arith
number_below_30 FileBufferTooShort = omega arith
number_below_30 MultiplierOutOfRange = omega arith
number_below_30 ReplyMalformed = omega arith
number_below_30 RequestLengthInvalid = omega arith
number_below_30 AnswerTooShort = omega arith
number_below_30 LossesOutOfRange = omega arith
number_below_30 OutputCountInvalid = omega arith
number_below_30 DemandsInvalid = omega arith
number_below_30 FloorsTooShort = omega arith
number_below_30 DayDemandsInvalid = omega arith
number_below_30 DayBuffersTooShort = omega arith
number_below_30 CaseChanged = omega arith
number_below_30 BudgetOutOfRange = omega arith
number_below_30 GencostMalformed = omega arith
number_below_30 GencostNotWhole = omega arith
number_below_30 GencostAboveLimit = omega arith

-- ---- lengths

pub replied-length : (file reply : List ℕ) (n : ℕ) → (dispatched file reply).answer ≡ Ok n → (30 ≤ n) × (n ≤ 92)
replied-length file reply n e =
    let r = replied file reply n e in
    let c = counted file r.accepted in
    omega (arith, r.long, c.long, c.some, c.few)

bodies-length : (e : ℕ) (us : List Unit) → Every (Packable e) us → (edges_start e * length us ≤ bodies_length e us) × (bodies_length e us ≤ (edges_start e + 16) * length us)
bodies-length e [] p = omega arith
bodies-length e (u ∷ us) p = omega (arith, bodies-length e us p.1, p.0.sound.zone_count)

-- 1,480 in edition 1, 1,608 in edition 2
pub packed-length : (e d : ℕ) (rows : List ℕ) (b1 : List ℤ) (buffer : List ℕ) (n : ℕ) → (packed_in e d rows b1 buffer).answer ≡ Ok n → (30 ≤ n) × (n ≤ 136 + (edges_start e + 16) * 32)
unfolding packed_in
packed-length e d rows b1 buffer n a =
    let (accepted, long) = pack-wrote (pack_verdict e d rows b1 buffer) e d rows b1 buffer n a in
    let s = sound-rows e d rows b1 buffer accepted in
    let us = units_of_rows rows b1 in
    let least : edges_start e * 1 ≤ edges_start e * length us = mul-le-mul (le_refl (edges_start e)) s.some in
    let most : (edges_start e + 16) * length us ≤ (edges_start e + 16) * 32 = mul-le-mul (le_refl (edges_start e + 16)) s.few in
    omega (arith, long, length-file e d us s.units, s.some, s.few, bodies-length e us s.units, least, most, edges-start e)
