-- Rules 4.1 to 4.10 of docs/SPECIFICATION.md: the refusals, their numbers, and the checks of a file and of a unit in their order. (The order of each call as a whole is in `Calls`, in `modbus/specs/View`, `judging/specs/Judging`, `sensitivity/specs/Floors`, `day/specs/Day`, `stepping/specs/Runs`, `branching/specs/Refining` and `gencost/specs/Row`.)
use Rattle.std.specs.Prelude.{⊤, ℕ, zero, suc, ◌+◌, ◌*◌, Bool, true, cond, not, ◌&&◌, ◌||◌, List, [], ◌∷◌, ltb, leb, eqb, pos, neg_ℤ, ◌+ℤ◌, length, drop, Ok, Err, Result}
use Rattle.std.specs.Int.Signed.{le_z, lt_z}
use Rattle.rules.specs.Lists.{each, all}
use Rattle.rules.specs.Unit.{Unit, Zone, zones}
use Rattle.rules.specs.Layout.{unit_of_body, body_length, edition, count, demand, offset, size, body}
use Rattle.rules.specs.declared.Refusal.{Refusal}
use Rattle.rules.specs.declared.Refusal.TheVariants.{
  BufferTooShort,
  FileTooShort,
  EditionUnknown,
  CountOutOfRange,
  DemandOutOfRange,
  ContentsInvalid,
  ZoneCountInvalid,
  CoefficientOutOfRange,
  LimitsInvalid,
  RampOrMarkOutOfRange,
  NoAllocation,
  RowsInvalid,
  FileBufferTooShort,
  MultiplierOutOfRange,
  ReplyMalformed,
  RequestLengthInvalid,
  AnswerTooShort,
  LossesOutOfRange,
  OutputCountInvalid,
  DemandsInvalid,
  FloorsTooShort,
  DayDemandsInvalid,
  DayBuffersTooShort,
  CaseChanged,
  BudgetOutOfRange,
  GencostMalformed,
  GencostNotWhole,
  GencostAboveLimit,
}

infixl 21 ◌refuses◌
infixr 20 ◌then◌
-- the number of each refusal (rule 4.2)
abbrev pub number_of : Refusal → ℕ
number_of BufferTooShort = 1
number_of FileTooShort = 2
number_of EditionUnknown = 3
number_of CountOutOfRange = 4
number_of DemandOutOfRange = 5
number_of ContentsInvalid = 6
number_of ZoneCountInvalid = 7
number_of CoefficientOutOfRange = 8
number_of LimitsInvalid = 9
number_of RampOrMarkOutOfRange = 10
number_of NoAllocation = 11
number_of RowsInvalid = 12
number_of FileBufferTooShort = 13
number_of MultiplierOutOfRange = 14
number_of ReplyMalformed = 15
number_of RequestLengthInvalid = 16
number_of AnswerTooShort = 17
number_of LossesOutOfRange = 18
number_of OutputCountInvalid = 19
number_of DemandsInvalid = 20
number_of FloorsTooShort = 21
number_of DayDemandsInvalid = 22
number_of DayBuffersTooShort = 23
number_of CaseChanged = 24
number_of BudgetOutOfRange = 25
number_of GencostMalformed = 26
number_of GencostNotWhole = 27
number_of GencostAboveLimit = 28

-- what checking finds: nothing, or the first refusal
abbrev pub Verdict : Type 0
Verdict = Result ⊤ Refusal

-- what checking finds, as a number: 0 where nothing is refused
abbrev pub number_of_verdict : Verdict → ℕ
number_of_verdict (Ok _) = 0
number_of_verdict (Err r) = number_of r

-- (rule 4.3) a condition that refuses, and one check after another
abbrev pub ◌refuses◌ : Bool → Refusal → Verdict
condition refuses r = cond condition (Err r) (Ok tt)

abbrev pub ◌then◌ : Verdict → Verdict → Verdict
Ok _ then next = next
Err r then next = Err r

abbrev pub in_order : List Verdict → Verdict
in_order [] = Ok tt
in_order (v ∷ vs) = v then in_order vs

-- ---- head (rule 2.2)

-- by the newest edition that a call takes: 2, but 1 in unpacking (rule 4.9, since S-4)
unfoldable pub edition_verdict : ℕ → List ℕ → Verdict
edition_verdict newest file =
    ltb (length file) 8 refuses FileTooShort
    then (ltb (edition file) 1 || ltb newest (edition file)) refuses EditionUnknown

unfoldable pub head_verdict : List ℕ → Verdict
head_verdict file =
    edition_verdict 2 file
    then (ltb (count file) 1 || ltb 32 (count file)) refuses CountOutOfRange
    then ltb 320000 (demand file) refuses DemandOutOfRange

-- ---- contents (rules 2.4, 2.5): the bodies lie one behind the other without a gap, from the end of the contents to the end of the file, each as long as some number of zones makes it

abbrev pub start : List ℕ → ℕ → ℕ
start file zero = 8 + 4 * count file
start file (suc i) = offset file i + size file i

-- 26, 30, 34, 38 or 42; in edition 2 30, 34, 38, 42 or 46
abbrev pub legal_size : ℕ → ℕ → Bool
legal_size e l =
    eqb l (body_length e 0) || eqb l (body_length e 1) || eqb l (body_length e 2) || eqb l (body_length e 3) || eqb l (body_length e 4)

abbrev pub entry_fits : List ℕ → ℕ → Bool
entry_fits file i = eqb (offset file i) (start file i) && legal_size (edition file) (size file i)

unfoldable pub contents_verdict : List ℕ → Verdict
contents_verdict file =
    (ltb (length file) (8 + 4 * count file)
    || not (all (entry_fits file) (each (count file) (λ i. i)))
    || not (eqb (start file (count file)) (length file))) refuses ContentsInvalid

-- ---- body, unit by unit (rules 4.4 to 4.6). Files and rows share these checks: a row has no length, and may have an unused edge that is not zero.

-- (rule 2.8, since S-13) zones from a number on: each upper edge is above its lower edge, the next lower edge is no lower (two zones may share an edge), and the last upper edge is below the upper limit
unfoldable pub zones_ascend : ℕ → List Zone → ℕ → Bool
zones_ascend from [] above = ltb from above
zones_ascend from (z ∷ zs) above = leb from z.lower && ltb z.lower z.upper && zones_ascend z.upper zs above

-- the first lower edge is above the lower limit
abbrev pub starts_above : ℕ → List Zone → Bool
starts_above least [] = true
starts_above least (z ∷ zs) = ltb least z.lower

abbrev pub zones_fit : ℕ → List Zone → ℕ → Bool
zones_fit least zs greatest = starts_above least zs && zones_ascend least zs greatest

abbrev pub unused_edges_zero : Unit → Bool
unused_edges_zero u = all (λ e. eqb e 0) (drop (2 * u.zone_count) u.edges)

-- what each of the numbers 7, 8, 18, 9 and 10 refuses in a unit
abbrev pub zone_count_invalid : Unit → Bool
zone_count_invalid u = ltb 4 u.zone_count || not (unused_edges_zero u)

abbrev pub coefficient_out_of_range : Unit → Bool
coefficient_out_of_range u = ltb 1000000000 u.c0 || ltb 10000000 u.c1 || ltb 1000 u.c2 || ltb 5000 u.b

-- (rule 2.11, since S-4) b1 out of range, or a net that does not rise up to output 10,000 (`Losses`)
abbrev pub losses_out_of_range : Unit → Bool
losses_out_of_range u =
    lt_z u.b1 (neg_ℤ (pos 10000000)) || lt_z (pos 10000000) u.b1 || le_z (pos 100000000) (u.b1 +ℤ pos (19999 * u.b))

abbrev pub limits_invalid : Unit → Bool
limits_invalid u =
    not (leb 1 u.least && ltb u.least u.greatest && leb u.greatest 10000
    && zones_fit u.least (zones u) u.greatest)

abbrev pub ramp_or_mark_out_of_range : Unit → Bool
ramp_or_mark_out_of_range u = ltb 10000 u.previous || ltb 10000 u.up || ltb 10000 u.down || ltb 1 u.mark

unfoldable pub unit_verdict : Unit → Verdict
unit_verdict u =
    zone_count_invalid u refuses ZoneCountInvalid
    then coefficient_out_of_range u refuses CoefficientOutOfRange
    then losses_out_of_range u refuses LossesOutOfRange
    then limits_invalid u refuses LimitsInvalid
    then ramp_or_mark_out_of_range u refuses RampOrMarkOutOfRange

unfoldable pub body_verdict : ℕ → List ℕ → Verdict
body_verdict e s =
    let u = unit_of_body e s in
    (ltb 4 u.zone_count || not (eqb (length s) (body_length e u.zone_count))) refuses ZoneCountInvalid then unit_verdict u

-- ---- (rule 4.8) an accepted file, of either edition: nothing from 2 to 10, nor 18, refuses it
unfoldable pub file_verdict : List ℕ → Verdict
file_verdict file =
    head_verdict file then contents_verdict file then in_order (each (count file) (λ i. body_verdict (edition file) (body file i)))
