-- Rules 2.8, 5.6 and 16.23 to 16.26 of docs/SPECIFICATION.md (S-13), as statements: what number 9 asks of limits and zones, what the rule on zones that share an edge keeps, and what such an edge is. (They are proved in proofs/SharedEdges.)
-- The rule as it was before S-13 stands here and nowhere else.
use Rattle.rules.specs.declared.Refusal.{Refusal}
use Rattle.std.specs.Prelude.{ℕ, suc, ◌%◌, ◌≤◌, ◌<◌, Bool, true, false, not, ◌&&◌, ◌||◌, List, [], ◌∷◌, ◌++◌, map, ◌↔◌, ◌≡◌, ltb, leb, eqb, length, Ok, Result}
use Rattle.rules.specs.Lists.{each}
use Rattle.rules.specs.Unit.{Unit, Zone, zone_at, zones, in_ramp_window, permitted}
use Rattle.rules.specs.Layout.{body_length, unit_of_body, edition, count, body, unit_at, units_of_rows}
use Rattle.rules.specs.Refusal.{◌refuses◌, ◌then◌, in_order, edition_verdict, head_verdict, contents_verdict, zone_count_invalid, coefficient_out_of_range, losses_out_of_range, limits_invalid, ramp_or_mark_out_of_range, unit_verdict, file_verdict}
use Rattle.rules.specs.Regions.{Region, regions}
use Rattle.rules.specs.Problem.{problem_in}
use Rattle.rules.specs.Bisection.{solvable}
use Rattle.rules.specs.Calls.{DispatchResult, dispatch_ends, dispatched, price_ends, priced, PackResult, file_length, pack_ends, packed, UnpackResult, unpack_ends, unpacked}
use Rattle.rules.specs.declared.Refusal.TheVariants.{
  BufferTooShort,
  MultiplierOutOfRange,
  DemandOutOfRange,
  ZoneCountInvalid,
  CoefficientOutOfRange,
  LossesOutOfRange,
  LimitsInvalid,
  RampOrMarkOutOfRange,
  NoAllocation,
  RowsInvalid,
  FileBufferTooShort,
}
use Rattle.rules.specs.Refusal.{Verdict}
use Rattle.rules.specs.declared.Priced.{Priced}

-- ---- (rules 2.8, 16.23) what number 9 asks, zone by zone: exactly this

pub record InOrder (u : Unit) : Type 0 where
  pub least : 1 ≤ u.least
  pub range : u.least < u.greatest
  pub greatest : u.greatest ≤ 10000
  -- each zone lies between the limits and touches neither, its edges in order
  pub above : (k : ℕ) → k < u.zone_count → u.least < (zone_at u.edges k).lower
  pub order : (k : ℕ) → k < u.zone_count → (zone_at u.edges k).lower < (zone_at u.edges k).upper
  pub below : (k : ℕ) → k < u.zone_count → (zone_at u.edges k).upper < u.greatest
  -- the next zone starts where it ends, or behind
  pub next : (k : ℕ) → suc k < u.zone_count → (zone_at u.edges k).upper ≤ (zone_at u.edges (suc k)).lower

abbrev pub NineExactlyOutOfOrder : Type 0
NineExactlyOutOfOrder = (u : Unit) → (limits_invalid u ≡ false) ↔ InOrder u

-- ---- the rule as it was: least, the edges in their order and greatest rise strictly

abbrev pub zones_rise : ℕ → List Zone → ℕ → Bool
zones_rise below [] above = ltb below above
zones_rise below (z ∷ zs) above = ltb below z.lower && ltb z.lower z.upper && zones_rise z.upper zs above

abbrev pub limits_invalid_before : Unit → Bool
limits_invalid_before u =
    not (leb 1 u.least && ltb u.least u.greatest && leb u.greatest 10000
    && zones_rise u.least (zones u) u.greatest)

-- a unit's checks with what number 9 refuses as a parameter
abbrev pub unit_verdict_by : Bool → Unit → Verdict
unit_verdict_by limits u =
    zone_count_invalid u refuses ZoneCountInvalid
    then coefficient_out_of_range u refuses CoefficientOutOfRange
    then losses_out_of_range u refuses LossesOutOfRange
    then limits refuses LimitsInvalid
    then ramp_or_mark_out_of_range u refuses RampOrMarkOutOfRange

abbrev pub unit_verdict_before : Unit → Verdict
unit_verdict_before u = unit_verdict_by (limits_invalid_before u) u

abbrev pub body_verdict_before : ℕ → List ℕ → Verdict
body_verdict_before e s =
    let u = unit_of_body e s in
    (ltb 4 u.zone_count || not (eqb (length s) (body_length e u.zone_count))) refuses ZoneCountInvalid then unit_verdict_before u

abbrev pub file_verdict_before : List ℕ → Verdict
file_verdict_before file =
    head_verdict file then contents_verdict file then in_order (each (count file) (λ i. body_verdict_before (edition file) (body file i)))

abbrev pub dispatched_before : List ℕ → List ℕ → DispatchResult
dispatched_before file reply =
    dispatch_ends (ltb (length reply) 92 refuses BufferTooShort then file_verdict_before file then not (solvable (problem_in file)) refuses NoAllocation) file reply

abbrev pub priced_before : List ℕ → ℕ → Result Priced Refusal
priced_before file m = price_ends (ltb 65536 m refuses MultiplierOutOfRange then file_verdict_before file then not (solvable (problem_in file)) refuses NoAllocation) file m

abbrev pub unpacked_before : List ℕ → List ℕ → UnpackResult
unpacked_before file rows = unpack_ends (ltb (length rows) 608 refuses BufferTooShort then edition_verdict 1 file then file_verdict_before file) file rows

abbrev pub pack_verdict_before : ℕ → List ℕ → List ℕ → Verdict
pack_verdict_before d rows file =
    (eqb (length rows) 0 || not (eqb (length rows % 19) 0) || ltb 608 (length rows)) refuses RowsInvalid
    then ltb 320000 d refuses DemandOutOfRange
    then in_order (map unit_verdict_before (units_of_rows rows []))
    then ltb (length file) (file_length 1 (units_of_rows rows [])) refuses FileBufferTooShort

abbrev pub packed_before : ℕ → List ℕ → List ℕ → PackResult
packed_before d rows file = pack_ends (pack_verdict_before d rows file) 1 d rows [] file

-- ---- (rule 16.24) without a shared edge nothing is otherwise

-- two neighbouring zones share an edge (of a unit with more zones than edges, which number 7 refuses, the missing ones count as 0)
abbrev pub shares_edge : List Zone → Bool
shares_edge [] = false
shares_edge (z ∷ []) = false
shares_edge (z ∷ y ∷ zs) = eqb z.upper y.lower || shares_edge (y ∷ zs)

abbrev pub NoSharedEdge : List ℕ → Type 0
NoSharedEdge file = (i : ℕ) → i < count file → shares_edge (zones (unit_at file i)) ≡ false

-- the calls on a file, whatever else they are given, answer and write what they did. (What a file holds, and the reply to it, are functions of its bytes that did not change.)
pub record CallsAsBefore (file : List ℕ) : Type 0 where
  pub verdict : file_verdict file ≡ file_verdict_before file
  pub dispatches : (reply : List ℕ) → dispatched file reply ≡ dispatched_before file reply
  pub prices : (m : ℕ) → priced file m ≡ priced_before file m
  pub unpacks : (rows : List ℕ) → unpacked file rows ≡ unpacked_before file rows

pub record SameWithoutSharedEdge : Type 0 where
  pub units : (u : Unit) → shares_edge (zones u) ≡ false → limits_invalid u ≡ limits_invalid_before u
  pub files : (file : List ℕ) → NoSharedEdge file → CallsAsBefore file

-- ---- (rule 16.25) what was accepted is accepted, and read, dispatched and packed as it was

pub record AcceptedStays : Type 0 where
  pub units : (u : Unit) → limits_invalid_before u ≡ false → limits_invalid u ≡ false
  pub files : (file : List ℕ) → file_verdict_before file ≡ Ok tt → CallsAsBefore file
  pub rows : (d : ℕ) (rows file : List ℕ) → pack_verdict_before d rows file ≡ Ok tt → packed d rows file ≡ packed_before d rows file

-- ---- (rule 16.26) the edge that two zones y and z share

pub record SharedPoint (u : Unit) (y z : Zone) : Type 0 where
  pub edge : permitted u y.upper ≡ true
  -- neither neighbour is permitted, unless it is the other edge of its zone
  pub below : (p : ℕ) → suc p ≡ y.upper → permitted u p ≡ true → p ≡ y.lower
  pub above : permitted u (suc y.upper) ≡ true → suc y.upper ≡ z.upper
  -- it is a region of its own
  pub before : List Region
  pub behind : List Region
  pub region : regions u ≡ before ++ (record { low = y.upper; high = y.upper } ∷ behind)

-- of an accepted unit, where the ramp window has it
abbrev pub SharedEdgePermitted : Type 0
SharedEdgePermitted =
    (u : Unit) (before behind : List Zone) (y z : Zone)
    → unit_verdict u ≡ Ok tt
    → in_ramp_window u y.upper ≡ true
    → zones u ≡ before ++ (y ∷ z ∷ behind)
    → y.upper ≡ z.lower
    → SharedPoint u y z
