-- Rules 12.1 to 14.4 of docs/SPECIFICATION.md, and the order of checks of each call (rule 4.3): for each public call, on every input, its answer and the final contents of every buffer that it was lent.
-- A refusal leaves each buffer as it was; otherwise the call's output stands at the buffer's start, and the rest is untouched.
use Rattle.rules.specs.declared.Refusal.{Refusal}
use Rattle.std.specs.Prelude.{ℕ, ◌+◌, ◌*◌, ◌/◌, ◌%◌, Bool, cond, not, ◌||◌, List, [], ◌∷◌, ◌++◌, map, ltb, eqb, ℤ, pos, length, Ok, Err, Result}
use Rattle.fields.specs.Field.{bytes, bytes_of_each}
use Rattle.rules.specs.Lists.{over}
use Rattle.rules.specs.Unit.{Unit}
use Rattle.rules.specs.Layout.{case_of, in_second, units_of_rows, rows_of_units, bodies_length, file_in}
use Rattle.rules.specs.Refusal.{number_of, ◌refuses◌, ◌then◌, in_order, edition_verdict, file_verdict, unit_verdict}
use Rattle.rules.specs.Problem.{problem_in, units_of, total_net, covers}
use Rattle.rules.specs.Choice.{choices, dual_value}
use Rattle.rules.specs.Bisection.{Reply, solvable, solve}
use Rattle.rules.specs.declared.Refusal.TheVariants.{
  BufferTooShort,
  NoAllocation,
  RowsInvalid,
  FileBufferTooShort,
  MultiplierOutOfRange,
  DemandOutOfRange,
}
use Rattle.rules.specs.Refusal.{Verdict}
use Rattle.rules.specs.declared.Priced.{Priced}
use Rattle.rules.specs.declared.Unpacked.{Unpacked}

-- ---- the case: what dispatch, pricing and judging ask of the file, its checks and then step 1 (rule 11.1)

unfoldable pub case_verdict : List ℕ → Verdict
case_verdict file = file_verdict file then not (solvable (problem_in file)) refuses NoAllocation

-- ---- dispatch (rule 13.2)

-- (rule 12.1) the reply: count and evaluations in 2 bytes each, cost, gap and surplus in 8 each, and behind these 28 bytes the outputs in 2 each
unfoldable pub reply_bytes : Reply → List ℕ
reply_bytes r =
    bytes 2 (length r.outputs) ++ bytes 2 r.evaluations ++ bytes 8 r.cost ++ bytes 8 r.gap ++ bytes 8 r.surplus
    ++ bytes_of_each 2 r.outputs

pub record DispatchResult : Type 0 where
  pub answer : Result ℕ Refusal
  pub reply : List ℕ

unfoldable pub dispatch_verdict : List ℕ → List ℕ → Verdict
dispatch_verdict file reply = ltb (length reply) 92 refuses BufferTooShort then case_verdict file

unfoldable pub dispatch_ends : Verdict → List ℕ → List ℕ → DispatchResult
dispatch_ends (Err r) file reply = record { answer = Err r; reply = reply }
dispatch_ends (Ok _) file reply =
    let out = reply_bytes (solve (problem_in file)) in
    record { answer = Ok (length out); reply = over out reply }

unfoldable pub dispatched : List ℕ → List ℕ → DispatchResult
dispatched file reply = dispatch_ends (dispatch_verdict file reply) file reply

-- ---- pricing (rule 13.3): step 1 is among its checks; it values m, and tells whether the choices of m cover

unfoldable pub price_verdict : List ℕ → ℕ → Verdict
price_verdict file m = ltb 65536 m refuses MultiplierOutOfRange then case_verdict file

unfoldable pub price_ends : Verdict → List ℕ → ℕ → Result Priced Refusal
price_ends (Err r) file m = Err r
price_ends (Ok _) file m =
    let q = problem_in file in
    Ok (record { dual = dual_value m q; covers = covers q.demand (total_net (units_of q) (choices m q)) })

unfoldable pub priced : List ℕ → ℕ → Result Priced Refusal
priced file m = price_ends (price_verdict file m) file m

-- ---- packing (rules 13.4, 13.7): a demand, rows and, in edition 2, a b1 for each of them become a file of edition e

pub record PackResult : Type 0 where
  pub answer : Result ℕ Refusal
  pub file : List ℕ

-- the length of `file_in` for some units: head, contents, bodies (`RoundTrip.length-file`)
abbrev pub file_length : ℕ → List Unit → ℕ
file_length e us = 8 + 4 * length us + bodies_length e us

-- by the lengths of the two lists: not one b1 for each row in edition 2, or any in edition 1; or no list of 1 to 32 rows
abbrev pub rows_invalid : ℕ → ℕ → ℕ → Bool
rows_invalid e l losses = not (eqb losses (in_second e (l / 19))) || eqb l 0 || not (eqb (l % 19) 0) || ltb 608 l

unfoldable pub pack_verdict : ℕ → ℕ → List ℕ → List ℤ → List ℕ → Verdict
pack_verdict e d rows b1 file =
    rows_invalid e (length rows) (length b1) refuses RowsInvalid
    then ltb 320000 d refuses DemandOutOfRange
    then in_order (map unit_verdict (units_of_rows rows b1))
    then ltb (length file) (file_length e (units_of_rows rows b1)) refuses FileBufferTooShort

unfoldable pub pack_ends : Verdict → ℕ → ℕ → List ℕ → List ℤ → List ℕ → PackResult
pack_ends (Err r) e d rows b1 file = record { answer = Err r; file = file }
pack_ends (Ok _) e d rows b1 file =
    let out = file_in e d (units_of_rows rows b1) in
    record { answer = Ok (length out); file = over out file }

unfoldable pub packed_in : ℕ → ℕ → List ℕ → List ℤ → List ℕ → PackResult
packed_in e d rows b1 file = pack_ends (pack_verdict e d rows b1 file) e d rows b1 file

abbrev pub packed : ℕ → List ℕ → List ℕ → PackResult
packed d rows file = packed_in 1 d rows [] file

abbrev pub packed2 : ℕ → List ℕ → List ℤ → List ℕ → PackResult
packed2 d rows b1 file = packed_in 2 d rows b1 file

-- ---- unpacking (rules 4.9, 13.5): a file of edition 1 becomes rows, a demand and a count

pub record UnpackResult : Type 0 where
  pub answer : Result Unpacked Refusal
  pub rows : List ℕ

unfoldable pub unpack_verdict : List ℕ → List ℕ → Verdict
unpack_verdict file rows = ltb (length rows) 608 refuses BufferTooShort then edition_verdict 1 file then file_verdict file

unfoldable pub unpack_ends : Verdict → List ℕ → List ℕ → UnpackResult
unpack_ends (Err r) file rows = record { answer = Err r; rows = rows }
unpack_ends (Ok _) file rows =
    let c = case_of file in
    record { answer = Ok (record { demand = c.demand; count = length c.units }); rows = over (rows_of_units c.units) rows }

unfoldable pub unpacked : List ℕ → List ℕ → UnpackResult
unpacked file rows = unpack_ends (unpack_verdict file rows) file rows

-- ---- the panel's calls, in C (rules 14.1 to 14.4), and the number and values of each answer: of dispatch and packing a length or a refusal's number; of pricing and unpacking 0 or a refusal's number, and two answers in a lent list, which has room for them or is refused with 1

abbrev pub number_of_dispatched : Result ℕ Refusal → ℕ
number_of_dispatched (Ok n) = n
number_of_dispatched (Err r) = number_of r

abbrev pub number_of_packed : Result ℕ Refusal → ℕ
number_of_packed (Ok n) = n
number_of_packed (Err r) = number_of r

abbrev pub number_of_priced : Result Priced Refusal → ℕ
number_of_priced (Ok p) = 0
number_of_priced (Err r) = number_of r

abbrev pub number_of_unpacked : Result Unpacked Refusal → ℕ
number_of_unpacked (Ok u) = 0
number_of_unpacked (Err r) = number_of r

-- the two answers in the start of a lent list
abbrev pub answers_of_priced : Result Priced Refusal → List ℤ → List ℤ
answers_of_priced (Ok p) answers = over (p.dual ∷ cond p.covers (pos 1) (pos 0) ∷ []) answers
answers_of_priced (Err r) answers = answers

abbrev pub answers_of_unpacked : Result Unpacked Refusal → List ℤ → List ℤ
answers_of_unpacked (Ok u) answers = over (pos u.demand ∷ pos u.count ∷ []) answers
answers_of_unpacked (Err r) answers = answers

pub record PanelDispatchResult : Type 0 where
  pub number : ℕ
  pub reply : List ℕ

unfoldable pub panel_dispatched : List ℕ → List ℕ → PanelDispatchResult
panel_dispatched file reply = let r = dispatched file reply in record { number = number_of_dispatched r.answer; reply = r.reply }

pub record PanelPackResult : Type 0 where
  pub number : ℕ
  pub file : List ℕ

abbrev pub told_packed : PackResult → PanelPackResult
told_packed r = record { number = number_of_packed r.answer; file = r.file }

unfoldable pub panel_packed : ℕ → List ℕ → List ℕ → PanelPackResult
panel_packed d rows file = told_packed (packed d rows file)

unfoldable pub panel_packed_2 : ℕ → List ℕ → List ℤ → List ℕ → PanelPackResult
panel_packed_2 d rows b1 file = told_packed (packed2 d rows b1 file)

-- (14 comes first in `price_verdict` too; here the list's own check stands between it and the head.)
pub record PanelPriceResult : Type 0 where
  pub number : ℕ
  pub answers : List ℤ

unfoldable pub panel_priced : List ℕ → ℕ → List ℤ → PanelPriceResult
panel_priced file m answers =
    let verdict = ltb 65536 m refuses MultiplierOutOfRange then ltb (length answers) 2 refuses BufferTooShort then price_verdict file m in
    let answer = price_ends verdict file m in
    record { number = number_of_priced answer; answers = answers_of_priced answer answers }

pub record PanelUnpackResult : Type 0 where
  pub number : ℕ
  pub rows : List ℕ
  pub answers : List ℤ

unfoldable pub panel_unpacked : List ℕ → List ℕ → List ℤ → PanelUnpackResult
panel_unpacked file rows answers =
    let verdict = ltb (length answers) 2 refuses BufferTooShort then unpack_verdict file rows in
    let result = unpack_ends verdict file rows in
    record {
      number = number_of_unpacked result.answer;
      rows = result.rows;
      answers = answers_of_unpacked result.answer answers;
    }
