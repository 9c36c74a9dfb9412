-- The example cases: what a call is, and what it answers under the rules. The files, rows and units that the tables (`Table`, `TableOfRefusals`, `TableOfEditions`, and those of crate `tables`) put to the calls are in `CaseFiles`.
use Rattle.rules.specs.declared.Refusal.{Refusal}
use Rattle.std.specs.Prelude.{ℕ, ◌+◌, ◌*◌, Bool, List, [], ◌∷◌, ℤ, length, replicate, Ok, Err, Result}
use Rattle.fields.specs.Field.{number_after, signed, unsigned, bytes, bytes_of_each}
use Rattle.rules.specs.Lists.{over}
use Rattle.rules.specs.Numbers.{total, divided_up, greatest_at, natural}
use Rattle.rules.specs.Unit.{Unit, with_loss, zones, permitted, cost, linear_factor, net}
use Rattle.rules.specs.Layout.{edge_of_body, unit_of_body, body_of_unit, case_of, contents_from, bodies_of, file_in, unit_of_row, row_of_unit, units_of_rows, rows_of_units}
use Rattle.rules.specs.Refusal.{edition_verdict, head_verdict, contents_verdict, zones_ascend, unit_verdict, body_verdict, file_verdict, number_of, number_of_verdict}
use Rattle.rules.specs.Regions.{Region, intervals, regions}
use Rattle.rules.specs.Problem.{allocation, total_cost, total_net, Offer, offer, problem_of}
use Rattle.rules.specs.Choice.{priced_cost, preferred_from, preferred, choices, lowered, selected, dual_value, floor}
use Rattle.rules.specs.Bisection.{Found, Reply, step4, step3, search, greatest_outputs, solvable, found, reply_of, solve}
use Rattle.rules.specs.Calls.{reply_bytes, case_verdict, dispatch_verdict, dispatch_ends, dispatched, price_verdict, price_ends, priced, pack_verdict, pack_ends, packed_in, packed, packed2, unpack_verdict, unpack_ends, unpacked, panel_dispatched, panel_priced, panel_packed, panel_packed_2, panel_unpacked}
use Rattle.rules.specs.declared.Priced.{Priced}
use Rattle.rules.specs.declared.Unpacked.{Unpacked}

-- ---- a call, and what it answers. A lent buffer has 92 bytes, 255 in each, where the call does not name one, so that an untouched byte shows; a refusal is its number.

pub data Call : Type 0 where
  dispatch : List ℕ → Call
  price : List ℕ → ℕ → Call
  pack : ℕ → List ℕ → Call
  check : List ℕ → Call
  -- the lent buffer comes last
  dispatch_into : List ℕ → List ℕ → Call
  pack_into : ℕ → List ℕ → List ℕ → Call
  pack_2_into : ℕ → List ℕ → List ℤ → List ℕ → Call
  unpack_into : List ℕ → List ℕ → Call
  -- the calls as C sees them
  panel_dispatch : List ℕ → List ℕ → Call
  panel_price : List ℕ → ℕ → List ℤ → Call
  panel_pack : ℕ → List ℕ → List ℕ → Call
  panel_pack_2 : ℕ → List ℕ → List ℤ → List ℕ → Call
  panel_unpack : List ℕ → List ℕ → List ℤ → Call
  -- parts of the rules by themselves: whether outputs are an allocation of units
  allocate : List Unit → List ℕ → Call
  -- steps 2 to 4 for a target, where the choices of m are m itself with a net of 2 × m, and the first best is 70,000
  search_for : ℕ → Call
  -- the reply to a demand and offers
  solve_offers : ℕ → List Offer → Call
  -- the regions of a unit
  divide : Unit → Call

pub data Answer : Type 0 where
  writes : ℕ → List ℕ → Answer
  refuses : ℕ → List ℕ → Answer
  values : ℤ → Bool → Answer
  checks : ℕ → Answer
  -- demand, count, and the lent rows
  reads : ℕ → ℕ → List ℕ → Answer
  -- the number that C gets, the lent bytes or rows, and the lent answers ([]: there are none)
  returns : ℕ → List ℕ → List ℤ → Answer
  allocates : Bool → Answer
  -- the best, and the multipliers evaluated, the last one first
  finds : ℕ → List ℕ → Answer
  -- outputs, cost, gap, evaluations, surplus
  solves : List ℕ → ℕ → ℕ → ℕ → ℕ → Answer
  -- the ends of each region
  divides : List ℕ → Answer

abbrev pub buffer : List ℕ
buffer = replicate 92 255

abbrev pub of_dispatch : Result ℕ Refusal → List ℕ → Answer
of_dispatch (Ok n) reply = writes n reply
of_dispatch (Err r) reply = refuses (number_of r) reply

abbrev pub of_packing : Result ℕ Refusal → List ℕ → Answer
of_packing (Ok n) file = writes n file
of_packing (Err r) file = refuses (number_of r) file

abbrev pub of_pricing : Result Priced Refusal → Answer
of_pricing (Ok p) = values p.dual p.covers
of_pricing (Err r) = refuses (number_of r) []

abbrev pub of_unpacking : Result Unpacked Refusal → List ℕ → Answer
of_unpacking (Ok u) rows = reads u.demand u.count rows
of_unpacking (Err r) rows = refuses (number_of r) rows

abbrev pub of_search : Found ℕ → Answer
of_search f = finds f.best f.evaluated

abbrev pub of_solution : Reply → Answer
of_solution r = solves r.outputs r.cost r.gap r.evaluations r.surplus

abbrev pub ends_of : List Region → List ℕ
ends_of [] = []
ends_of (r ∷ rs) = r.low ∷ r.high ∷ ends_of rs

-- what the rules give. Its line names every definition of the rules that an answer needs: to unfold `answer` is to unfold them all, and so a closed case computes, also in the tables of other crates.
unfoldable pub answer : Call → Answer
unfolding number_after signed unsigned bytes bytes_of_each zones edge_of_body unit_of_body body_of_unit case_of contents_from bodies_of file_in edition_verdict head_verdict contents_verdict zones_ascend unit_verdict body_verdict file_verdict permitted cost linear_factor net total_cost total_net offer problem_of priced_cost preferred_from preferred total choices lowered selected dual_value divided_up floor greatest_at step4 step3 search greatest_outputs solvable found natural reply_of solve reply_bytes case_verdict dispatch_verdict dispatch_ends dispatched price_verdict price_ends priced unit_of_row with_loss units_of_rows pack_verdict pack_ends packed_in row_of_unit rows_of_units unpack_verdict unpack_ends unpacked panel_dispatched panel_priced panel_packed panel_packed_2 panel_unpacked allocation intervals regions
answer (dispatch file) = let r = dispatched file buffer in of_dispatch r.answer r.reply
answer (price file m) = of_pricing (priced file m)
answer (pack d rows) = let r = packed d rows buffer in of_packing r.answer r.file
answer (check file) = checks (number_of_verdict (file_verdict file))
answer (dispatch_into file reply) = let r = dispatched file reply in of_dispatch r.answer r.reply
answer (pack_into d rows file) = let r = packed d rows file in of_packing r.answer r.file
answer (pack_2_into d rows b1 file) = let r = packed2 d rows b1 file in of_packing r.answer r.file
answer (unpack_into file rows) = let r = unpacked file rows in of_unpacking r.answer r.rows
answer (panel_dispatch file reply) = let r = panel_dispatched file reply in returns r.number r.reply []
answer (panel_price file m answers) = let r = panel_priced file m answers in returns r.number [] r.answers
answer (panel_pack d rows file) = let r = panel_packed d rows file in returns r.number r.file []
answer (panel_pack_2 d rows b1 file) = let r = panel_packed_2 d rows b1 file in returns r.number r.file []
answer (panel_unpack file rows answers) = let r = panel_unpacked file rows answers in returns r.number r.rows r.answers
answer (allocate us ps) = allocates (allocation us ps)
answer (search_for target) = of_search (search (λ m. m) (λ x. 2 * x) target 70000)
answer (solve_offers d offers) = of_solution (solve (record { demand = d; offers = offers }))
answer (divide u) = divides (ends_of (regions u))

-- outputs, cost, gap, evaluations, surplus, as the reply's bytes
abbrev pub reply : List ℕ → ℕ → ℕ → ℕ → ℕ → Answer
reply ps c g e s =
    writes (28 + 2 * length ps) (over (reply_bytes (record { evaluations = e; cost = c; gap = g; surplus = s; outputs = ps })) buffer)
