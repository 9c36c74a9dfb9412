-- Rule 24.17 of docs/SPECIFICATION.md: searches within a budget, case by case, from the file's bytes to the reply's. Above each row stands the wrong rule that it shows. Each lent byte is 255, so that what is untouched shows.
use Rattle.rules.specs.declared.Refusal.{Refusal}
use Rattle.std.specs.Prelude.{ℕ, ◌+◌, ◌*◌, List, [], ◌∷◌, ◌++◌, refl, pos, length, replicate, Ok, Err, Result}
use Rattle.rules.specs.Lists.{over}
use Rattle.rules.specs.Unit.{Unit}
use Rattle.rules.specs.Layout.{file_of}
use Rattle.rules.specs.Refusal.{number_of}
use Rattle.rules.specs.TableRows.{Row, Holds}
use Rattle.rules.specs.Cases as cases
use Rattle.rules.specs.CaseFiles.{u5, short_head, other_edition, no_unit, demand_above, byte_too_many, no_zone, linear_cost_above, edge_at_least, other_mark, put, with_linear_loss, U, marked, zoned, costing, shared_edge, shared_edge_file}
use Rattle.branching.specs.Branching.{visit, search}
use Rattle.branching.specs.Nodes.{offer_within, divided, reply_of_search, refined_reply}
use Rattle.branching.specs.Refining.{refined_bytes, refine_verdict, refine_ends, refined, panel_refined}

pub data Call : Type 0 where
  -- the file, the budget, and how many bytes are lent
  refine : List ℕ → ℕ → ℕ → Call
  -- as C sees it
  panel_refine : List ℕ → ℕ → ℕ → Call

pub data Answer : Type 0 where
  -- the length, and all lent bytes
  writes : ℕ → List ℕ → Answer
  -- the refusal's number, and the same
  refuses : ℕ → List ℕ → Answer
  -- the number that C gets, and the same
  returns : ℕ → List ℕ → Answer

abbrev pub lent : ℕ → List ℕ
lent room = replicate room 255

abbrev pub of_refined : Result ℕ Refusal → List ℕ → Answer
of_refined (Ok n) reply = writes n reply
of_refined (Err r) reply = refuses (number_of r) reply

-- what the rules give
unfoldable pub answer : Call → Answer
unfolding cases.answer visit search offer_within divided reply_of_search refined_reply refined_bytes refine_verdict refine_ends refined panel_refined
answer (refine file budget room) = let r = refined file budget (lent room) in of_refined r.answer r.reply
answer (panel_refine file budget room) = let r = panel_refined file budget (lent room) in returns r.number r.reply

-- ---- rows: a file and a budget; nodes, cost, gap, surplus, outputs

abbrev pub replies : List ℕ → ℕ → ℕ → ℕ → ℕ → ℕ → List ℕ → Row Call Answer
replies file budget nodes cost gap surplus ps =
    record {
      call = refine file budget 94;
      result = writes (30 + 2 * length ps) (over (refined_bytes (record { nodes = nodes; cost = cost; gap = gap; surplus = surplus; outputs = ps })) (lent 94));
    }

-- refused, with everything as it was
abbrev pub refused : List ℕ → ℕ → ℕ → ℕ → Row Call Answer
refused file budget room number = record { call = refine file budget room; result = refuses number (lent room) }

-- U with a constant cost of 6,000; U that must run; U with a zone that has nothing inside; U that ran at 9 and may go one step up or down
abbrev pub C : Unit
C = costing 6000 10000 1000 0

abbrev pub M : Unit
M = marked 1 0 0 0

abbrev pub A : Unit
A = zoned 4 5

abbrev pub R : Unit
R = marked 0 9 1 1

-- must run from 2 to 10 without a zone, at 20,000 and 10,000 a step
abbrev pub Q : Unit
Q =
    record {
      c0 = 20000;
      c1 = 10000;
      c2 = 0;
      b = 0;
      b1 = pos 0;
      least = 2;
      greatest = 10;
      previous = 0;
      up = 0;
      down = 0;
      mark = 1;
      zone_count = 0;
      edges = replicate 8 0;
    }

unfoldable pub searches : List (Row Call Answer)
searches =
    -- a child that is not evaluated left out of the gap, or with a floor of 0; a node over the budget
    replies (file_of 5 (U ∷ [])) 1 1 119000 42000 200000000 (7 ∷ [])
    -- the highest region first; a node without an allocation not counted; 0 and the running outputs in one region
    ∷ replies (file_of 5 (U ∷ [])) 3 3 119000 42000 200000000 (7 ∷ [])
    -- a node for each region at once
    ∷ replies (file_of 5 (U ∷ [])) 4 4 119000 42000 200000000 (7 ∷ [])
    -- a node without an allocation kept in the gap with its parent's floor; the gap of the root, or of the best node
    ∷ replies (file_of 5 (U ∷ [])) 5 5 119000 0 200000000 (7 ∷ [])
    -- the budget told for the nodes
    ∷ replies (file_of 5 (U ∷ [])) 100 5 119000 0 200000000 (7 ∷ [])
    -- the budget in 16 bits
    ∷ replies (file_of 5 (U ∷ [])) 65536 5 119000 0 200000000 (7 ∷ [])
    -- split although the floor reaches the best cost
    ∷ replies (file_of 1 (U ∷ [])) 4 3 24000 0 100000000 (2 ∷ [])
    -- the root split although its floor reaches its own cost
    ∷ replies (file_of 3 (U ∷ [])) 2 1 39000 0 0 (3 ∷ [])
    -- the rest first
    ∷ replies (file_of 1 (C ∷ [])) 2 2 45000 30000 200000000 (3 ∷ [])
    -- both children evaluated at the split; breadth first
    ∷ replies (file_of 9 (U ∷ U ∷ [])) 5 5 171000 38000 0 (0 ∷ 9 ∷ [])
    -- the last unit with several regions first
    ∷ replies (file_of 9 (U ∷ U ∷ [])) 2 2 171000 38000 0 (0 ∷ 9 ∷ [])
    -- an equal cost replaces
    ∷ replies (file_of 3 (U ∷ U ∷ [])) 5 5 39000 3000 0 (0 ∷ 3 ∷ [])
    -- the gap to the greatest floor
    ∷ replies (file_of 3 (U ∷ U ∷ [])) 2 2 39000 3000 0 (0 ∷ 3 ∷ [])
    -- the unit with the most regions first
    ∷ replies (file_of 12 (U ∷ U ∷ [])) 4 4 200000 4000 0 (4 ∷ 8 ∷ [])
    -- ties not lowered at the root
    ∷ replies (file_of 9 (U ∷ U ∷ [])) 1 1 175000 42000 200000000 (4 ∷ 7 ∷ [])
    -- a node held against the best cost before its own
    ∷ replies (file_of 9 (U ∷ U ∷ [])) 9 9 143000 0 0 (2 ∷ 7 ∷ [])
    -- a child not evaluated where its parent's floor reaches the best cost
    ∷ replies (file_of 3 (U ∷ C ∷ [])) 6 6 39000 0 0 (3 ∷ 0 ∷ [])
    -- neighbouring regions joined where a zone has nothing inside
    ∷ replies (file_of 10 (A ∷ M ∷ [])) 4 4 175000 23000 100000000 (4 ∷ 7 ∷ [])
    -- a region kept that the ramp window empties
    ∷ replies (file_of 9 (R ∷ U ∷ [])) 5 5 168000 0 100000000 (8 ∷ 2 ∷ [])
    -- ties not lowered below the root
    ∷ replies (file_of 14 (U ∷ U ∷ U ∷ [])) 13 13 214000 0 0 (3 ∷ 4 ∷ 7 ∷ [])
    -- a node without an allocation kept in the gap with a floor of its own
    ∷ replies (file_of 15 (costing 500000000 10000 1000 0 ∷ costing 1000000000 10000 1000 0 ∷ [])) 20 7 1500263000 0 0 (7 ∷ 8 ∷ [])
    -- a search that ends told to have no gap; edition 2 refused, or its b1 left out
    ∷ replies (put 7 (0x07 ∷ []) (with_linear_loss 0x00 0x98 0x96 0x80)) 100 5 144000 5600 20000000 (8 ∷ [])
    -- a node that is evaluated left out of the gap
    ∷ replies (file_of 3 (Q ∷ [])) 1 1 120000 70000 700000000 (10 ∷ [])
    -- split as long as the floor is below the node's own cost
    ∷ replies (file_of 9 (C ∷ Q ∷ [])) 4 3 120000 10000 100000000 (0 ∷ 10 ∷ [])
    -- a child that is not evaluated with the root's floor
    ∷ replies (file_of 11 (U ∷ Q ∷ [])) 3 3 144000 10000 100000000 (2 ∷ 10 ∷ [])
    -- zones that share an edge, 4 to 7 and 7 to 9: the edge left out
    ∷ replies (file_of 5 (shared_edge ∷ [])) 1 1 119000 42000 200000000 (7 ∷ [])
    -- split into halves
    ∷ replies (file_of 5 (shared_edge ∷ [])) 4 4 119000 42000 200000000 (7 ∷ [])
    -- the edge joined to the outputs below it
    ∷ replies (file_of 5 (shared_edge ∷ [])) 5 5 119000 0 200000000 (7 ∷ [])
    ∷ replies (file_of 9 (shared_edge ∷ shared_edge ∷ [])) 9 9 143000 0 0 (2 ∷ 7 ∷ [])
    -- or to those above it
    ∷ replies (shared_edge_file 8) 7 7 171000 0 100000000 (9 ∷ [])
    ∷ []

unfoldable pub refusals : List (Row Call Answer)
refusals =
    -- 93 bytes accepted, or as many as the case's reply takes
    refused u5 1 93 1
    ∷ refused u5 1 32 1
    -- a budget of 0 accepted
    ∷ refused u5 0 94 25
    -- 100,001
    ∷ refused u5 100001 94 25
    -- 25 before 1
    ∷ refused u5 0 93 1
    ∷ refused u5 100001 93 1
    -- 2 before 1
    ∷ refused short_head 1 93 1
    -- 2 before 25
    ∷ refused short_head 0 94 25
    ∷ refused short_head 100001 94 25
    -- 11 before 25
    ∷ refused (put 7 (0x0B ∷ []) u5) 0 94 25
    -- each check of the case left out
    ∷ refused short_head 1 94 2
    ∷ refused other_edition 1 94 3
    ∷ refused no_unit 1 94 4
    ∷ refused demand_above 1 94 5
    ∷ refused byte_too_many 1 94 6
    ∷ refused no_zone 1 94 7
    ∷ refused linear_cost_above 1 94 8
    ∷ refused (with_linear_loss 0x00 0x98 0x96 0x81) 1 94 18
    ∷ refused edge_at_least 1 94 9
    ∷ refused other_mark 1 94 10
    -- the root not asked for an allocation
    ∷ refused (put 7 (0x0B ∷ []) u5) 100 94 11
    ∷ []

-- the reply to U, d 5, byte by byte: units 1 nodes 5 cost 119000 gap 0 surplus 200000000, output 7
abbrev pub ended : List ℕ
ended =
    0x00 ∷ 0x01 ∷ 0x00 ∷ 0x00 ∷ 0x00 ∷ 0x05 ∷ 0x00 ∷ 0x00 ∷ 0x00 ∷ 0x00 ∷ 0x00 ∷ 0x01 ∷ 0xD0 ∷ 0xD8 ∷ 0x00 ∷ 0x00 ∷ 0x00 ∷ 0x00
    ∷ 0x00 ∷ 0x00 ∷ 0x00 ∷ 0x00 ∷ 0x00 ∷ 0x00 ∷ 0x00 ∷ 0x00 ∷ 0x0B ∷ 0xEB ∷ 0xC2 ∷ 0x00 ∷ 0x00 ∷ 0x07 ∷ []

-- and after 2 nodes: gap 42000
abbrev pub unended : List ℕ
unended =
    0x00 ∷ 0x01 ∷ 0x00 ∷ 0x00 ∷ 0x00 ∷ 0x02 ∷ 0x00 ∷ 0x00 ∷ 0x00 ∷ 0x00 ∷ 0x00 ∷ 0x01 ∷ 0xD0 ∷ 0xD8 ∷ 0x00 ∷ 0x00 ∷ 0x00 ∷ 0x00
    ∷ 0x00 ∷ 0x00 ∷ 0xA4 ∷ 0x10 ∷ 0x00 ∷ 0x00 ∷ 0x00 ∷ 0x00 ∷ 0x0B ∷ 0xEB ∷ 0xC2 ∷ 0x00 ∷ 0x00 ∷ 0x07 ∷ []

unfoldable pub spellings : List (Row Call Answer)
spellings =
    -- nodes in 16 bits; outputs from byte 28; cost and gap swapped; low byte first; a budget of 100,000 refused
    record { call = refine u5 100000 94; result = writes 32 (ended ++ lent 62) }
    -- bytes behind the reply changed, in a longer buffer
    ∷ record { call = refine u5 2 97; result = writes 32 (unended ++ lent 65) }
    -- in C: 0 returned, or the nodes
    ∷ record { call = panel_refine u5 2 94; result = returns 32 (unended ++ lent 62) }
    -- another number, or bytes written at a refusal
    ∷ record { call = panel_refine u5 2 93; result = returns 1 (lent 93) }
    ∷ record { call = panel_refine u5 0 94; result = returns 25 (lent 94) }
    ∷ record { call = panel_refine short_head 2 94; result = returns 2 (lent 94) }
    ∷ record { call = panel_refine (put 7 (0x0B ∷ []) u5) 2 94; result = returns 11 (lent 94) }
    ∷ []

pub searches_hold : Holds answer searches
unfolding answer searches
searches_hold = refl

pub refusals_hold : Holds answer refusals
unfolding answer refusals
refusals_hold = refl

pub spellings_hold : Holds answer spellings
unfolding answer spellings
spellings_hold = refl
