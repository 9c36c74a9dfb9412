-- Section 21 of docs/SPECIFICATION.md: a day, slot by slot. What the call answers and leaves in the trace and in the histories, on every input.
use Rattle.std.specs.Prelude.{ℕ, ◌+◌, ◌*◌, cond, ◌||◌, ◌&&◌, List, [], ◌∷◌, ◌++◌, map, ltb, eqb, ℤ, pos, length, Result, Ok, Err}
use Rattle.fields.specs.Field.{bytes}
use Rattle.rules.specs.Lists.{over}
use Rattle.rules.specs.Unit.{Unit, with_previous}
use Rattle.rules.specs.Layout.{Case, case_of}
use Rattle.rules.specs.Refusal.{number_of, ◌refuses◌, ◌then◌, file_verdict}
use Rattle.rules.specs.Problem.{problem_of}
use Rattle.rules.specs.Bisection.{Reply, solvable, solve}
use Rattle.rules.specs.Demands.{demands_invalid}
use Rattle.rules.specs.declared.Refusal.{Refusal}
use Rattle.rules.specs.declared.Refusal.TheVariants.{BufferTooShort, NoAllocation, DayDemandsInvalid, DayBuffersTooShort}
use Rattle.rules.specs.Refusal.{Verdict}
use Rattle.day.specs.declared.History.{History}

-- ---- a slot is a case (rule 21.2): the file's units, each with the previous output of its history, and the slot's demand

abbrev pub each_with_previous : List Unit → List History → List Unit
each_with_previous [] hs = []
each_with_previous (u ∷ us) [] = []
each_with_previous (u ∷ us) (h ∷ hs) = with_previous u h.previous ∷ each_with_previous us hs

unfoldable pub slot_case : Case → List History → ℕ → Case
slot_case c hs d = record { demand = d; units = each_with_previous c.units hs }

-- ---- histories (rule 21.3): a start is a solved slot that goes from 0 to above 0

abbrev pub history_after : History → ℕ → History
history_after h p = record { previous = p; starts = cond (eqb h.previous 0 && ltb 0 p) (h.starts + 1) h.starts }

abbrev pub histories_after : List History → List ℕ → List History
histories_after [] ps = []
histories_after (h ∷ hs) [] = []
histories_after (h ∷ hs) (p ∷ ps) = history_after h p ∷ histories_after hs ps

-- before any slot: the case's previous outputs, and no start
abbrev pub histories_of : Case → List History
histories_of c = map (λ u. record { previous = u.previous; starts = 0 }) c.units

-- ---- the slots (rules 21.4, 21.5): what they cost together, their bytes one behind the other, and the histories after them

pub record Slots : Type 0 where
  pub total : ℕ
  pub trace : List ℕ
  pub histories : List History

-- 18 bytes to a slot: 0 or 11, cost and gap
abbrev pub slot_bytes : ℕ → ℕ → ℕ → List ℕ
slot_bytes status cost gap = bytes 2 status ++ bytes 8 cost ++ bytes 8 gap

abbrev pub solved_slot : List History → Reply → Slots
solved_slot hs r = record { total = r.cost; trace = slot_bytes 0 r.cost r.gap; histories = histories_after hs r.outputs }

-- a slot that is refused costs nothing and leaves the histories alone
abbrev pub refused_slot : List History → Slots
refused_slot hs = record { total = 0; trace = slot_bytes (number_of NoAllocation) 0 0; histories = hs }

-- one slot of demand d
unfoldable pub one_slot : Case → List History → ℕ → Slots
one_slot c hs d = let q = problem_of (slot_case c hs d) in cond (solvable q) (solved_slot hs (solve q)) (refused_slot hs)

-- one slot more behind those of s
unfoldable pub slots_more : Case → Slots → ℕ → Slots
slots_more c s d = let t = one_slot c s.histories d in record { total = s.total + t.total; trace = s.trace ++ t.trace; histories = t.histories }

abbrev pub slots_from : Case → Slots → List ℕ → Slots
slots_from c s [] = s
slots_from c s (d ∷ ds) = slots_from c (slots_more c s d) ds

abbrev pub no_slot : List History → Slots
no_slot hs = record { total = 0; trace = []; histories = hs }

unfoldable pub day_of : Case → List ℕ → Slots
day_of c demands = slots_from c (no_slot (histories_of c)) demands

-- ---- the call (rules 21.1, 21.6): 22, 23, then the checks of the file; 11 is a slot's, never the call's

-- (of a file, the demands, and how many bytes of trace and how many histories are lent)
unfoldable pub day_verdict : List ℕ → List ℕ → ℕ → ℕ → Verdict
day_verdict file demands room records =
    demands_invalid demands refuses DayDemandsInvalid
    then (ltb room (18 * length demands) || ltb records 32) refuses DayBuffersTooShort
    then file_verdict file

pub record DayResult : Type 0 where
  pub answer : Result ℕ Refusal
  pub trace : List ℕ
  pub histories : List History

unfoldable pub day_ends : Verdict → List ℕ → List ℕ → List ℕ → List History → DayResult
day_ends (Err r) file demands trace histories = record { answer = Err r; trace = trace; histories = histories }
day_ends (Ok _) file demands trace histories =
    let s = day_of (case_of file) demands in
    record { answer = Ok s.total; trace = over s.trace trace; histories = over s.histories histories }

unfoldable pub scheduled : List ℕ → List ℕ → List ℕ → List History → DayResult
scheduled file demands trace histories = day_ends (day_verdict file demands (length trace) (length histories)) file demands trace histories

-- ---- the call in C (rule 21.9): number and value of each answer. 0 or a refusal's number, and the total in a lent list, which has room for it or is refused with 1

abbrev pub number_of_scheduled : Result ℕ Refusal → ℕ
number_of_scheduled (Ok t) = 0
number_of_scheduled (Err r) = number_of r

abbrev pub answers_of_scheduled : Result ℕ Refusal → List ℤ → List ℤ
answers_of_scheduled (Ok t) answers = over (pos t ∷ []) answers
answers_of_scheduled (Err r) answers = answers

pub record PanelDayResult : Type 0 where
  pub number : ℕ
  pub trace : List ℕ
  pub histories : List History
  pub answers : List ℤ

unfoldable pub panel_scheduled : List ℕ → List ℕ → List ℕ → List History → List ℤ → PanelDayResult
panel_scheduled file demands trace histories answers =
    let verdict = ltb (length answers) 1 refuses BufferTooShort then day_verdict file demands (length trace) (length histories) in
    let result = day_ends verdict file demands trace histories in
    record {
      number = number_of_scheduled result.answer;
      trace = result.trace;
      histories = result.histories;
      answers = answers_of_scheduled result.answer answers;
    }
