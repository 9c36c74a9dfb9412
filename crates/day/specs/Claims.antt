-- Rules 21.6 to 21.8 of docs/SPECIFICATION.md: what holds of every day, as statements. (They are proved in proofs/Claims and proofs/Starts.)
use Rattle.std.specs.Prelude.{ℕ, suc, ◌+◌, ◌*◌, ◌≤◌, true, false, cond, ◌&&◌, List, [], ◌∷◌, ◌++◌, map, ◌↔◌, ◌≡◌, ltb, eqb, length, get_or, drop, Err, Ok}
use Rattle.rules.specs.Lists.{sum, Every}
use Rattle.rules.specs.Layout.{Case, case_of}
use Rattle.rules.specs.Refusal.{file_verdict}
use Rattle.rules.specs.Problem.{problem_of}
use Rattle.rules.specs.Bisection.{solvable, solve}
use Rattle.rules.specs.Demands.{demands_invalid}
use Rattle.rules.specs.Promise.{Permitted, Covering, ReplyPromise}
use Rattle.rules.specs.declared.Refusal.{Refusal}
use Rattle.day.specs.declared.History.{History}
use Rattle.day.specs.Day.{slot_case, slot_bytes, histories_of, one_slot, Slots, day_of, DayResult}

-- ---- the cases of the slots, one by one

abbrev pub cases_from : Case → List History → List ℕ → List Case
cases_from c hs [] = []
cases_from c hs (d ∷ ds) = slot_case c hs d ∷ cases_from c (one_slot c hs d).histories ds

abbrev pub slot_cases : Case → List ℕ → List Case
slot_cases c demands = cases_from c (histories_of c) demands

-- what a dispatch of a case costs, and the 18 bytes of it; of one that is refused with 11, nothing, and 11 with zeros
abbrev pub cost_of : Case → ℕ
cost_of x = cond (solvable (problem_of x)) (solve (problem_of x)).cost 0

abbrev pub bytes_of : Case → List ℕ
bytes_of x = let r = solve (problem_of x) in cond (solvable (problem_of x)) (slot_bytes 0 r.cost r.gap) (slot_bytes 11 0 0)

abbrev pub joined : List (List ℕ) → List ℕ
joined [] = []
joined (s ∷ rest) = s ++ joined rest

-- (rule 21.7) over every list of demands the total is the sum of what each slot's own dispatch costs, and the trace has the bytes of each
pub record SumOfSlots (c : Case) (demands : List ℕ) (s : Slots) : Type 0 where
  pub total : s.total ≡ sum (map cost_of (slot_cases c demands))
  pub trace : s.trace ≡ joined (map bytes_of (slot_cases c demands))

-- ---- (rule 21.7) each slot of an accepted file: what dispatch promises of a case holds of it, and 11 stands exactly where nothing covers

pub record SlotPromise (x : Case) : Type 0 where
  pub solved : solvable (problem_of x) ≡ true → ReplyPromise x (solve (problem_of x))
  pub refused : (solvable (problem_of x) ≡ false) ↔ ((ps : List ℕ) → Permitted x ps → Covering x ps → ⊥)

abbrev pub EachSlot : Type 0
EachSlot = (file demands : List ℕ) → file_verdict file ≡ Ok tt → Every SlotPromise (slot_cases (case_of file) demands)

-- ---- (rule 21.8) previous outputs: those of the last solved slot, or the case's own

abbrev pub last_outputs : List ℕ → List Case → List ℕ
last_outputs ps [] = ps
last_outputs ps (x ∷ xs) = last_outputs (cond (solvable (problem_of x)) (solve (problem_of x)).outputs ps) xs

abbrev pub previous_outputs : List History → List ℕ
previous_outputs hs = map (λ h. h.previous) hs

abbrev pub PreviousOfLastSolved : Type 0
PreviousOfLastSolved =
    (file demands : List ℕ) → file_verdict file ≡ Ok tt
    → let c = case_of file in
    previous_outputs (day_of c demands).histories ≡ last_outputs (map (λ u. u.previous) c.units) (slot_cases c demands)

-- ---- (rule 21.8) a demand more: the slots before it are as they were; and where it is refused, nothing changes but its 18 bytes

pub record OneMore (c : Case) (demands : List ℕ) (d : ℕ) : Type 0 where
  pub cases : slot_cases c (demands ++ (d ∷ [])) ≡ slot_cases c demands ++ (slot_case c (day_of c demands).histories d ∷ [])
  pub total : (day_of c (demands ++ (d ∷ []))).total ≡ (day_of c demands).total + cost_of (slot_case c (day_of c demands).histories d)
  pub trace : (day_of c (demands ++ (d ∷ []))).trace ≡ (day_of c demands).trace ++ bytes_of (slot_case c (day_of c demands).histories d)
  pub refused : solvable (problem_of (slot_case c (day_of c demands).histories d)) ≡ false → (day_of c (demands ++ (d ∷ []))).histories ≡ (day_of c demands).histories

-- ---- (rule 21.8) bounds

-- how many of some slots are solved
abbrev pub solved_of : List Case → ℕ
solved_of [] = 0
solved_of (x ∷ xs) = cond (solvable (problem_of x)) (suc (solved_of xs)) (solved_of xs)

pub record Bounded (c : Case) (demands : List ℕ) : Type 0 where
  pub total : (day_of c demands).total ≤ 617472000000000
  pub starts : Every (λ h. h.starts ≤ solved_of (slot_cases c demands)) (day_of c demands).histories
  pub previous : Every (λ h. h.previous ≤ 10000) (day_of c demands).histories

abbrev pub DayBounded : Type 0
DayBounded = (file demands : List ℕ) → file_verdict file ≡ Ok tt → demands_invalid demands ≡ false → Bounded (case_of file) demands

-- ---- (rule 21.8) starts: how often a unit goes from 0 to above 0, from its previous output in the case through the outputs of the solved slots

-- outputs of the solved slots, in their order
abbrev pub solved_outputs : List Case → List (List ℕ)
solved_outputs [] = []
solved_outputs (x ∷ xs) = cond (solvable (problem_of x)) ((solve (problem_of x)).outputs ∷ solved_outputs xs) (solved_outputs xs)

-- outputs one after the other, from p on
abbrev pub starts_from : ℕ → List ℕ → ℕ
starts_from p [] = 0
starts_from p (q ∷ qs) = cond (eqb p 0 && ltb 0 q) 1 0 + starts_from q qs

abbrev pub StartsCounted : Type 0
StartsCounted =
    (file demands : List ℕ) → file_verdict file ≡ Ok tt
    → let c = case_of file in
    (i : ℕ)
    → get_or (map (λ h. h.starts) (day_of c demands).histories) i 0 ≡ starts_from (get_or (map (λ u. u.previous) c.units) i 0) (map (λ ps. get_or ps i 0) (solved_outputs (slot_cases c demands)))

-- ---- (rule 21.8) where the demands are valid and there is room, it refuses exactly what the checks of the file refuse; and so never with 11

abbrev pub RefusesAsFile : (List ℕ → List ℕ → List ℕ → List History → DayResult) → Type 0
RefusesAsFile call =
    (file demands trace : List ℕ) (histories : List History) (r : Refusal)
    → demands_invalid demands ≡ false
    → 18 * length demands ≤ length trace
    → 32 ≤ length histories
    → ((call file demands trace histories).answer ≡ Err r) ↔ (file_verdict file ≡ Err r)

-- ---- (rule 21.6) histories behind the units' and bytes of the trace behind the slots' are not touched

pub record Untouched (file demands bytes : List ℕ) (records : List History) (r : DayResult) : Type 0 where
  pub trace : drop (18 * length demands) r.trace ≡ drop (18 * length demands) bytes
  pub histories : drop (length (case_of file).units) r.histories ≡ drop (length (case_of file).units) records
