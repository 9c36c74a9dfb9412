-- Rules 16.19 to 16.21 of docs/SPECIFICATION.md (S-12): two accepted files of the same units at two demands, and their dispatches and pricings. (Proved in proofs/Loads.)
use Rattle.rules.specs.declared.Refusal.{Refusal}
use Rattle.std.specs.Prelude.{ℕ, ◌+◌, ◌*◌, ◌≤◌, Bool, true, List, ◌≡◌, ℤ, length, take, drop, ◌≤ℤ◌, Ok, Result}
use Rattle.rules.specs.Layout.{demand, count, case_of}
use Rattle.rules.specs.Refusal.{file_verdict}
use Rattle.rules.specs.Calls.{DispatchResult}
use Rattle.rules.specs.Promise.{reply_in, cost_less_gap}
use Rattle.rules.specs.declared.Priced.{Priced}

-- ---- (rule 16.19) cases that differ only in demand

-- two accepted files of the same units, whichever bytes spell these, the lower demand first
pub record TwoDemands (lower higher : List ℕ) : Type 0 where
  pub accepted : file_verdict lower ≡ Ok tt
  pub accepted' : file_verdict higher ≡ Ok tt
  pub units : (case_of lower).units ≡ (case_of higher).units
  pub demands : demand lower ≤ demand higher

-- the same bytes but for the demand field, bytes 4 to 7
pub record SameButDemand (lower higher : List ℕ) : Type 0 where
  pub before : take 4 lower ≡ take 4 higher
  pub behind : drop 8 lower ≡ drop 8 higher

-- they have the same units
abbrev pub SameBytesSameUnits : Type 0
SameBytesSameUnits = (lower higher : List ℕ) → file_verdict lower ≡ Ok tt → SameButDemand lower higher → (case_of lower).units ≡ (case_of higher).units

-- ---- (rule 16.20) dispatch

-- the lower demand of n units is solved, and neither its cost nor its greatest floor is above the higher one's
pub record NoDearer (n : ℕ) (lower higher : DispatchResult) : Type 0 where
  pub solved : lower.answer ≡ Ok (28 + 2 * n)
  pub cost : (reply_in lower.reply).cost ≤ (reply_in higher.reply).cost
  pub floor : cost_less_gap (reply_in lower.reply) ≤ℤ cost_less_gap (reply_in higher.reply)

-- whichever buffers of 92 bytes or more the two are given: where the higher demand is solved
abbrev pub MoreLoadNeverCheaper : (List ℕ → List ℕ → DispatchResult) → Type 0
MoreLoadNeverCheaper dispatch =
    (lower higher buffer other : List ℕ) (n : ℕ)
    → TwoDemands lower higher
    → 92 ≤ length buffer
    → (dispatch higher other).answer ≡ Ok n
    → NoDearer (count lower) (dispatch lower buffer) (dispatch higher other)

-- ---- (rule 16.21) pricing at one multiplier

-- the lower demand has a dual value, no greater than z; and where the higher one's choices cover, so do its own
pub record NoGreaterDual (lower : Result Priced Refusal) (z : ℤ) (covered : Bool) : Type 0 where
  pub dual : ℤ
  pub covers : Bool
  pub valued : lower ≡ Ok (record { dual = dual; covers = covers })
  pub least : dual ≤ℤ z
  pub covering : covered ≡ true → covers ≡ true

abbrev pub MoreLoadNoLowerDual : (List ℕ → ℕ → Result Priced Refusal) → Type 0
MoreLoadNoLowerDual price =
    (lower higher : List ℕ) (m : ℕ) (z : ℤ) (covered : Bool)
    → TwoDemands lower higher
    → price higher m ≡ Ok (record { dual = z; covers = covered })
    → NoGreaterDual (price lower m) z covered
