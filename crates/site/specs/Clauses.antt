-- What each function requires and leaves while a site is written: a unit in its places of the arrays, and the other units kept; and what decoding a file gives.
use Rattle.std.specs.Prelude.{ℕ, ◌+◌, ◌*◌, ◌≤◌, ◌<◌, ◌≡◌, Bool, true, false, List, [], length, get_or, Ok, Err}
use Rattle.rules.specs.Unit.{Unit, with_previous}
use Rattle.rules.specs.Layout.{edition, count, unit_at}
use Rattle.rules.specs.Refusal.{Verdict, head_verdict, contents_verdict, file_verdict}
use Rattle.rules.specs.Regions.{regions}
use Rattle.rules.specs.Problem.{Problem, offer, target, problem_in}
use Rattle.rules.specs.Bisection.{solvable}
use Rattle.rules.specs.Calls.{case_verdict}
use Rattle.rules.specs.Sound.{Sound}
use Rattle.regions.specs.Clauses.{KeptOutside}
use Rattle.site.specs.Site.{first, last, Coefficients, HoldsUnit, regions_at, HoldsProblem, no_offer}

-- ---- one unit

-- u may be written as unit i
pub record UnitWritable (u : Unit) (i : ℕ) : Type 0 where
  pub sound : Sound u
  pub place : i < 32

pub record CoefficientsWritten (u : Unit) (i : ℕ) (before after : List ℕ) : Type 0 where
  pub holds : Coefficients after i u
  pub kept : KeptOutside (5 * i) (5 * i + 5) before after

pub record RangeWritten (i first' last' : ℕ) (before after : List ℕ) : Type 0 where
  pub first : first after i ≡ first'
  pub last : last after i ≡ last'
  pub kept : KeptOutside (2 * i) (2 * i + 2) before after

-- The arrays with u as unit i, if u has a permitted output, and the other units as before.
pub record UnitWritten (u : Unit) (i : ℕ) (coefficients ends ranges coefficients' ends' ranges' : List ℕ) (some : Bool) : Type 0 where
  pub holds : some ≡ true → HoldsUnit coefficients' ends' ranges' i u
  pub none : some ≡ false → (offer u).outputs ≡ []
  pub others : (j : ℕ) → (j ≡ i → ⊥) → (v : Unit) → HoldsUnit coefficients ends ranges j v → HoldsUnit coefficients' ends' ranges' j v

-- ---- the bodies

-- a file of edition e and n units whose head and contents are accepted
pub record BodiesNamed (file : List ℕ) (e n : ℕ) : Type 0 where
  pub edition : e ≡ edition file
  pub head : head_verdict file ≡ Ok tt
  pub contents : contents_verdict file ≡ Ok tt
  pub units : n ≡ count file

-- ---- units decoded, whichever they are

-- q offers the first n of these units, each with all its permitted outputs
pub record Offering (unit : ℕ → Unit) (n : ℕ) (q : Problem) : Type 0 where
  pub count : length q.offers ≡ n
  pub at : (j : ℕ) → j < n → get_or q.offers j no_offer ≡ offer (unit j)

-- every problem that offers these units is held; or, where one of them has no permitted output, none has a solution
pub record UnitsDecoded (unit : ℕ → Unit) (n : ℕ) (coefficients ends ranges : List ℕ) (some : Bool) : Type 0 where
  pub holds : some ≡ true → (q : Problem) → Offering unit n q → q.demand ≤ 320000 → HoldsProblem coefficients ends ranges n q
  pub none : some ≡ false → (q : Problem) → Offering unit n q → solvable q ≡ false

-- the units of a file with other previous outputs
abbrev pub unit_with : List ℕ → List ℕ → ℕ → Unit
unit_with file previous i = with_previous (unit_at file i) (get_or previous i 0)

-- an accepted file of n units, and a previous output for each
pub record PreviousGiven (file : List ℕ) (n : ℕ) (previous : List ℕ) : Type 0 where
  pub accepted : file_verdict file ≡ Ok tt
  pub units : n ≡ count file
  pub small : (i : ℕ) → i < n → get_or previous i 0 ≤ 10000

-- ---- what decoding a file gives: its problem in the arrays, each unit with its regions one by one, where every unit has a permitted output; or the refusal of the case

pub record Site (file coefficients ends ranges : List ℕ) (n t : ℕ) : Type 0 where
  pub accepted : file_verdict file ≡ Ok tt
  pub demanded : t ≡ target (problem_in file)
  pub holds : HoldsProblem coefficients ends ranges n (problem_in file)
  pub regions : (i : ℕ) → i < n → regions_at ends ranges i ≡ regions (unit_at file i)

abbrev pub Decodes : List ℕ → List ℕ → List ℕ → List ℕ → ℕ → ℕ → Verdict → Type 0
Decodes file coefficients ends ranges n t (Ok _) = Site file coefficients ends ranges n t
Decodes file coefficients ends ranges n t (Err r) = case_verdict file ≡ Err r
