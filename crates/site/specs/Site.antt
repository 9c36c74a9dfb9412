-- A decoded site has three arrays of plain numbers. Here stands which problem they hold: for each unit its coefficients and, as regions that ascend, the outputs that it offers.
use Rattle.std.specs.Prelude.{ℕ, ◌+◌, ◌*◌, ◌-◌, ◌≤◌, ◌<◌, ◌≡◌, List, [], ◌↔◌, pos, length, get_or}
use Rattle.rules.specs.Unit.{Unit, linear_factor}
use Rattle.rules.specs.Regions.{Region, regions}
use Rattle.rules.specs.Problem.{Offer, Problem, offer}
use Rattle.rules.specs.Sound.{Sound}
use Rattle.rules.specs.Offers.{Among, Proper}
use Rattle.regions.specs.Regions.{Ascending, Inside, held_from}

-- ---- the arrays by place

-- the first and the last region of unit i
abbrev pub first : List ℕ → ℕ → ℕ
first ranges i = get_or ranges (2 * i) 0

abbrev pub last : List ℕ → ℕ → ℕ
last ranges i = get_or ranges (2 * i + 1) 0

-- the coefficients of unit i: constant, linear and quadratic cost, quadratic loss, and the linear factor of net
abbrev pub c0_at : List ℕ → ℕ → ℕ
c0_at coefficients i = get_or coefficients (5 * i) 0

abbrev pub c1_at : List ℕ → ℕ → ℕ
c1_at coefficients i = get_or coefficients (5 * i + 1) 0

abbrev pub c2_at : List ℕ → ℕ → ℕ
c2_at coefficients i = get_or coefficients (5 * i + 2) 0

abbrev pub b_at : List ℕ → ℕ → ℕ
b_at coefficients i = get_or coefficients (5 * i + 3) 0

abbrev pub factor_at : List ℕ → ℕ → ℕ
factor_at coefficients i = get_or coefficients (5 * i + 4) 0

-- they are those of u, which is sound
pub record Coefficients (coefficients : List ℕ) (i : ℕ) (u : Unit) : Type 0 where
  pub sound : Sound u
  pub c0 : c0_at coefficients i ≡ u.c0
  pub c1 : c1_at coefficients i ≡ u.c1
  pub c2 : c2_at coefficients i ≡ u.c2
  pub b : b_at coefficients i ≡ u.b
  pub factor : factor_at coefficients i ≡ linear_factor u

-- ---- regions

-- p lies in one of the regions first to last
abbrev pub Within : List ℕ → ℕ → ℕ → ℕ → Type 0
Within ends first last = Inside ends first (last + 1)

-- the regions first to last ascend, and there is one
pub record Regions (ends : List ℕ) (first last : ℕ) : Type 0 where
  pub some : first ≤ last
  pub ascending : Ascending ends first (last + 1)

-- ---- what is held

-- unit i of the arrays is the offer o
pub record HoldsOffer (coefficients ends ranges : List ℕ) (i : ℕ) (o : Offer) : Type 0 where
  pub proper : Proper o
  pub unit : Coefficients coefficients i o.unit
  pub from : 6 * i ≤ first ranges i
  pub to : last ranges i < 6 * i + 6
  pub regions : Regions ends (first ranges i) (last ranges i)
  pub outputs : (p : ℕ) → Among p o.outputs ↔ Within ends (first ranges i) (last ranges i) p

-- the regions of unit i, one by one
abbrev pub regions_at : List ℕ → List ℕ → ℕ → List Region
regions_at ends ranges i = held_from ends (first ranges i) (last ranges i + 1 - first ranges i)

-- unit i of the arrays is u: it offers all its permitted outputs, and its regions are those of rule 5.6
pub record HoldsUnit (coefficients ends ranges : List ℕ) (i : ℕ) (u : Unit) : Type 0 where
  pub holds : HoldsOffer coefficients ends ranges i (offer u)
  pub regions : regions_at ends ranges i ≡ regions u

-- what stands past the end of a list of offers
abbrev pub no_offer : Offer
no_offer =
    record {
      unit =
          record {
            c0 = 0;
            c1 = 0;
            c2 = 0;
            b = 0;
            b1 = pos 0;
            least = 0;
            greatest = 0;
            previous = 0;
            up = 0;
            down = 0;
            mark = 0;
            zone_count = 0;
            edges = [];
          };
      outputs = [];
    }

-- the first n units of the arrays are the offers of q, whose demand is in range
pub record HoldsProblem (coefficients ends ranges : List ℕ) (n : ℕ) (q : Problem) : Type 0 where
  pub count : length q.offers ≡ n
  pub few : n ≤ 32
  pub demand : q.demand ≤ 320000
  pub offers : (i : ℕ) → i < n → HoldsOffer coefficients ends ranges i (get_or q.offers i no_offer)
