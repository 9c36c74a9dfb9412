-- Rules 5.1 to 7.1 of docs/SPECIFICATION.md. A generating unit: its numbers, permitted outputs, cost and net. An output is a whole number of steps of 0.1 MW.
use Rattle.std.specs.Prelude.{ℕ, ◌+◌, ◌*◌, ◌-◌, Bool, true, cond, not, ◌&&◌, List, ltb, leb, eqb, ℤ, pos, ◌-ℤ◌, get_or}
use Rattle.rules.specs.Lists.{each, all}
use Rattle.rules.specs.Numbers.{natural}

-- A unit is a generating unit (a set): the nineteen numbers of a row, and b1, by name. Outputs are in steps, the resolution of 0.1 MW.
pub record Unit : Type 0 where
  pub c0 : ℕ  -- cost coefficients: constant, linear, quadratic
  pub c1 : ℕ
  pub c2 : ℕ
  pub b : ℕ  -- quadratic loss coefficient: the unit's own B coefficient
  pub b1 : ℤ  -- linear loss coefficient: the unit's B0 coefficient (since S-4); 0 in edition 1
  pub least : ℕ  -- limits of the running outputs
  pub greatest : ℕ
  pub previous : ℕ  -- previous output and ramp limits
  pub up : ℕ
  pub down : ℕ
  pub mark : ℕ  -- must-run flag: 0 may stand, 1 must run
  pub zone_count : ℕ
  pub edges : List ℕ  -- four pairs of lower and upper edge, zero where unused

-- (rule 21.2, since S-8) the unit with another previous output
unfoldable pub with_previous : Unit → ℕ → Unit
with_previous u p =
    record {
      c0 = u.c0;
      c1 = u.c1;
      c2 = u.c2;
      b = u.b;
      b1 = u.b1;
      least = u.least;
      greatest = u.greatest;
      previous = p;
      up = u.up;
      down = u.down;
      mark = u.mark;
      zone_count = u.zone_count;
      edges = u.edges;
    }

-- (rule 3.6) the unit with another b1
unfoldable pub with_loss : Unit → ℤ → Unit
with_loss u z =
    record {
      c0 = u.c0;
      c1 = u.c1;
      c2 = u.c2;
      b = u.b;
      b1 = z;
      least = u.least;
      greatest = u.greatest;
      previous = u.previous;
      up = u.up;
      down = u.down;
      mark = u.mark;
      zone_count = u.zone_count;
      edges = u.edges;
    }

-- a prohibited operating zone
pub record Zone : Type 0 where
  pub lower : ℕ
  pub upper : ℕ

-- zone k, counted from 0: a pair of edges
abbrev pub zone_at : List ℕ → ℕ → Zone
zone_at edges k = record { lower = get_or edges (2 * k) 0; upper = get_or edges (2 * k + 1) 0 }

-- the zones in use: as many as the unit's count says
unfoldable pub zones : Unit → List Zone
zones u = each u.zone_count (zone_at u.edges)

-- ---- permitted outputs

-- (rule 5.1) strictly inside a zone: both its edges are permitted
abbrev pub strictly_inside : ℕ → Zone → Bool
strictly_inside p z = ltb z.lower p && ltb p z.upper

-- (rules 5.2, 5.3) the ramp window, of a unit that ran before; where the previous output is 0 there is none
-- (The difference of naturals stops at 0: then there is no lower limit.)
abbrev pub in_ramp_window : Unit → ℕ → Bool
in_ramp_window u p = cond (ltb 0 u.previous) (leb (u.previous - u.down) p && leb p (u.previous + u.up)) true

-- (rule 5.1) a running output: within the limits and the window, inside no zone
abbrev pub running_output : Unit → ℕ → Bool
running_output u p =
    leb u.least p && leb p u.greatest && all (λ z. not (strictly_inside p z)) (zones u) && in_ramp_window u p

-- (rule 5.4) standing is for the mark alone to say, not for the window
unfoldable pub permitted : Unit → ℕ → Bool
permitted u p = cond (eqb p 0) (eqb u.mark 0) (running_output u p)

-- (rules 6.1, 6.2) the cost of a unit at an output, in millionths of the currency per hour; a unit that stands costs nothing (since S-1)
unfoldable pub cost : Unit → ℕ → ℕ
cost u p = cond (eqb p 0) 0 (u.c0 + u.c1 * p + u.c2 * p * p)

-- (rule 7.1) what a step nets before quadratic losses: 100,000,000 − b1 (since S-4)
unfoldable pub linear_factor : Unit → ℕ
linear_factor u = natural (pos 100000000 -ℤ u.b1)

-- (rule 7.1) the net of a unit: its output after losses, in hundred-millionths of a step
-- (The differences stop at 0; in an accepted file neither does: `Quantities.factor`, `Quantities.net-whole`.)
unfoldable pub net : Unit → ℕ → ℕ
net u p = linear_factor u * p - u.b * p * p
