-- Rules 9.1 to 10.5 of docs/SPECIFICATION.md: Lagrangian relaxation of the demand at a whole multiplier m, 0 to 65,536, in hundredths of the currency per MWh.
use Rattle.std.specs.Prelude.{ℕ, ◌+◌, ◌*◌, ◌-◌, cond, List, [], ◌∷◌, map, leb, ℤ, pos, ◌+ℤ◌}
use Rattle.std.proofs.Math.IntN.{sub_ℕ}
use Rattle.std.specs.Int.Signed.{le_z}
use Rattle.rules.specs.Numbers.{total, divided_up, greatest_at}
use Rattle.rules.specs.Unit.{Unit, cost, net}
use Rattle.rules.specs.Problem.{total_net, Offer, Problem, units_of, target}

-- (rule 9.2) priced cost: a unit's term of the Lagrangian at an output; it may be negative
unfoldable pub priced_cost : ℕ → Unit → ℕ → ℤ
priced_cost m u p = sub_ℕ (100000 * cost u p) (m * net u p)

-- the later of two outputs where it costs no more, else the earlier
abbrev pub better : (ℕ → ℤ) → ℕ → ℕ → ℕ
better f p q = cond (le_z (f q) (f p)) q p

-- the earlier of two outputs where it costs no more, else the later
abbrev pub earlier : (ℕ → ℤ) → ℕ → ℕ → ℕ
earlier f p q = cond (le_z (f p) (f q)) p q

-- what is preferred of some outputs, by what is preferred of two; they are looked at in order. (Of none, 0.)
unfoldable pub preferred_from : (ℕ → ℕ → ℕ) → ℕ → List ℕ → ℕ
preferred_from prefer p [] = p
preferred_from prefer p (q ∷ qs) = preferred_from prefer (prefer p q) qs

unfoldable pub preferred : (ℕ → ℕ → ℕ) → List ℕ → ℕ
preferred prefer [] = 0
preferred prefer (p ∷ ps) = preferred_from prefer p ps

-- (rule 9.3) choice: a unit's minimiser of the Lagrangian; the greatest output on a tie. (The outputs ascend.)
abbrev pub choice : ℕ → Offer → ℕ
choice m o = preferred (better (priced_cost m o.unit)) o.outputs

-- (rule 9.6) its least minimiser, the least output on a tie (since S-6)
abbrev pub least_tied : ℕ → Offer → ℕ
least_tied m o = preferred (earlier (priced_cost m o.unit)) o.outputs

abbrev pub least_priced_cost : ℕ → Offer → ℤ
least_priced_cost m o = priced_cost m o.unit (choice m o)

-- ---- of a problem

unfoldable pub choices : ℕ → Problem → List ℕ
choices m q = map (choice m) q.offers

-- (rule 10.4) lowering, unit by unit in the order of the file (since S-6). w is the net of the whole allocation, earlier lowerings kept, t the net that covers:
-- a unit goes from its choice to its least tied output where the whole then still covers, and else stays.
unfoldable pub lowered : ℕ → ℕ → ℕ → List Offer → List ℕ
lowered m t w [] = []
lowered m t w (o ∷ os) =
    let p = choice m o in
    let l = least_tied m o in
    let w' = w - net o.unit p + net o.unit l in
    cond (leb t w') (l ∷ lowered m t w' os) (p ∷ lowered m t w os)

-- (rules 10.3, 10.5) the allocation that an evaluation of m takes: its choices, lowered where they cover (since S-6)
unfoldable pub selected : ℕ → Problem → List ℕ
selected m q =
    let w = total_net (units_of q) (choices m q) in
    cond (leb (target q) w) (lowered m (target q) w q.offers) (choices m q)

-- (rule 10.1) dual value: the Lagrangian dual function, the least priced costs of the units and the price of the demand; it may be negative
unfoldable pub dual_value : ℕ → Problem → ℤ
dual_value m q = total (map (least_priced_cost m) q.offers) +ℤ pos (m * target q)

-- (rule 10.2) floor: the dual lower bound on the cost of whatever covers, rounded up to a whole cost
unfoldable pub floor : ℕ → Problem → ℤ
floor m q = divided_up (dual_value m q) 100000

abbrev pub greatest_floor : Problem → List ℕ → ℤ
greatest_floor q ms = greatest_at (λ m. floor m q) ms
