-- Lowering (rule 10.4), of any problem: what is lowered stays tied and keeps cover, never nets more than the choices, and nets less the more there is to spare.
use mathlib.Core.Path.{◌≡◌, refl, ap, ◌∙◌}
use mathlib.Core.Bool.{Bool, true, false, cond}
use mathlib.Core.List.{List, [], ◌∷◌, ◌++◌, map}
use Prim.Native.Nat.{ℕ, suc, ◌+◌, ◌-◌, ◌≤◌, ◌<◌}
use native.Mathlib.Nat.{mul-le-mul_left}
use native.Mathlib.Decide.{dec_le}
use native.Mathlib.Omega.{arith}
use lib.Dec.{leb}
use lib.ListN.{length, get_or, take}
use borrow.Author.Tests.{leb-true, leb-false, le-leb, lt-leb}
use Rattle.rules.specs.Unit.{Unit, cost, net}
use Rattle.rules.specs.Problem.{total_net, Offer, Problem, units_of, target}
use Rattle.rules.specs.Choice.{choice, least_tied, choices, lowered, selected}
use Rattle.rules.specs.Lowering.{Saves, InFileOrder, MoreSlack}
use Rattle.fields.proofs.Integers.{ints}
use Rattle.rules.specs.Lists.{Every}
use Rattle.rules.proofs.Verdicts.{either_way}
use Rattle.rules.proofs.Economics.Quantities.{priced-is, net_monotone}
use Rattle.rules.proofs.Economics.Duality.{costs-least}
use Rattle.rules.specs.Offers.{Available}
use Rattle.rules.proofs.Economics.Allocations.{Tied, tied-given, chosen, choices_tied, dual-is, relaxation}

abbrev net_of : List Offer → List ℕ → ℕ
net_of os ps = total_net (map (λ o. o.unit) os) ps

module _ (m : ℕ) where
  -- the net of a unit's choice and of its least tied output
  abbrev top : Offer → ℕ
  top o = net o.unit (choice m o)

  abbrev low : Offer → ℕ
  low o = net o.unit (least_tied m o)

  pub net-order : {o : Offer} → Available o → net o.unit (least_tied m o) ≤ net o.unit (choice m o)
  net-order {o} a =
      let c = chosen m a in
      net_monotone a.proper.sound (c.first (choice m o) c.candidate refl) (a.proper.small (choice m o) c.candidate)

  -- they tie, so the one that nets less costs less
  pub cost-order : {o : Offer} → Available o → cost o.unit (least_tied m o) ≤ cost o.unit (choice m o)
  cost-order {o} a =
      let u = o.unit in
      let level = (chosen m a).level in
      omega (arith, ints, priced-is m u (least_tied m o), priced-is m u (choice m o), mul-le-mul_left m (net-order a))

  -- ---- the first unit, by whether the whole still covers

  module _ (t w : ℕ) (o : Offer) (os : List Offer) where
    pub unit-lowered : t ≤ w - net o.unit (choice m o) + net o.unit (least_tied m o) → lowered m t w (o ∷ os) ≡ least_tied m o ∷ lowered m t (w - net o.unit (choice m o) + net o.unit (least_tied m o)) os
    unfolding lowered
    unit-lowered h = rw (le-leb t (w - top o + low o) h)

    pub unit_kept : w - net o.unit (choice m o) + net o.unit (least_tied m o) < t → lowered m t w (o ∷ os) ≡ choice m o ∷ lowered m t w os
    unfolding lowered
    unit_kept h = rw (lt-leb t (w - top o + low o) h)

    -- where nothing below it ties it stays either way
    pub unit-alone : least_tied m o ≡ choice m o → net o.unit (choice m o) ≤ w → lowered m t w (o ∷ os) ≡ choice m o ∷ lowered m t w os
    unfolding lowered
    unit-alone e h =
        let whole : w - top o + low o ≡ w = omega (arith, ap (net o.unit) e) in
        rw (whole, e) (either_way (λ (ps : List ℕ). ps ≡ choice m o ∷ lowered m t w os) (leb t w) (λ _. refl) (λ _. refl))

  lowered_none : (t w : ℕ) → lowered m t w [] ≡ []
  unfolding lowered
  lowered_none t w = refl

  -- ---- one unit after the other: w is the net of the whole, of which the choices of the units to come are a part

  pub lowered-tied : (t w : ℕ) (os : List Offer) → Every Available os → Tied m os (lowered m t w os)
  unfolding lowered
  lowered-tied t w [] g = tt
  lowered-tied t w (o ∷ os) g =
      let c = chosen m g.0 in
      let w' = w - top o + low o in
      either_way (Tied m (o ∷ os)) (leb t w') (λ _. ((c.tied, c.level), lowered-tied t w' os g.1)) (λ _. ((c.candidate, refl), lowered-tied t w os g.1))

  -- no more net than that of the choices
  pub lowered_at_most : (t w : ℕ) (os : List Offer) → Every Available os → net_of os (lowered m t w os) ≤ net_of os (map (choice m) os)
  unfolding lowered total_net
  lowered_at_most t w [] g = omega arith
  lowered_at_most t w (o ∷ os) g =
      let w' = w - top o + low o in
      either_way (λ (ps : List ℕ). net_of (o ∷ os) ps ≤ net_of (o ∷ os) (map (choice m) (o ∷ os))) (leb t w')
      (λ _. omega (arith, net-order g.0, lowered_at_most t w' os g.1)) (λ _. omega (arith, lowered_at_most t w os g.1))

  -- where nothing ties below a choice all stay
  pub lowered-alone : (t w : ℕ) (os : List Offer) → map (least_tied m) os ≡ map (choice m) os → net_of os (map (choice m) os) ≤ w → lowered m t w os ≡ map (choice m) os
  unfolding total_net
  lowered-alone t w [] e part = lowered_none t w
  lowered-alone t w (o ∷ os) e part = unit-alone t w o os (cc) (omega arith) ∙ ap (λ (ps : List ℕ). choice m o ∷ ps) (lowered-alone t w os (cc) (omega arith))

  -- the unit behind `before`, where `kept` is the net of units that stand before these
  pub lowered_in_order : (t w kept : ℕ) (before after : List Offer) (o : Offer) → let os = before ++ (o ∷ after) in w ≡ kept + net_of os (map (choice m) os) → (z : ℕ) → z ≡ kept + net_of os (take (length before) (lowered m t w os) ++ (least_tied m o ∷ map (choice m) after)) → get_or (lowered m t w os) (length before) 0 ≡ cond (leb t z) (least_tied m o) (choice m o)
  unfolding lowered total_net
  lowered_in_order t w kept [] after o e z f =
      let same : w - top o + low o ≡ z = omega arith in
      rw same (first (leb t z) (lowered m t z after) (lowered m t w after))
    where
      first : (b : Bool) (xs ys : List ℕ) → get_or (cond b (least_tied m o ∷ xs) (choice m o ∷ ys)) 0 0 ≡ cond b (least_tied m o) (choice m o)
      first true xs ys = refl
      first false xs ys = refl
  lowered_in_order t w kept (b ∷ bs) after o e z f =
      let os = bs ++ (o ∷ after) in
      let w' = w - top b + low b in
      either_way (λ (ls : List ℕ). z ≡ kept + net_of (b ∷ os) (take (suc (length bs)) ls ++ (least_tied m o ∷ map (choice m) after)) → get_or ls (suc (length bs)) 0 ≡ cond (leb t z) (least_tied m o) (choice m o)) (leb t w')
      (λ _ g. lowered_in_order t w' (kept + low b) bs after o (omega arith) z (omega arith)) (λ _ g. lowered_in_order t w (kept + top b) bs after o (omega arith) z (omega arith)) f

  -- the whole covers as before: no more is given up than there is to spare
  pub lowered-covers : (t w : ℕ) (os : List Offer) → Every Available os → t ≤ w → net_of os (map (choice m) os) ≤ w → t + net_of os (map (choice m) os) ≤ w + net_of os (lowered m t w os)
  unfolding lowered total_net
  lowered-covers t w [] g h part = omega arith
  lowered-covers t w (o ∷ os) g h part =
      let w' = w - top o + low o in
      either_way (λ (ps : List ℕ). t + net_of (o ∷ os) (map (choice m) (o ∷ os)) ≤ w + net_of (o ∷ os) ps) (leb t w')
      (λ e. omega (arith, lowered-covers t w' os g.1 (leb-true t w' e) (omega arith))) (λ _. omega (arith, lowered-covers t w os g.1 h (omega arith)))

  -- with more to spare, w' − t' against w − t, what is lowered nets no more
  pub lowered_monotone : (t w t' w' : ℕ) (os : List Offer) → Every Available os → t ≤ w → w + t' ≤ w' + t → net_of os (map (choice m) os) ≤ w → net_of os (map (choice m) os) ≤ w' → net_of os (lowered m t' w' os) ≤ net_of os (lowered m t w os)
  unfolding lowered total_net
  lowered_monotone t w t' w' [] g h more part part' = omega arith
  lowered_monotone t w t' w' (o ∷ os) g h more part part' =
      let v = w - top o + low o in
      let v' = w' - top o + low o in
      let k = net-order g.0 in
      either_way (λ (ps : List ℕ). net_of (o ∷ os) ps ≤ net_of (o ∷ os) (lowered m t w (o ∷ os))) (leb t' v')
      (λ e. either_way (λ (ps : List ℕ). low o + net_of os (lowered m t' v' os) ≤ net_of (o ∷ os) ps) (leb t v)
      (λ f. omega (arith, lowered_monotone t v t' v' os g.1 (leb-true t v f) (omega arith) (omega arith) (omega arith)))
      (λ f. omega (arith, leb-false t v f, lowered_at_most t' v' os g.1, lowered-covers t w os g.1 h (omega arith))))
      (λ e. either_way (λ (ps : List ℕ). top o + net_of os (lowered m t' w' os) ≤ net_of (o ∷ os) ps) (leb t v)
      (λ f. absurd (omega (arith, leb-true t v f, leb-false t' v' e)))
      (λ f. omega (arith, lowered_monotone t w t' w' os g.1 h more (omega arith) (omega arith))))

-- ---- what an evaluation takes

module _ (q : Problem) (g : Every Available q.offers) where
  -- it is tied
  pub selected-tied : (m : ℕ) → Tied m q.offers (selected m q)
  unfolding selected
  selected-tied m =
      let w = total_net (units_of q) (choices m q) in
      either_way (Tied m q.offers) (leb (target q) w) (λ _. lowered-tied m (target q) w q.offers g) (λ _. choices_tied m q g)

  module _ (m : ℕ) where
    abbrev w : ℕ
    w = total_net (units_of q) (choices m q)

    -- where the choices cover it is the lowered ones, and else the choices
    pub selected-lowered : target q ≤ w → selected m q ≡ lowered m (target q) w q.offers
    unfolding selected
    selected-lowered h = rw (le-leb (target q) w h)

    pub selected-kept : w < target q → selected m q ≡ choices m q
    unfolding selected
    selected-kept h = rw (lt-leb (target q) w h)

    net_at_most : total_net (units_of q) (selected m q) ≤ w
    unfolding selected choices
    net_at_most = either_way (λ (ps : List ℕ). total_net (units_of q) ps ≤ w) (leb (target q) w) (λ _. lowered_at_most m (target q) w q.offers g) (λ _. omega arith)

    still-covers : target q ≤ w → target q ≤ total_net (units_of q) (selected m q)
    unfolding choices
    still-covers h = rw (selected-lowered h) (omega (arith, lowered-covers m (target q) w q.offers g h (omega arith)))

    pub in_file_order : InFileOrder m q
    unfolding choices
    in_file_order h before after o e =
        let os = before ++ (o ∷ after) in
        let units : units_of q ≡ map (λ x. x.unit) os = ap (λ (xs : List Offer). map (λ x. x.unit) xs) e in
        let ls : selected m q ≡ lowered m (target q) w os = selected-lowered h ∙ ap (lowered m (target q) w) e in
        let all : w ≡ total_net (map (λ x. x.unit) os) (map (choice m) os) = ap (λ (xs : List Offer). total_net (map (λ x. x.unit) xs) (map (choice m) xs)) e in
        let tried = take (length before) (lowered m (target q) w os) ++ (least_tied m o ∷ map (choice m) after) in
        rw ls (lowered_in_order m (target q) w 0 before after o (omega (arith, all)) (total_net (units_of q) tried) (omega (arith, ap (λ (us : List Unit). total_net us tried) units)))

    pub saves : Saves m q
    saves =
        record {
          tied = omega (arith, (relaxation q g (λ n. selected n q) selected-tied).value-is m, dual-is m q);
          covers = (λ h. omega (arith, net_at_most), still-covers);
          net = net_at_most;
          cost = costs-least (relaxation q g (λ n. selected n q) selected-tied) m (choices m q) (tied-given m q.offers (choices m q) (choices_tied m q g)) net_at_most;
        }

-- with a smaller demand
module _ (q : Problem) (g : Every Available q.offers) (m d : ℕ) (less : d ≤ q.demand) where
  abbrev q' : Problem
  q' = record { demand = d; offers = q.offers }

  abbrev v : ℕ
  v = total_net (units_of q) (choices m q)

  same-net : total_net (units_of q) (choices m q') ≡ v
  unfolding choices
  same-net = refl

  chosen-net : total_net (units_of q) (map (choice m) q.offers) ≡ v
  unfolding choices
  chosen-net = refl

  no_more_net : total_net (units_of q) (selected m q') ≤ total_net (units_of q) (selected m q)
  no_more_net = by (dec_le (target q) v)
    where
      by : Dec (target q ≤ v) → total_net (units_of q) (selected m q') ≤ total_net (units_of q) (selected m q)
      by (yes c) =
          let looser = selected-lowered q' g m (omega (arith, same-net)) in
          rw (selected-lowered q g m c, looser, same-net) (lowered_monotone m (target q) v (target q') v q.offers g c (omega arith) (omega (arith, chosen-net)) (omega (arith, chosen-net)))
      by (no n) = rw (selected-kept q g m (omega arith)) (omega (arith, net_at_most q' g m, same-net))

  pub more_slack : MoreSlack m d q
  more_slack =
      record {
        covers = λ h. still-covers q' g m (omega (arith, same-net, net_at_most q g m));
        net = no_more_net;
        cost = costs-least (relaxation q' g (λ n. selected n q') (selected-tied q' g)) m (selected m q) (tied-given m q.offers (selected m q) (selected-tied q g m)) no_more_net;
      }
