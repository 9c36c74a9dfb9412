-- A loop that gives the units their outputs one by one: what stands so far, with what is still to come, is the whole. Of any output that is picked of an offer, so of the choices, of the least tied and of the greatest outputs.
use mathlib.Core.Bool.{Bool, true, false}
use mathlib.Core.Path.{◌≡◌, refl, sym, ap, ap₂, ◌∙◌, subst}
use mathlib.Core.List.{List, [], ◌∷◌, ◌++◌, map, append_assoc, append-nil}
use Prim.Native.Nat.{ℕ, ◌+◌, ◌≤◌, ◌<◌}
use native.Mathlib.Numerals.{add-one}
use native.Mathlib.Omega.{arith}
use lib.ListN.{length, get_or, take, drop, set, length-set, drop_of_length-le}
use lib.Seq.{drop-cons, take-suc-set}
use mir.Val.{bool_byte}
use Rattle.rules.specs.Unit.{Unit, cost, net}
use Rattle.rules.specs.Problem.{total_cost, total_net, Offer, Problem, units_of}
use Rattle.rules.proofs.Economics.Quantities.{cost-range, net-range}
use Rattle.site.specs.Site.{Coefficients, no_offer, HoldsOffer, HoldsProblem}
use Rattle.evaluation.specs.Clauses.{SiteHeld, HoldsOutputs, HoldsEach, Sized, Allocates}

module _ (pick : Offer → ℕ) where
  -- of a problem: the first i units have their outputs
  module _ (q : Problem) where
    abbrev left : ℕ → List Offer
    left i = drop i q.offers

    abbrev units : List Offer → List Unit
    units os = map (λ o. o.unit) os

    next-offer : (i : ℕ) → i < length q.offers → left i ≡ get_or q.offers i no_offer ∷ left (i + 1)
    next-offer i l = drop-cons q.offers i no_offer l ∙ ap (λ (k : ℕ). get_or q.offers i no_offer ∷ drop k q.offers) (sym (add-one i))

    -- the array has what is picked of them
    abbrev Filled : List ℕ → ℕ → Type 0
    Filled array i = take i array ++ map pick (left i) ≡ map pick q.offers

    filled_more : (array : List ℕ) (i r : ℕ) → Filled array i → i < length array → i < length q.offers → r ≡ pick (get_or q.offers i no_offer) → Filled (set array i r) (i + 1)
    filled_more array i r s h l e =
        let o = get_or q.offers i no_offer in
        let placed : take (i + 1) (set array i r) ≡ take i array ++ (pick o ∷ []) = rw (add-one i, e) (take-suc-set array i (pick o) h) in
        rw placed (append_assoc (take i array) (pick o ∷ []) (map pick (left (i + 1))) ∙ (rw (next-offer i l) at s))

    filled-ends : (array : List ℕ) (i : ℕ) → Filled array i → i ≡ length q.offers → take (length q.offers) array ≡ map pick q.offers
    filled-ends array i s e =
        let none : left i ≡ [] = drop_of_length-le q.offers {i = i} (omega arith) in
        rw (← e) (sym (append-nil (take i array)) ∙ (rw none at s))

    pub record Placed (outputs : List ℕ) (c n i : ℕ) : Type 0 where
      pub places : Filled outputs i
      pub cost : c + total_cost (units (left i)) (map pick (left i)) ≡ total_cost (units_of q) (map pick q.offers)
      pub net : n + total_net (units (left i)) (map pick (left i)) ≡ total_net (units_of q) (map pick q.offers)

    module _ {outputs : List ℕ} {c n i : ℕ} (s : Placed outputs c n i) where
      placed-more : {r x y : ℕ} → i < length outputs → i < length q.offers → let o = get_or q.offers i no_offer in r ≡ pick o → x ≡ cost o.unit r → y ≡ net o.unit r → Placed (set outputs i r) (c + x) (n + y) (i + 1)
      unfolding total_cost total_net
      placed-more {r} {x} {y} h l e d f =
          let o = get_or q.offers i no_offer in
          let next = next-offer i l in
          record {
            places = filled_more outputs i r s.places h l e;
            cost = omega (arith, ap (cost o.unit) e, rw next at s.cost);
            net = omega (arith, ap (net o.unit) e, rw next at s.net);
          }

      placed-ends : i ≡ length q.offers → HoldsOutputs q (map pick q.offers) outputs (record { cost = c; net = n })
      unfolding total_cost total_net
      placed-ends e =
          let none : left i ≡ [] = drop_of_length-le q.offers {i = i} (omega arith) in
          record {
            places = filled-ends outputs i s.places e;
            cost = omega (arith, rw none at s.cost);
            net = omega (arith, rw none at s.net);
          }

  -- of whichever problem the arrays hold
  pub record Allocating (coefficients ends ranges : List ℕ) (n : ℕ) (outputs : List ℕ) (c w i : ℕ) : Type 0 where
    pub within : i ≤ n
    pub room : n ≤ length outputs
    pub sized : Sized i (record { cost = c; net = w })
    pub held : (q : Problem) → HoldsProblem coefficients ends ranges n q → Placed q outputs c w i

  module _ {coefficients ends ranges : List ℕ} {n : ℕ} (g : SiteHeld coefficients ends ranges n) where
    module _ {outputs : List ℕ} {c w i : ℕ} (s : Allocating coefficients ends ranges n outputs c w i) where
      -- unit i of that problem
      pub offered : i < n → HoldsOffer coefficients ends ranges i (get_or g.problem.offers i no_offer)
      offered l = g.holds.offers i l

      module _ {r x y : ℕ} (l : i < n) (small : r ≤ 10000) (e : (q : Problem) → HoldsProblem coefficients ends ranges n q → r ≡ pick (get_or q.offers i no_offer)) (d : (u : Unit) → Coefficients coefficients i u → x ≡ cost u r) (f : (u : Unit) → Coefficients coefficients i u → y ≡ net u r) where
        pub sized-more : Sized (i + 1) (record { cost = c + x; net = w + y })
        sized-more =
            let u = (offered l).unit in
            record { cost = omega (arith, s.sized.cost, d _ u, cost-range u.sound small); net = omega (arith, s.sized.net, f _ u, net-range u.sound small) }

        pub allocating_more : Allocating coefficients ends ranges n (set outputs i r) (c + x) (w + y) (i + 1)
        allocating_more =
            record {
              within = omega arith;
              room = rw (length-set outputs i r) s.room;
              sized = sized-more;
              held = λ q h. placed-more q (s.held q h) (omega (arith, s.room)) (omega (arith, h.count)) (e q h) (d _ (h.offers i l).unit) (f _ (h.offers i l).unit);
            }

      pub allocating_ends : i ≡ n → Allocates pick coefficients ends ranges n outputs (record { cost = c; net = w })
      allocating_ends e = record { sized = subst (λ (k : ℕ). Sized k (record { cost = c; net = w })) e s.sized; held = λ q h. placed-ends q (s.held q h) (omega (arith, h.count)) }

  -- an array beside, without sums
  pub record Filling (coefficients ends ranges : List ℕ) (n : ℕ) (array : List ℕ) (i : ℕ) : Type 0 where
    pub room : n ≤ length array
    pub held : (q : Problem) → HoldsProblem coefficients ends ranges n q → Filled q array i

  module _ {coefficients ends ranges : List ℕ} {n : ℕ} {array : List ℕ} where
    pub filling_more : {i r : ℕ} → Filling coefficients ends ranges n array i → i < n → ((q : Problem) → HoldsProblem coefficients ends ranges n q → r ≡ pick (get_or q.offers i no_offer)) → Filling coefficients ends ranges n (set array i r) (i + 1)
    filling_more {i} {r} s l e = record { room = rw (length-set array i r) s.room; held = λ q h. filled_more q array i r (s.held q h) (omega (arith, s.room)) (omega (arith, h.count)) (e q h) }

    pub filling_ends : {i : ℕ} → Filling coefficients ends ranges n array i → i ≡ n → HoldsEach pick coefficients ends ranges n array
    filling_ends {i} s e = record { places = λ q h. subst (λ (k : ℕ). take k array ≡ map pick q.offers) h.count (filled-ends q array i (s.held q h) (omega (arith, h.count))) }

-- two arrays that are filled alike, as long as the places where they may differ are counted
pub record Ties (outputs least : List ℕ) (ties i : ℕ) : Type 0 where
  pub small : ties ≤ i
  pub alone : ties ≡ 0 → take i least ≡ take i outputs

pub ties-more : {outputs least : List ℕ} {ties i p l : ℕ} → Ties outputs least ties i → i < length outputs → i < length least → (tied : Bool) → (tied ≡ false → l ≡ p) → Ties (set outputs i p) (set least i l) (ties + bool_byte tied) (i + 1)
ties-more s h k true same = record { small = omega (arith, s.small); alone = λ e. absurd (omega arith) }
ties-more {outputs} {least} {ties} {i} {p} {l} s h k false same =
    record {
      small = omega (arith, s.small);
      alone = λ e.
          let before = s.alone (omega arith) in
          rw (add-one i) (take-suc-set least i l k ∙ ap₂ (λ (xs : List ℕ) (x : ℕ). xs ++ (x ∷ [])) before (same refl) ∙ sym (take-suc-set outputs i p h));
    }
