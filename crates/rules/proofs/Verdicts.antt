-- What a test and a verdict say of their parts: of numbers, of `&&` and `||`, of `refuses`, `then` and `in_order`.
use Rattle.std.specs.Prelude.{Ok, Err}
use Prim.Native.Nat.{ℕ, ◌≤◌, ◌<◌}
use native.Mathlib.Omega.{arith}
use mathlib.Core.Path.{◌≡◌, refl, ap}
use mathlib.Core.Logic.{◌↔◌, ◌≢◌}
use mathlib.Core.Bool.{Bool, true, false, cond, not, ◌&&◌, ◌||◌, and-eq-true_iff, true≢false}
use mathlib.Core.List.{List, [], ◌∷◌}
use lib.Dec.{ltb, leb, eqb}
use lib.IntN.{ℤ}
use lib.Signed.{le_z, lt_z, ◌≤ℤ◌, ◌<ℤ◌}
use borrow.Author.Tests.{ltb-true, ltb-false, leb-true, eqb-true, eqb-false, lt-ltb, le-ltb, le-leb, eq-eqb, ne_eqb, not-false}
use Rattle.fields.proofs.Integers.{itself, at_most, under, when_ge, when_gt, not-under, not_at_most}
use Rattle.rules.specs.Lists.{each, Every}
use Rattle.rules.specs.Refusal.{◌refuses◌, ◌then◌, in_order, Verdict}
use Rattle.rules.specs.declared.Refusal.{Refusal}
use Rattle.rules.proofs.Lists.{every-each, each-every}

-- ---- tests: what each says of its numbers or parts

pub or_false : (a b : Bool) → ((a || b) ≡ false) ↔ ((a ≡ false) × (b ≡ false))
or_false true b = (λ e. absurd (true≢false e), λ p. p.0)
or_false false b = (λ e. (refl, e), λ p. p.1)

pub and-true : (a b : Bool) → ((a && b) ≡ true) ↔ ((a ≡ true) × (b ≡ true))
and-true = and-eq-true_iff

pub not_is_false : (a : Bool) → (not a ≡ false) ↔ (a ≡ true)
not_is_false a = (not-false a, λ e. ap not e)

pub ltb_is_false : (a b : ℕ) → (ltb a b ≡ false) ↔ (b ≤ a)
ltb_is_false a b = (ltb-false a b, le-ltb a b)

pub ltb_is_true : (a b : ℕ) → (ltb a b ≡ true) ↔ (a < b)
ltb_is_true a b = (ltb-true a b, lt-ltb a b)

pub leb_is_true : (a b : ℕ) → (leb a b ≡ true) ↔ (a ≤ b)
leb_is_true a b = (leb-true a b, le-leb a b)

pub eqb_is_false : (a b : ℕ) → (eqb a b ≡ false) ↔ (a ≢ b)
eqb_is_false a b = (eqb-false a b, ne_eqb a b)

pub eqb_is_true : (a b : ℕ) → (eqb a b ≡ true) ↔ (a ≡ b)
eqb_is_true a b = (eqb-true a b, eq-eqb a b)

pub lt_z_is_false : (x y : ℤ) → (lt_z x y ≡ false) ↔ (y ≤ℤ x)
lt_z_is_false x y = (λ e. at_most (itself y) (itself x) (omega (arith, when_ge (itself x) (itself y) e)), λ h. not-under h)

pub le_z_is_false : (x y : ℤ) → (le_z x y ≡ false) ↔ (y <ℤ x)
le_z_is_false x y = (λ e. under (itself y) (itself x) (omega (arith, when_gt (itself x) (itself y) e)), λ h. not_at_most h)

-- what holds either way of a test holds of what the test picks
pub either_way : {A : Type 0} (P : A → Type 0) (t : Bool) {x y : A} → (t ≡ true → P x) → (t ≡ false → P y) → P (cond t x y)
either_way P true f g = f refl
either_way P false f g = g refl

-- ---- verdicts

pub refused_not_accepted : {r : Refusal} → ◌≡◌ {A = Verdict} (Err r) (Ok tt) → ⊥
refused_not_accepted e = let z : ◌≡◌ {A = ℕ} 0 1 = cc in omega arith

-- a condition that does not hold, and nothing else, is accepted
pub refuses-accepted : (c : Bool) (r : Refusal) → (c refuses r ≡ Ok tt) ↔ (c ≡ false)
refuses-accepted true r = (λ e. absurd (refused_not_accepted e), λ e. absurd (true≢false e))
refuses-accepted false r = (λ e. refl, λ e. refl)

pub then_accepted : (v w : Verdict) → ((v then w) ≡ Ok tt) ↔ ((v ≡ Ok tt) × (w ≡ Ok tt))
then_accepted (Ok _) w = (λ e. (refl, e), λ p. p.1)
then_accepted (Err r) w = (λ e. absurd (refused_not_accepted e), λ p. p.0)

pub in_order_accepted : (vs : List Verdict) → (in_order vs ≡ Ok tt) ↔ Every (λ v. v ≡ Ok tt) vs
in_order_accepted [] = (λ e. tt, λ p. refl)
in_order_accepted (v ∷ vs) =
    let both = then_accepted v (in_order vs) in
    let rest = in_order_accepted vs in
    (λ e. ((both.0 e).0, rest.0 (both.0 e).1), λ p. both.1 (p.0, rest.1 p.1))

pub in_order_each : (n : ℕ) (f : ℕ → Verdict) → (in_order (each n f) ≡ Ok tt) ↔ ((i : ℕ) → i < n → f i ≡ Ok tt)
in_order_each n f =
    let both = in_order_accepted (each n f) in
    (λ e. each-every (λ v. v ≡ Ok tt) n f (both.0 e), λ h. both.1 (every-each (λ v. v ≡ Ok tt) n f h))

-- `simp accepts at e`, of an e that a verdict is Accepted, is the facts behind it as nested pairs; `simp accepts p` proves such an equation from them
pub ruleset accepts =
    (then_accepted, refuses-accepted, or_false, and-true, not_is_false, ltb_is_false, ltb_is_true, leb_is_true, eqb_is_false, eqb_is_true, lt_z_is_false, le_z_is_false)
