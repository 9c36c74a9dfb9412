-- Rules 2.11, 4.10, 7.2 and 16.17 of docs/SPECIFICATION.md: what number 18 stands for, as statements (since S-4). (They are proved in proofs/Rising.)
use Rattle.std.specs.Prelude.{ℕ, suc, ◌<◌, false, List, ◌↔◌, ◌≡◌, pos, neg_ℤ, ◌≤ℤ◌, Err}
use Rattle.rules.specs.Unit.{Unit, net}
use Rattle.rules.specs.Layout.{edition}
use Rattle.rules.specs.Refusal.{losses_out_of_range, file_verdict}
use Rattle.rules.specs.Calls.{packed}
use Rattle.rules.specs.declared.Refusal.TheVariants.{LossesOutOfRange}

-- net rises strictly with every step up to output 10,000
abbrev pub NetRises : Unit → Type 0
NetRises u = (p : ℕ) → p < 10000 → net u p < net u (suc p)

-- b1 in its range
pub record LinearLossInRange (u : Unit) : Type 0 where
  pub least : neg_ℤ (pos 10000000) ≤ℤ u.b1
  pub greatest : u.b1 ≤ℤ pos 10000000

-- 18 is exact: it does not refuse a unit exactly where b1 is in range and net rises
abbrev pub RefusedExactlyWhereNetDoesNotRise : Type 0
RefusedExactlyWhereNetDoesNotRise = (u : Unit) → (losses_out_of_range u ≡ false) ↔ (LinearLossInRange u × NetRises u)

-- packing in edition 1 never meets it, nor does a file of edition 1
abbrev pub PackingNeverMeets18 : Type 0
PackingNeverMeets18 = (d : ℕ) (rows file : List ℕ) → (packed d rows file).answer ≡ Err LossesOutOfRange → ⊥

abbrev pub Edition1NeverMeets18 : Type 0
Edition1NeverMeets18 = (file : List ℕ) → edition file ≡ 1 → file_verdict file ≡ Err LossesOutOfRange → ⊥
