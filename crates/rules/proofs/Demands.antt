-- A list of demands that is not invalid is a valid one: the test as facts of the list.
use Prim.Native.Nat.{ℕ, ◌≤◌}
use mathlib.Core.Path.{◌≡◌}
use mathlib.Core.Bool.{true, false, not}
use mathlib.Core.List.{List}
use lib.Dec.{ltb, leb}
use lib.ListN.{length}
use borrow.Author.Tests.{ltb-false, leb-true}
use Rattle.rules.specs.Lists.{all}
use Rattle.rules.specs.Demands.{demands_invalid, ValidDemands}
use Rattle.rules.proofs.Lists.{every_more, all-every}
use Rattle.rules.proofs.Verdicts.{or_false, not_is_false}

pub valid-demands : (demands : List ℕ) → demands_invalid demands ≡ false → ValidDemands demands
valid-demands demands e =
    let (few, small) = (or_false (ltb 96 (length demands)) (not (all (λ d. leb d 320000) demands))).0 e in
    record {
      few = ltb-false 96 (length demands) few;
      small = every_more (λ d. leb d 320000 ≡ true) (λ d. d ≤ 320000) (λ d h. leb-true d 320000 h) demands ((all-every (λ d. leb d 320000) demands).0 ((not_is_false (all (λ d. leb d 320000) demands)).0 small));
    }
