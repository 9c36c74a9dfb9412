-- `all` over the edges from place 2 × zone count on answers what the rule's `all` does.
use Rattle.std.proofs.Common.{◌≡◌, ◌*◌, ◌&&◌, Bool, List, eqb, drop, refl, rules, tests}
use Rattle.std.specs.List.{list_all}
use Rattle.std.proofs.lemmas.Iterator.{YieldsList-from_slice}
use Rattle.std.proofs.lemmas.Iterator.Adapters.{YieldsList-from_skip}
use Rattle.std.proofs.lemmas.Iterator.Search.{all_from_yields_List}
use borrow.Author.Tests.{le-ltb}
use Rattle.std.proofs.lemmas.List.Recursion.{same_from_clauses}
use Rattle.rules.specs.Lists.{all}
use Rattle.unit.proofs.zone_count_invalid.Goals as goal

all_is : {A : Type 0} (test : A → Bool) (xs : List A) → list_all test xs ≡ all test xs
all_is test xs = same_from_clauses (list_all test) (all test) (λ x r. test x && r) refl (λ _ _. refl) (λ _ _. refl) xs

pub returns-else-u-gt4 : goal.returns-else-u-gt4
returns-else-u-gt4 c =
    let e : c.all.result ≡ list_all (λ e. eqb e 0) (drop (2 * c.args.u.zone_count) c.args.u.edges) =
    all_from_yields_List (λ e. eqb e 0) _ _ _ c.all.ensures.ran (YieldsList-from_skip _ (YieldsList-from_slice c.args.u.edges cc) cc) (λ x b q k. search (rules, tests)) in
    simp (e, all_is, le-ltb 4 c.args.u.zone_count c.if-u-gt4.false)
