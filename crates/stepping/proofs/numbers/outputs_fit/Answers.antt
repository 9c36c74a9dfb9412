-- `stepping::numbers::outputs_fit` meets its contract: `all` asks the test of each output.
use Rattle.std.proofs.Common.{◌≡◌, ℕ, Bool, List, [], ◌∷◌, ◌&&◌, refl, ap, ◌∙◌, rules, tests}
use lib.Dec.{leb}
use Rattle.std.specs.List.{list_all}
use Rattle.std.proofs.lemmas.Iterator.{YieldsList-from_slice}
use Rattle.std.proofs.lemmas.Iterator.Search.{all_from_yields_List}
use Rattle.rules.specs.Lists.{all}
use Rattle.stepping.proofs.numbers.outputs_fit.Goals as goal

all-alike : (test : ℕ → Bool) (xs : List ℕ) → list_all test xs ≡ all test xs
all-alike test [] = refl
all-alike test (x ∷ xs) = ap (λ (b : Bool). test x && b) (all-alike test xs)

pub returns : goal.returns
returns c =
    let outputs = c.args.outputs.now in
    all_from_yields_List (λ p. leb p 10000) _ _ c.all.result c.all.ensures.ran (YieldsList-from_slice outputs cc) (λ x b q k. search (rules, tests)) ∙ all-alike (λ p. leb p 10000) outputs
