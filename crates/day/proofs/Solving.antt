-- A slot solved: its problem is that of the units with other previous outputs, which the arrays hold once these are decoded; so what is told of every problem that the arrays hold is told of it.
use Rattle.std.specs.Prelude.{Option, None, Some}
use mathlib.Core.Path.{◌≡◌, refl, sym, ap, ◌∙◌}
use Prim.Native.Nat.{ℕ, suc, ◌*◌, ◌≤◌}
use mathlib.Core.Bool.{true, false}
use mathlib.Core.List.{List, [], ◌∷◌}
use lib.ListN.{length, get_or}
use Rattle.rules.specs.Lists.{each}
use Rattle.rules.specs.Unit.{Unit, with_previous}
use Rattle.rules.specs.Layout.{unit_at, case_of}
use Rattle.rules.specs.Problem.{Problem, problem_of, target}
use Rattle.rules.specs.Bisection.{solvable}
use Rattle.rules.proofs.Lists.{each_same, every-at}
use Rattle.site.specs.Clauses.{UnitsDecoded, unit_with, PreviousGiven}
use Rattle.site.proofs.UnitsWritten.{offering}
use Rattle.bisection.specs.Clauses.{Holding, Searchable}
use Rattle.solving.specs.declared.Reply as code
use Rattle.solving.specs.Clauses.{HoldsSolution}
use Rattle.day.specs.declared.History.{History}
use Rattle.day.specs.Day.{each_with_previous, slot_case}
use Rattle.day.specs.Clauses.{none, HistoryInRange, SlotAsks, Holds, Solves}

each_with : (hs : List History) (f : ℕ → Unit) → each_with_previous (each (length hs) f) hs ≡ each (length hs) (λ i. with_previous (f i) (get_or hs i none).previous)
each_with [] f = refl
each_with (h ∷ hs) f = ap (λ (us : List Unit). with_previous (f 0) h.previous ∷ us) (each_with hs (λ i. f (suc i)))

module _ {file : List ℕ} {d : ℕ} {hs : List History} (asks : SlotAsks file d hs) {previous : List ℕ} (held : Holds hs previous) where
  abbrev n : ℕ
  n = length hs

  abbrev q : Problem
  q = problem_of (slot_case (case_of file) hs d)

  abbrev given : Problem
  given = problem_of (record { demand = d; units = each n (unit_with file previous) })

  pub slot_problem_lem : q ≡ given
  unfolding slot_case case_of
  slot_problem_lem =
      ap (λ (us : List Unit). problem_of (record { demand = d; units = us }))
      (ap (λ (m : ℕ). each_with_previous (each m (unit_at file)) hs) (sym asks.sound.units)
      ∙ each_with hs (unit_at file)
      ∙ each_same n (λ i. with_previous (unit_at file i) (get_or hs i none).previous) (unit_with file previous) (λ i h. ap (with_previous (unit_at file i)) (sym (held.at i h))))

  pub previous-given : PreviousGiven file n previous
  previous-given =
      record { accepted = asks.sound.accepted; units = asks.sound.units; small = λ i h. rw (held.at i h) (every-at (HistoryInRange 96) hs i none asks.kept h).previous }

  demanded : given.demand ≤ 320000
  unfolding problem_of
  demanded = asks.demand

  target_is : target given ≡ 100000000 * d
  unfolding problem_of
  target_is = refl

  module _ {coefficients ends ranges : List ℕ} {some : _} (u : UnitsDecoded (unit_with file previous) n coefficients ends ranges some) where
    pub undecoded : some ≡ false → solvable q ≡ false
    undecoded e = ap solvable slot_problem_lem ∙ u.none e given (offering (unit_with file previous) n d)

    module _ (e : some ≡ true) where
      holding : Holding coefficients ends ranges n (100000000 * d) q
      holding =
          rw slot_problem_lem (record { problem = u.holds e given (offering (unit_with file previous) n d) demanded; demanded = sym target_is })

      pub searchable : Searchable coefficients ends ranges n (100000000 * d)
      searchable = record { problem = q; holds = holding }

      pub solved : (r : Option code.Reply) → HoldsSolution coefficients ends ranges n (100000000 * d) r → Solves q n r
      solved None h = h q holding
      solved (Some reply) h = let k = h q holding in record { solvable = k.0; reply = k.1 }
