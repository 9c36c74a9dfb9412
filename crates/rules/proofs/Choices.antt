-- The choices of one multiplier are an allocation where every unit has a permitted output (`Choices` in specs/): each is among what its unit offers.
use mathlib.Core.Path.{◌≡◌}
use mathlib.Core.Bool.{true}
use Prim.Native.Nat.{ℕ, zero, suc, ◌<◌}
use native.Mathlib.Omega.{arith}
use Rattle.rules.specs.Lists.{each, Every}
use Rattle.rules.specs.Unit.{Unit, permitted}
use Rattle.rules.specs.Layout.{count, unit_at, case_of}
use Rattle.rules.specs.Problem.{offer, problem_of, problem_in}
use Rattle.rules.specs.Choice.{choices}
use Rattle.rules.specs.Choices.{ChoicesAllocate}
use Rattle.rules.proofs.Lists.{every_map}
use Rattle.rules.specs.Sound.{Sound}
use Rattle.rules.proofs.Economics.Chosen.{some-among}
use Rattle.rules.proofs.Economics.Outputs.{permitted-offered}
use Rattle.rules.specs.Offers.{Available}
use Rattle.rules.proofs.Economics.Allocations.{tied-given, choices_tied}
use Rattle.rules.proofs.Economics.Solvable.{given-allocation, offer-proper}
use Rattle.rules.proofs.Encoding.SoundFile.{units-sound}

each-available : (n : ℕ) (f : ℕ → Unit) → Every Sound (each n f) → ((i : ℕ) → i < n → (p : ℕ) × (permitted (f i) p ≡ true)) → Every (λ u. Available (offer u)) (each n f)
each-available zero f s h = tt
each-available (suc n) f s h =
    let (p, k) = h 0 (omega arith) in
    (record { proper = offer-proper (f 0) s.0; some = some-among p (offer (f 0)).outputs (permitted-offered (f 0) p k) }, each-available n (λ i. f (suc i)) s.1 (λ i l. h (suc i) (omega arith)))

pub choices-allocate : ChoicesAllocate
unfolding case_of problem_of
choices-allocate file accepted h m =
    let available = each-available (count file) (unit_at file) (units-sound file accepted) h in
    given-allocation (each (count file) (unit_at file)) (choices m (problem_in file))
    (tied-given m (problem_in file).offers (choices m (problem_in file)) (choices_tied m (problem_in file) ((every_map Available offer (each (count file) (unit_at file))).1 available)))
