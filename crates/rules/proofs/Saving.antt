-- Lowering, of accepted files: the laws of `Economics/Lowering` for their problems; and no choices that cover are cheaper than the reply, since what is selected costs no more than they do.
use Rattle.std.specs.Prelude.{Ok}
use Prim.Native.Nat.{ℕ, ◌*◌}
use native.Mathlib.Omega.{arith}
use mathlib.Core.Path.{◌≡◌}
use mathlib.Core.List.{List}
use borrow.Author.Tests.{le-leb}
use Rattle.rules.specs.Layout.{case_of}
use Rattle.rules.specs.Problem.{total_net, problem_in}
use Rattle.rules.specs.Choice.{choices, selected}
use Rattle.rules.specs.Calls.{case_verdict, dispatched}
use Rattle.rules.specs.Promise.{Covering}
use Rattle.rules.specs.Lowering.{LoweringSaves, LowersInFileOrder, LowersFurtherWithMoreToSpare, ChoicesNotCheaper}
use Rattle.rules.specs.Lists.{Every}
use Rattle.rules.specs.Offers.{Available}
use Rattle.rules.proofs.Economics.Allocations.{tied-given, choices_tied}
use Rattle.rules.proofs.Economics.Lowering.{saves, in_file_order, more_slack}
use Rattle.rules.proofs.Economics.Solvable.{solvable-available, case-proper}
use Rattle.rules.proofs.Economics.Solution.{same-cost, same-net, same_target, covering-net, given-permitted}
use Rattle.rules.proofs.Encoding.SoundFile.{units-sound}
use Rattle.rules.proofs.Demand3.{case-accepted, demand3}

available : (file : List ℕ) → case_verdict file ≡ Ok tt → Every Available (problem_in file).offers
available file e =
    let (accepted, solves) = case-accepted file e in
    solvable-available (problem_in file) (case-proper (case_of file) (units-sound file accepted)) solves

pub lowering_saves : LoweringSaves
lowering_saves file e = saves (problem_in file) (available file e)

pub lowers_in_order : LowersInFileOrder
lowers_in_order file e = in_file_order (problem_in file) (available file e)

pub lowers-further : LowersFurtherWithMoreToSpare
lowers-further file e = more_slack (problem_in file) (available file e)

pub choices_not_cheaper : ChoicesNotCheaper dispatched
choices_not_cheaper file reply e long m few h =
    let c = case_of file in
    let q = problem_in file in
    let g = available file e in
    let promise = demand3 file reply (case-accepted file e).0 long in
    let permitted = given-permitted c (choices m q) (tied-given m q.offers (choices m q) (choices_tied m q g)) in
    let kept = promise.reply (λ refused. promise.refuses.0 refused (choices m q) permitted h) in
    let s = saves q g m in
    let covering : Covering c (selected m q) = le-leb (100000000 * c.demand) (total_net c.units (selected m q)) (omega (arith, s.covers.1 (covering-net c (choices m q) h), same-net c (selected m q), same_target c)) in
    omega (arith, kept.cheapest m few covering, s.cost, same-cost c (selected m q), same-cost c (choices m q))
