-- Demand 3 of the rules, from the file's bytes to the reply's: `Demand3 dispatched`.
use Rattle.std.specs.Prelude.{Ok, Err}
use mathlib.Core.Path.{◌≡◌, refl, sym, ap, ◌∙◌}
use mathlib.Core.Bool.{Bool, true, false, not, true≢false}
use mathlib.Core.List.{List, [], ◌∷◌}
use Prim.Native.Nat.{ℕ, suc, ◌+◌, ◌*◌, ◌≤◌, ◌<◌}
use native.Mathlib.Omega.{arith}
use lib.ListN.{length}
use borrow.Author.Tests.{le-ltb}
use Rattle.rules.specs.Lists.{over, Every}
use Rattle.rules.specs.Unit.{Unit, permitted}
use Rattle.rules.specs.Layout.{Case, case_of}
use Rattle.rules.specs.Refusal.{◌refuses◌, file_verdict}
use Rattle.rules.specs.Problem.{allocation, problem_of, problem_in}
use Rattle.rules.specs.Bisection.{solvable, solve}
use Rattle.rules.specs.Calls.{reply_bytes, case_verdict, dispatch_verdict, dispatch_ends, dispatched}
use Rattle.rules.specs.Promise.{Promise, Demand3}
use Rattle.rules.specs.declared.Refusal.TheVariants.{NoAllocation}
use Rattle.rules.proofs.Lists.{every_more, length-each}
use Rattle.rules.proofs.Verdicts.{and-true, accepts}
use Rattle.fields.proofs.Integers.{ints, is_pos, is_minus}
use Rattle.rules.specs.Sound.{Sound}
use Rattle.rules.proofs.Encoding.SoundFile.{sound-file, units-sound}
use Rattle.rules.proofs.Encoding.ReplyBytes.{Fitting, length-reply, reply-spelled}
use Rattle.rules.proofs.Economics.Outputs.{permitted-greatest}
use Rattle.rules.proofs.Economics.Totals.{total_cost_range, total_net_range}
use Rattle.rules.proofs.Economics.Solvable.{unsolvable, case-proper}
use Rattle.rules.proofs.Economics.Solution.{reply-promise, floor_not_negative, permitted-given, covering-net}

-- ---- an allocation has an output for each unit, none above 10,000

pub allocation-length : (us : List Unit) (ps : List ℕ) → allocation us ps ≡ true → length ps ≡ length us
unfolding allocation
allocation-length [] [] e = refl
allocation-length [] (p ∷ ps) e = absurd (true≢false (sym e))
allocation-length (u ∷ us) [] e = absurd (true≢false (sym e))
allocation-length (u ∷ us) (p ∷ ps) e = ap suc (allocation-length us ps ((and-true (permitted u p) (allocation us ps)).0 e).1)

pub allocation-small : (us : List Unit) (ps : List ℕ) → Every Sound us → allocation us ps ≡ true → Every (λ p. p ≤ 10000) ps
unfolding allocation
allocation-small [] [] s e = tt
allocation-small [] (p ∷ ps) s e = absurd (true≢false (sym e))
allocation-small (u ∷ us) [] s e = absurd (true≢false (sym e))
allocation-small (u ∷ us) (p ∷ ps) s e =
    let both = (and-true (permitted u p) (allocation us ps)).0 e in
    (omega (arith, permitted-greatest u p both.0, s.0.greatest), allocation-small us ps s.1 both.1)

-- ---- every number of the reply fits its field

module _ (c : Case) (s : Every Sound c.units) (few : length c.units ≤ 32) (solves : solvable (problem_of c) ≡ true) where
  pub reply-count : length (solve (problem_of c)).outputs ≡ length c.units
  reply-count = allocation-length c.units (solve (problem_of c)).outputs (reply-promise c s solves).permitted

  pub reply-fits : Fitting (solve (problem_of c))
  reply-fits =
      let r = solve (problem_of c) in
      let p = reply-promise c s solves in
      let small = allocation-small c.units r.outputs s p.permitted in
      record {
        count = omega (arith, reply-count);
        second = omega (arith, p.at_most_18);
        cost = omega (arith, p.cost, total_cost_range c.units r.outputs s small);
        gap = omega (arith, ints, p.cost, total_cost_range c.units r.outputs s small, floor_not_negative (problem_of c) (case-proper c s) solves, is_minus (is_pos r.cost) (is_pos r.gap), is_pos 0);
        surplus = omega (arith, p.surplus, total_net_range c.units r.outputs s small);
        outputs = every_more (λ n. n ≤ 10000) (λ n. n < 65536) (λ n h. omega arith) r.outputs small;
      }

-- ---- what an accepted case is

pub case-accepted : (file : List ℕ) → case_verdict file ≡ Ok tt → (file_verdict file ≡ Ok tt) × (solvable (problem_in file) ≡ true)
unfolding case_verdict
case-accepted file e = simp accepts at e

-- ---- dispatch of an accepted file, by whether step 1 accepts

module _ (file reply : List ℕ) (accepted : file_verdict file ≡ Ok tt) (long : 92 ≤ length reply) where
  -- the verdict is step 1's
  verdict-is : dispatch_verdict file reply ≡ (not (solvable (problem_of (case_of file))) refuses NoAllocation)
  unfolding dispatch_verdict case_verdict
  verdict-is = rw (le-ltb (length reply) 92 long, accepted)

  few : length (case_of file).units ≤ 32
  unfolding case_of
  few = rw length-each ((sound-file file).0 accepted).head.count-greatest

  module _ (solves : solvable (problem_of (case_of file)) ≡ true) where
    out : List ℕ
    out = reply_bytes (solve (problem_of (case_of file)))

    replied : dispatched file reply ≡ record { answer = Ok (length out); reply = over out reply }
    unfolding dispatched dispatch_ends out
    replied = rw (verdict-is, solves)

    length-out : length out ≡ 28 + 2 * length (case_of file).units
    unfolding out
    length-out = length-reply (solve (problem_of (case_of file))) ∙ ap (λ (n : ℕ). 28 + 2 * n) (reply-count (case_of file) (units-sound file accepted) few solves)

    promise-replied : Promise file (dispatched file reply)
    unfolding out
    promise-replied =
        let c = case_of file in
        let p = reply-promise c (units-sound file accepted) solves in
        let spelled = reply-spelled (solve (problem_of c)) (reply-fits c (units-sound file accepted) few solves) reply in
        rw replied
        (record {
          refuses = ((λ e. absurd (let z : ◌≡◌ {A = ℕ} 0 1 = cc in omega arith)), λ none. absurd (none (solve (problem_of c)).outputs p.permitted p.covering));
          replies = λ _. ap Ok length-out;
          reply = λ _. rw spelled p;
        })

  module _ (fails : solvable (problem_of (case_of file)) ≡ false) where
    refused : dispatched file reply ≡ record { answer = Err NoAllocation; reply = reply }
    unfolding dispatched dispatch_ends
    refused = rw (verdict-is, fails)

    promise-refused : Promise file (dispatched file reply)
    unfolding problem_of
    promise-refused =
        let c = case_of file in
        rw refused
        (record {
          refuses = ((λ _ ps a k. omega (arith, unsolvable (problem_of c) (case-proper c (units-sound file accepted)) fails ps (permitted-given c ps a), covering-net c ps k)), λ _. refl);
          replies = λ n. absurd (n refl);
          reply = λ n. absurd (n refl);
        })

  by : (t : Bool) → solvable (problem_of (case_of file)) ≡ t → Promise file (dispatched file reply)
  by true e = promise-replied e
  by false e = promise-refused e

pub demand3 : Demand3 dispatched
demand3 file reply accepted long = by file reply accepted long (solvable (problem_of (case_of file))) refl
