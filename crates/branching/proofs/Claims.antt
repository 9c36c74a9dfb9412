-- What specs/Claims states, proved: within a room and a budget in range the call ends by the case's verdict, and the bytes that it writes spell what the search gives (`Refined`).
use Rattle.std.specs.Prelude.{Ok, Err}
use mathlib.Core.Path.{◌≡◌, refl, sym, ap, ◌∙◌}
use mathlib.Core.Bool.{Bool, true, false}
use mathlib.Core.List.{List}
use mathlib.Core.Logic.{◌↔◌, ◌⊎◌, inl, inr}
use Prim.Native.Nat.{ℕ, ◌+◌, ◌*◌, ◌≤◌, ◌<◌}
use native.Mathlib.Omega.{arith}
use lib.ListN.{length}
use borrow.Author.Tests.{lt-ltb, le-ltb}
use Rattle.rules.specs.Lists.{over, Every}
use Rattle.rules.specs.Layout.{case_of}
use Rattle.rules.specs.Refusal.{file_verdict, Verdict}
use Rattle.rules.specs.Problem.{problem_of, problem_in}
use Rattle.rules.specs.Bisection.{Reply, solvable, solve}
use Rattle.rules.specs.Calls.{DispatchResult, case_verdict, dispatch_verdict, dispatch_ends, dispatched}
use Rattle.rules.specs.Promise.{reply_in}
use Rattle.rules.specs.Sound.{Sound}
use Rattle.rules.specs.declared.Refusal.{Refusal}
use Rattle.rules.specs.declared.Refusal.TheVariants.{BufferTooShort, NoAllocation, BudgetOutOfRange}
use Rattle.rules.proofs.Verdicts.{accepts}
use Rattle.rules.proofs.Demand3.{allocation-length, case-accepted, reply-fits}
use Rattle.rules.proofs.Encoding.ReplyBytes.{length-reply, reply-spelled as dispatch-spelled}
use Rattle.rules.proofs.Encoding.SoundFile.{units-sound}
use Rattle.rules.proofs.Economics.Solvable.{unsolvable, case-proper}
use Rattle.rules.proofs.Economics.Solution.{permitted-given, covering-net, reply-promise}
use Rattle.branching.specs.Nodes.{RefinedReply, refined_reply}
use Rattle.branching.specs.Refining.{refined_bytes, refined_in, refine_verdict, refine_ends, refined}
use Rattle.branching.specs.Claims.{Asked, RoomThenBudget, LengthsInRange, RefinedPromise, Refines, RefinesAccepted, RefusesAsDispatch, FirstNodeIsDispatch, EachBudgetNoWorse, LargerBudgetNoWorse, EndedStaysSame}
use Rattle.branching.proofs.Enough.{units_in_range}
use Rattle.branching.proofs.ReplySpelled.{length-refined, reply-spelled}
use Rattle.branching.proofs.Refined.{promise, fits, no_worse, same_ended, as_dispatch, first-is}

-- ---- the room and then the budget are asked for before the file, whatever that is

module _ (file : List ℕ) (budget : ℕ) (reply : List ℕ) where
  pub room-refused : length reply < 94 → refined file budget reply ≡ record { answer = Err BufferTooShort; reply = reply }
  unfolding refined refine_verdict refine_ends
  room-refused h = rw (lt-ltb (length reply) 94 h) refl

  pub budget_refused : 94 ≤ length reply → (budget < 1) ⊎ (100000 < budget) → refined file budget reply ≡ record { answer = Err BudgetOutOfRange; reply = reply }
  unfolding refined refine_verdict refine_ends
  budget_refused h (inl k) = rw (le-ltb (length reply) 94 h, lt-ltb budget 1 k) refl
  budget_refused h (inr k) = rw (le-ltb (length reply) 94 h, le-ltb budget 1 (omega arith), lt-ltb 100000 budget k) refl

  ends-accepted : (v : Verdict) (n : ℕ) → (refine_ends v file budget reply).answer ≡ Ok n → v ≡ Ok tt
  unfolding refine_ends
  ends-accepted (Ok _) n e = refl
  ends-accepted (Err r) n e = absurd (let z : ◌≡◌ {A = ℕ} 0 1 = cc in omega arith)

  -- so a call that replies was in range
  pub replied-asked : (n : ℕ) → (refined file budget reply).answer ≡ Ok n → Asked budget reply
  unfolding refined refine_verdict
  replied-asked n e =
      let (room, ((least, most), accepted)) = simp accepts at (ends-accepted (refine_verdict file budget reply) n e) in
      record { room = room; least = least; most = most }

pub room_then_budget : RoomThenBudget
room_then_budget file budget reply = record { short = room-refused file budget reply; out_of_range = budget_refused file budget reply }

-- ---- a call in range ends by the case's verdict

module _ (file : List ℕ) (budget : ℕ) (reply : List ℕ) (asked : Asked budget reply) where
  pub by-case : refined file budget reply ≡ refine_ends (case_verdict file) file budget reply
  unfolding refined refine_verdict
  by-case = rw (le-ltb (length reply) 94 asked.room, le-ltb budget 1 asked.least, le-ltb 100000 budget asked.most)

  pub replied-accepted : (n : ℕ) → (refined file budget reply).answer ≡ Ok n → case_verdict file ≡ Ok tt
  replied-accepted n e = ends-accepted file budget reply (case_verdict file) n (sym (ap (λ (r : DispatchResult). r.answer) by-case) ∙ e)

  -- ---- of an accepted case

  module _ (accepted : case_verdict file ≡ Ok tt) where
    sound : Every Sound (case_of file).units
    sound = units-sound file (case-accepted file accepted).0

    solves : solvable (problem_in file) ≡ true
    solves = (case-accepted file accepted).1

    pub written : refined file budget reply ≡ (let out = refined_bytes (refined_reply budget (case_of file)) in record { answer = Ok (length out); reply = over out reply })
    unfolding refine_ends
    written = by-case ∙ ap (λ (v : Verdict). refine_ends v file budget reply) accepted

    -- what the reply spells
    pub spelled : refined_in (refined file budget reply).reply ≡ refined_reply budget (case_of file)
    spelled = ap (λ (r : DispatchResult). refined_in r.reply) written ∙ reply-spelled (refined_reply budget (case_of file)) (fits (case_of file) sound solves budget asked.least asked.most (units_in_range file (case-accepted file accepted).0).1) reply

    promised : RefinedPromise (case_of file) budget (refined_reply budget (case_of file))
    promised = promise (case_of file) sound solves budget asked.least

    pub replied-length : (refined file budget reply).answer ≡ Ok (30 + 2 * length (case_of file).units)
    replied-length =
        let r = refined_reply budget (case_of file) in
        ap (λ (x : DispatchResult). x.answer) written ∙ ap Ok (length-refined r ∙ ap (λ (n : ℕ). 30 + 2 * n) (allocation-length (case_of file).units r.outputs promised.permitted))

    refines_accepted_case : Refines file budget (refined file budget reply)
    refines_accepted_case =
        let p = promised in
        record {
          refuses = ((λ e. absurd (let f : Err NoAllocation ≡ Ok _ = sym e ∙ replied-length in let z : ◌≡◌ {A = ℕ} 0 1 = cc in omega arith)), λ none. absurd (none (refined_reply budget (case_of file)).outputs p.permitted p.covering));
          replies = λ _. replied-length;
          reply = λ _. rw spelled p;
        }

  -- ---- of an accepted file without an allocation

  refines_refused : file_verdict file ≡ Ok tt → solvable (problem_in file) ≡ false → Refines file budget (refined file budget reply)
  unfolding case_verdict refine_ends problem_of
  refines_refused accepted fails =
      let c = case_of file in
      let e : refined file budget reply ≡ record { answer = Err NoAllocation; reply = reply } = rw (by-case, accepted, fails) refl in
      rw e
      (record {
        refuses = ((λ _ ps a k. omega (arith, unsolvable (problem_of c) (case-proper c (units-sound file accepted)) fails ps (permitted-given c ps a), covering-net c ps k)), λ _. refl);
        replies = λ n. absurd (n refl);
        reply = λ n. absurd (n refl);
      })

pub refines_accepted : RefinesAccepted
unfolding case_verdict
refines_accepted file budget reply accepted asked = by (solvable (problem_in file)) refl
  where
    by : (b : Bool) → solvable (problem_in file) ≡ b → Refines file budget (refined file budget reply)
    by true e = refines_accepted_case file budget reply asked (rw (accepted, e) refl)
    by false e = refines_refused file budget reply asked accepted e

-- ---- as dispatch

-- both calls refuse with what the case is refused with
as_case : (v : Verdict) (file : List ℕ) (budget : ℕ) (reply other : List ℕ) (r : Refusal) → ((refine_ends v file budget reply).answer ≡ Err r) ↔ ((dispatch_ends v file other).answer ≡ Err r)
unfolding refine_ends dispatch_ends
as_case (Ok _) file budget reply other r = (λ e. absurd (let z : ◌≡◌ {A = ℕ} 0 1 = cc in omega arith), λ e. absurd (let z : ◌≡◌ {A = ℕ} 0 1 = cc in omega arith))
as_case (Err s) file budget reply other r = (λ e. e, λ e. e)

dispatched_by_case : (file other : List ℕ) → 92 ≤ length other → dispatched file other ≡ dispatch_ends (case_verdict file) file other
unfolding dispatched dispatch_verdict
dispatched_by_case file other long = rw (le-ltb (length other) 92 long)

pub refuses_as_dispatch : RefusesAsDispatch
refuses_as_dispatch file budget reply other asked long r = rw (by-case file budget reply asked, dispatched_by_case file other long) (as_case (case_verdict file) file budget reply other r)

pub first_node_is_dispatch : FirstNodeIsDispatch
unfolding dispatch_ends
first_node_is_dispatch file reply other n asked long e =
    let a = replied-accepted file 1 reply asked n e in
    let c = case_of file in
    let s = sound file 1 reply asked a in
    let solves = solves file 1 reply asked a in
    let ours : refined_in (refined file 1 reply).reply ≡ as_dispatch c s solves = spelled file 1 reply asked a ∙ first-is c s solves in
    let ended : dispatched file other ≡ dispatch_ends (Ok tt) file other = dispatched_by_case file other long ∙ ap (λ (v : Verdict). dispatch_ends v file other) a in
    let theirs : reply_in (dispatched file other).reply ≡ solve (problem_in file) = ap (λ (r : DispatchResult). reply_in r.reply) ended ∙ dispatch-spelled (solve (problem_in file)) (reply-fits c s (units_in_range file (case-accepted file a).0).1 solves) other in
    let spoken = length-reply (solve (problem_in file)) ∙ ap (λ (k : ℕ). 28 + 2 * k) (allocation-length c.units (solve (problem_in file)).outputs (reply-promise c s solves).permitted) in
    record {
      replied = ap (λ (r : DispatchResult). r.answer) ended ∙ ap Ok spoken;
      nodes = ap (λ (r : RefinedReply). r.nodes) ours;
      cost = ap (λ (r : RefinedReply). r.cost) ours ∙ sym (ap (λ (r : Reply). r.cost) theirs);
      gap = ap (λ (r : RefinedReply). r.gap) ours ∙ sym (ap (λ (r : Reply). r.gap) theirs);
      surplus = ap (λ (r : RefinedReply). r.surplus) ours ∙ sym (ap (λ (r : Reply). r.surplus) theirs);
      outputs = ap (λ (r : RefinedReply). r.outputs) ours ∙ sym (ap (λ (r : Reply). r.outputs) theirs);
    }

-- ---- two budgets

pub larger_budget_no_worse : LargerBudgetNoWorse
larger_budget_no_worse file budget larger reply other n asked asked' h e =
    let a = replied-accepted file budget reply asked n e in
    let both = no_worse (case_of file) (sound file budget reply asked a) (solves file budget reply asked a) budget larger h in
    let less = spelled file budget reply asked a in
    let more = spelled file larger other asked' a in
    record {
      replied = replied-length file larger other asked' a ∙ sym (replied-length file budget reply asked a);
      cost = rw (less, more) both.0;
      gap = rw (less, more) both.1;
    }

pub ended_stays_same : EndedStaysSame
ended_stays_same file budget larger reply n asked asked' h e fewer =
    let a = replied-accepted file budget reply asked n e in
    let fewer : (refined_reply budget (case_of file)).nodes < budget = rw (← spelled file budget reply asked a) fewer in
    let same = same_ended (case_of file) (sound file budget reply asked a) (solves file budget reply asked a) budget larger h fewer in
    written file larger reply asked' a ∙ ap (λ (r : RefinedReply). record { answer = Ok (length (refined_bytes r)); reply = over (refined_bytes r) reply }) same ∙ sym (written file budget reply asked a)

pub each_budget_no_worse : EachBudgetNoWorse
each_budget_no_worse file budget reply other n asked long e =
    let a = replied-accepted file budget reply asked n e in
    let one : Asked 1 reply = record { room = asked.room; least = omega arith; most = omega arith } in
    let first = replied-length file 1 reply one a in
    let alike = first_node_is_dispatch file reply other (30 + 2 * length (case_of file).units) one long first in
    let more = larger_budget_no_worse file 1 budget reply reply (30 + 2 * length (case_of file).units) one asked asked.least first in
    record { cost = omega (arith, more.cost, alike.cost); gap = omega (arith, more.gap, alike.gap) }

-- ---- in C: a length is 32 to 94, and a refusal's number is less (`Lengths.number_below_30`)

pub refined-length : LengthsInRange
refined-length file budget reply n e =
    let asked = replied-asked file budget reply n e in
    let a = replied-accepted file budget reply asked n e in
    let f : Ok n ≡ Ok (30 + 2 * length (case_of file).units) = sym e ∙ replied-length file budget reply asked a in
    let same : n ≡ 30 + 2 * length (case_of file).units = cc in
    omega (arith, same, units_in_range file (case-accepted file a).0)
