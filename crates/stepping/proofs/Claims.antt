-- What specs/Claims states, proved: where operations lead (`Course`), and what the search has there (`Progress`).
use Rattle.std.specs.Prelude.{Ok, Err, Result}
use Prim.Native.Nat.{ℕ, suc, ◌-◌, ◌*◌, min, ◌≤◌}
use native.Mathlib.Decide.{dec_le}
use native.Mathlib.Omega.{arith}
use mathlib.Core.Path.{◌≡◌, refl, sym, ap, ap₂, ◌∙◌, subst, subst⁻¹}
use mathlib.Core.Bool.{Bool, true, false, cond, true≢false}
use mathlib.Core.List.{List, [], ◌∷◌, ◌++◌}
use mathlib.Core.Logic.{◌↔◌}
use lib.Dec.{leb, eqb}
use lib.IntN.{ℤ, pos, ◌-ℤ◌}
use lib.ListN.{length, take, drop, replicate}
use lib.Seq.{take_at, take-append_seam}
use borrow.Author.Tests.{le-leb, lt-leb, le-ltb, eq-eqb}
use Rattle.fields.proofs.Integers.{ints, is_pos}
use Rattle.rules.specs.Numbers.{natural}
use Rattle.rules.specs.Layout.{case_of}
use Rattle.rules.specs.Problem.{Problem, total_cost, total_net, units_of, target, problem_in}
use Rattle.rules.specs.Choice.{floor, greatest_floor}
use Rattle.rules.specs.Bisection.{solvable, found, reply_of, solve}
use Rattle.rules.specs.Stages.{Standing}
use Rattle.rules.specs.Calls.{case_verdict, dispatch_verdict, dispatch_ends, dispatched}
use Rattle.rules.specs.Promise.{reply_in}
use Rattle.rules.specs.declared.Refusal.{Refusal}
use Rattle.rules.specs.declared.Refusal.TheVariants.{CaseChanged}
use Rattle.rules.specs.Refusal.{Verdict}
use Rattle.rules.proofs.Verdicts.{either_way}
use Rattle.rules.proofs.Demand3.{case-accepted, reply-fits}
use Rattle.rules.proofs.Encoding.ReplyBytes.{reply-spelled}
use Rattle.rules.proofs.Replied.{few-units}
use Rattle.rules.proofs.Economics.Solution.{same-cost, same-net, same_target, permitted-given, covering-net}
use Rattle.std.specs.Prelude.{Result, Ok, Err}
use Rattle.stepping.specs.declared.State.{State}
use Rattle.stepping.specs.declared.Asked.{Asked}
use Rattle.stepping.specs.Runs.{Run, run_in, numbers_of, flag, is_finished, begun, held, same, run_from, evaluated, StartResult, start_ends, started, AdvanceResult, advance_ends, advanced_by, asked, Operation, start, advance, ask, Answer, starts, advances, asks, Lent, answer_to, lent_after, answers_of, performed}
use Rattle.stepping.specs.Claims.{after_of, run_after, Course, none, since, start_turns, turned, course_of, StartsRefused, numbers_at, Stands, zeros, Follows, StartForgets, NotStarted, evaluations_of, reply_asked, Best, Moment, EachMoment, Improves, FinishedStays, AsksChangeNothing, AskChangesNothing, Keeps}
use Rattle.stepping.proofs.Gaps.{gap-less, gap-natural}
use Rattle.stepping.proofs.Comparing.{same-equal, equal-same, unequal_same}
use Rattle.stepping.proofs.Endings.{start-refused, ask-unstarted, ask-begun, advance-unstarted, advance-changed, advance-refused}
use Rattle.stepping.proofs.Course.{Known, unfinished-flag, advanced-on, followed, begins, sound, proper, permitted, best-length, count-is, floor-below}
use Rattle.stepping.proofs.Progress.{after_of_finished, after_of_not_finished, after_of_count_until, after_of_count_from, finished-best, finished-evaluated, finished-length, finished-floor, after_of_covers, after_of_cheaper, after_of_floor, so_far_evaluated, so_far_rises}

-- ---- of any numbers

by-begun : (t b : Bool) (v : Verdict) (numbers file : List ℕ) → (run_in numbers).finished ≡ 1 → (cond t (cond b (advance_ends v numbers file) (record { answer = Err CaseChanged; numbers = numbers })) (record { answer = Ok State.NotStarted; numbers = numbers })).numbers ≡ numbers
unfolding advance_ends
by-begun false b v numbers file e = refl
by-begun true false v numbers file e = refl
by-begun true true (Ok _) numbers file e = rw (eq-eqb (run_in numbers).finished 1 e)
by-begun true true (Err r) numbers file e = refl

pub finished-stays : FinishedStays
unfolding advanced_by
finished-stays numbers bytes file e = by-begun (begun (run_in numbers)) (same (held numbers bytes) file) (case_verdict file) numbers file e

pub asks_change_nothing : AsksChangeNothing
asks_change_nothing r [] = (refl, refl)
asks_change_nothing r (start file ∷ os) = let rest = asks_change_nothing (lent_after r (start file)) os in (ap (λ (xs : List Answer). answer_to r (start file) ∷ xs) rest.0, rest.1)
asks_change_nothing r (advance file ∷ os) = let rest = asks_change_nothing (lent_after r (advance file)) os in (ap (λ (xs : List Answer). answer_to r (advance file) ∷ xs) rest.0, rest.1)
asks_change_nothing r (ask ∷ os) = asks_change_nothing r os

answers-parts : (r : Lent) (os more : List Operation) → answers_of r (os ++ more) ≡ answers_of r os ++ answers_of (performed r os) more
answers-parts r [] more = refl
answers-parts r (o ∷ os) more = ap (λ (xs : List Answer). answer_to r o ∷ xs) (answers-parts (lent_after r o) os more)

performed-parts : (r : Lent) (os more : List Operation) → performed r (os ++ more) ≡ performed (performed r os) more
performed-parts r [] more = refl
performed-parts r (o ∷ os) more = performed-parts (lent_after r o) os more

pub ask_changes_nothing : AskChangesNothing
ask_changes_nothing r os more = (performed-parts r os (ask ∷ more) ∙ sym (performed-parts r os more), answers-parts r os more, answers-parts r os (ask ∷ more))

start-by : (v : Verdict) (numbers bytes file : List ℕ) (r : Refusal) → let s = start_ends v numbers bytes file in s.answer ≡ Err r → (v ≡ Err r) × (s.numbers ≡ numbers) × (s.bytes ≡ bytes)
unfolding start_ends
start-by (Ok _) numbers bytes file r e = absurd (let z : ◌≡◌ {A = ℕ} 0 1 = cc in omega arith)
start-by (Err x) numbers bytes file r e = (let z : x ≡ r = cc in ap Err z, refl, refl)

-- an advance of an accepted case tells where the run stands
abbrev states : Result State Refusal → ℕ
states (Ok State.Unfinished) = 1
states (Ok State.Finished) = 1
states (Ok State.NotStarted) = 0
states (Err r) = 0

tells : (b c : Bool) (before after : List ℕ) → let a : AdvanceResult = cond b (record { answer = Ok State.Finished; numbers = before }) (record { answer = Ok (cond c State.Finished State.Unfinished); numbers = after }) in states a.answer ≡ 1
tells true c before after = refl
tells false true before after = refl
tells false false before after = refl

accepted-tells : (numbers file : List ℕ) → states (advance_ends (Ok tt) numbers file).answer ≡ 1
unfolding advance_ends
accepted-tells numbers file = let next = evaluated (problem_in file) (run_in numbers) in tells (eqb (run_in numbers).finished 1) (eqb next.finished 1) numbers (numbers_of next)

-- what is refused of the file, and what leaves the numbers
ends-refused : (v : Verdict) (numbers file : List ℕ) (r : Refusal) → (advance_ends v numbers file).answer ≡ Err r → (v ≡ Err r) × ((advance_ends v numbers file).numbers ≡ numbers)
unfolding advance_ends
ends-refused (Ok _) numbers file r e = absurd (omega (arith, accepted-tells numbers file, ap states e))
ends-refused (Err x) numbers file r e = (let z : x ≡ r = cc in ap Err z, refl)

ends-started : (v : Verdict) (numbers file : List ℕ) → (advance_ends v numbers file).answer ≡ Ok State.NotStarted → ⊥
unfolding advance_ends
ends-started (Ok _) numbers file e = omega (arith, accepted-tells numbers file, ap states e)
ends-started (Err x) numbers file e = let z : ◌≡◌ {A = ℕ} 0 1 = cc in omega arith

advance-kept : (t b : Bool) (v : Verdict) (numbers file : List ℕ) (r : Refusal) → let a = cond t (cond b (advance_ends v numbers file) (record { answer = Err CaseChanged; numbers = numbers })) (record { answer = Ok State.NotStarted; numbers = numbers }) in a.answer ≡ Err r → a.numbers ≡ numbers
advance-kept false b v numbers file r e = refl
advance-kept true false v numbers file r e = refl
advance-kept true true v numbers file r e = (ends-refused v numbers file r e).1

unstarted-kept : (t b : Bool) (v : Verdict) (numbers file : List ℕ) → let a = cond t (cond b (advance_ends v numbers file) (record { answer = Err CaseChanged; numbers = numbers })) (record { answer = Ok State.NotStarted; numbers = numbers }) in a.answer ≡ Ok State.NotStarted → a.numbers ≡ numbers
unstarted-kept false b v numbers file e = refl
unstarted-kept true false v numbers file e = refl
unstarted-kept true true v numbers file e = absurd (ends-started v numbers file e)

as_case : (v : Verdict) (numbers bytes file reply : List ℕ) (r : Refusal) → ((start_ends v numbers bytes file).answer ≡ Err r) ↔ ((dispatch_ends v file reply).answer ≡ Err r)
unfolding start_ends dispatch_ends
as_case (Ok _) numbers bytes file reply r = (λ e. absurd (let z : ◌≡◌ {A = ℕ} 0 1 = cc in omega arith), λ e. absurd (let z : ◌≡◌ {A = ℕ} 0 1 = cc in omega arith))
as_case (Err x) numbers bytes file reply r = (λ e. let z : x ≡ r = cc in rw z refl, λ e. let z : x ≡ r = cc in rw z refl)

-- with the bytes that are held, an advance is refused as a start is
by-verdict : (numbers bytes file : List ℕ) → begun (run_in numbers) ≡ true → held numbers bytes ≡ file → advanced_by numbers bytes file ≡ advance_ends (case_verdict file) numbers file
unfolding advanced_by
by-verdict numbers bytes file b e = rw (b, equal-same (held numbers bytes) file e)

as_start_lem : (numbers bytes file : List ℕ) → begun (run_in numbers) ≡ true → held numbers bytes ≡ file → (r : Refusal) → ((advanced_by numbers bytes file).answer ≡ Err r) ↔ ((started numbers bytes file).answer ≡ Err r)
unfolding started
as_start_lem numbers bytes file b e r = (
  λ z. ap (λ (x : StartResult). x.answer) (start-refused numbers bytes file r (ends-refused (case_verdict file) numbers file r (sym (ap (λ (x : AdvanceResult). x.answer) (by-verdict numbers bytes file b e)) ∙ z)).0),
  λ z. ap (λ (x : AdvanceResult). x.answer) (advance-refused numbers bytes file b (equal-same (held numbers bytes) file e) r (start-by (case_verdict file) numbers bytes file r z).0),
)

pub keeps : Keeps
unfolding started advanced_by dispatched dispatch_verdict
keeps numbers bytes file =
    record {
      start = λ r e. let s = start-by (case_verdict file) numbers bytes file r e in (s.1, s.2);
      advance = λ r e. advance-kept (begun (run_in numbers)) (same (held numbers bytes) file) (case_verdict file) numbers file r e;
      unstarted = λ e. unstarted-kept (begun (run_in numbers)) (same (held numbers bytes) file) (case_verdict file) numbers file e;
      as_dispatch = λ reply long r. rw (le-ltb (length reply) 92 long) (as_case (case_verdict file) numbers bytes file reply r);
      changed = λ b n. advance-changed numbers bytes file b (unequal_same (held numbers bytes) file n);
      as_start = λ b e r. as_start_lem numbers bytes file b e r;
    }

-- ---- from a run of zeros

pub follows : Follows
follows bytes os = (followed none tt (zeros bytes) (record { numbers = refl; file = refl }) os).0

-- two runs that hold one file and have the same numbers answer alike
record Alike (r s : Lent) : Type 0 where
  pub numbers : r.numbers ≡ s.numbers
  pub file : held r.numbers r.bytes ≡ held s.numbers s.bytes

-- so do two starts, and leave such runs
abbrev StartsAlike : Verdict → List ℕ → Lent → Lent → Type 0
StartsAlike v file r s = let x = start_ends v r.numbers r.bytes file in let y = start_ends v s.numbers s.bytes file in (x.answer ≡ y.answer) × Alike (record { numbers = x.numbers; bytes = x.bytes }) (record { numbers = y.numbers; bytes = y.bytes })

accepted-alike : (v : Verdict) → v ≡ Ok tt → (file : List ℕ) (r s : Lent) → StartsAlike v file r s
unfolding start_ends run_from
accepted-alike (Ok _) e file r s = (refl, record { numbers = refl; file = take-append_seam file (drop (length file) r.bytes) ∙ sym (take-append_seam file (drop (length file) s.bytes)) })
accepted-alike (Err x) e file r s = absurd (let z : ◌≡◌ {A = ℕ} 0 1 = cc in omega arith)

started-alike : (v : Verdict) (file : List ℕ) (r s : Lent) → Alike r s → StartsAlike v file r s
unfolding start_ends
started-alike (Ok _) file r s a = accepted-alike (Ok tt) refl file r s
started-alike (Err x) file r s a = (refl, a)

advance-alike : (file : List ℕ) (r s : Lent) → Alike r s → advanced_by r.numbers r.bytes file ≡ advanced_by s.numbers s.bytes file
unfolding advanced_by
advance-alike file r s a = ap₂ (λ (n h : List ℕ). cond (begun (run_in n)) (cond (same h file) (advance_ends (case_verdict file) n file) (record { answer = Err CaseChanged; numbers = n })) (record { answer = Ok State.NotStarted; numbers = n })) a.numbers a.file

-- an advance leaves the length, and so what is held
ends-length : (v : Verdict) (n file : List ℕ) → (run_in (advance_ends v n file).numbers).length ≡ (run_in n).length
unfolding advance_ends evaluated
ends-length (Ok _) n file = either_way (λ (x : AdvanceResult). (run_in x.numbers).length ≡ (run_in n).length) (eqb (run_in n).finished 1) (λ _. refl) (λ _. refl)
ends-length (Err r) n file = refl

kept-length : (n bytes file : List ℕ) → (run_in (advanced_by n bytes file).numbers).length ≡ (run_in n).length
unfolding advanced_by
kept-length n bytes file = either_way (λ (x : AdvanceResult). (run_in x.numbers).length ≡ (run_in n).length) (begun (run_in n)) (λ _. either_way (λ (x : AdvanceResult). (run_in x.numbers).length ≡ (run_in n).length) (same (held n bytes) file) (λ _. ends-length (case_verdict file) n file) (λ _. refl)) (λ _. refl)

alike-after : (r s : Lent) → Alike r s → (o : Operation) → (answer_to r o ≡ answer_to s o) × Alike (lent_after r o) (lent_after s o)
unfolding started
alike-after r s a (start file) = let x = started-alike (case_verdict file) file r s a in (ap starts x.0, x.1)
alike-after r s a (advance file) =
    let e = advance-alike file r s a in
    (ap (λ (x : AdvanceResult). advances x.answer) e, record { numbers = ap (λ (x : AdvanceResult). x.numbers) e; file = ap (λ (l : ℕ). take l r.bytes) (kept-length r.numbers r.bytes file) ∙ a.file ∙ ap (λ (l : ℕ). take l s.bytes) (sym (kept-length s.numbers s.bytes file)) })
alike-after r s a ask = (ap (λ (n : List ℕ). asks (asked n)) a.numbers, a)

alike-on : (r s : Lent) → Alike r s → (os : List Operation) → ((performed r os).numbers ≡ (performed s os).numbers) × (answers_of r os ≡ answers_of s os)
alike-on r s a [] = (a.numbers, refl)
alike-on r s a (o ∷ os) =
    let one = alike-after r s a o in
    let rest = alike-on (lent_after r o) (lent_after s o) one.1 os in
    (rest.0, ap₂ (λ (x : Answer) (xs : List Answer). x ∷ xs) one.0 rest.1)

pub start_forgets : StartForgets
unfolding started
start_forgets r s file a os =
    let one = accepted-alike (case_verdict file) a file r s in
    let rest = alike-on (lent_after r (start file)) (lent_after s (start file)) one.1 os in
    (rest.0, ap₂ (λ (x : Answer) (xs : List Answer). x ∷ xs) (ap starts one.0) rest.1)

-- until a start is accepted
kept_by : (v : Verdict) (r : Lent) (file : List ℕ) → (v ≡ Ok tt → ⊥) → let s = start_ends v r.numbers r.bytes file in record { numbers = s.numbers; bytes = s.bytes } ≡ r
unfolding start_ends
kept_by (Ok _) r file h = absurd (h refl)
kept_by (Err x) r file h = refl

start-kept : (r : Lent) (file : List ℕ) → (case_verdict file ≡ Ok tt → ⊥) → lent_after r (start file) ≡ r
unfolding started
start-kept r file h = kept_by (case_verdict file) r file h

unstarted-on : (r : Lent) → begun (run_in r.numbers) ≡ false → (os : List Operation) → StartsRefused os → performed r os ≡ r
unstarted-on r n [] z = refl
unstarted-on r n (start file ∷ os) z = ap (λ (x : Lent). performed x os) (start-kept r file z.0) ∙ unstarted-on r n os z.1
unstarted-on r n (advance file ∷ os) z = ap (λ (x : AdvanceResult). performed (record { numbers = x.numbers; bytes = r.bytes }) os) (advance-unstarted r.numbers r.bytes file n) ∙ unstarted-on r n os z
unstarted-on r n (ask ∷ os) z = unstarted-on r n os z

pub not-started : NotStarted
not-started r n os z = (unstarted-on r n os z, λ file. ap (λ (x : AdvanceResult). x.answer) (advance-unstarted r.numbers r.bytes file n), ap (λ (x : Asked). x.state) (ask-unstarted r.numbers n))

-- ---- k advances after the start of a file

module _ (file : List ℕ) (a : case_verdict file ≡ Ok tt) where
  abbrev q : Problem
  q = problem_in file

  ok : solvable q ≡ true
  ok = (case-accepted file a).1

  module _ (k : ℕ) where
    abbrev s : Standing (List ℕ)
    s = after_of q k

    abbrev run : Run
    run = run_after file k

    ended : {A : Type 0} (x y : A) → cond (eqb (flag (is_finished s.stage)) 1) x y ≡ cond (leb (evaluations_of file) k) x y
    ended x y = by (dec_le (evaluations_of file) k)
      where
        by : Dec (evaluations_of file ≤ k) → cond (eqb (flag (is_finished s.stage)) 1) x y ≡ cond (leb (evaluations_of file) k) x y
        by (yes h) = rw (after_of_finished q k h, le-leb (evaluations_of file) k h)
        by (no h) = rw (unfinished-flag s.stage (after_of_not_finished q k (omega arith)), lt-leb (evaluations_of file) k (omega arith))

    shown : asked (numbers_of run) ≡ record { state = cond (eqb run.finished 1) State.Finished State.Unfinished; count = run.count; evaluations = run.evaluations; cost = run.cost; gap = run.cost - run.floor; surplus = run.surplus; outputs = run.outputs }
    shown = ask-begun (numbers_of run) (begins file a k)

    counted : length s.evaluated ≡ min k (evaluations_of file)
    counted = by (dec_le (evaluations_of file) k)
      where
        by : Dec (evaluations_of file ≤ k) → length s.evaluated ≡ min k (evaluations_of file)
        by (yes h) = omega (arith, after_of_count_from q k h)
        by (no h) = omega (arith, after_of_count_until q k (omega arith))

    outputs_are : take run.count run.outputs ≡ s.best
    outputs_are = take_at s.best (drop (length s.best) (replicate 32 0)) run.count (best-length file a k ∙ sym (count-is file a))

    -- what the ask spells
    spelled : reply_asked (asked (numbers_of run)) ≡ record { evaluations = length s.evaluated; cost = total_cost (units_of q) s.best; gap = run.cost - run.floor; surplus = run.surplus; outputs = s.best }
    spelled = rw (shown, outputs_are)

    bests : Best (case_of file) (record { evaluations = length s.evaluated; cost = total_cost (units_of q) s.best; gap = run.cost - run.floor; surplus = run.surplus; outputs = s.best })
    bests =
        let covers = after_of_covers q (proper file a) ok k in
        record {
          permitted = permitted file a k;
          covering = le-leb (100000000 * (case_of file).demand) (total_net (case_of file).units s.best) (omega (arith, covers, same-net (case_of file) s.best, same_target (case_of file)));
          cost = same-cost (case_of file) s.best;
          surplus = omega (arith, covers, same-net (case_of file) s.best, same_target (case_of file));
          nobody_spends_less = λ ps p c. rw (gap-less run.cost run.floor (floor-below file a k)) (omega (arith, ints, is_pos run.floor, is_pos (total_cost (case_of file).units ps), after_of_floor q (proper file a) ok k ps (permitted-given (case_of file) ps p) (covering-net (case_of file) ps c), same-cost (case_of file) ps));
        }

    -- finished, it is the reply
    floors-from : 1 ≤ k → pos run.floor ≡ greatest_floor q s.evaluated
    floors-from h = so_far_evaluated q (proper file a) ok k h

    is-reply : evaluations_of file ≤ k → record { evaluations = length s.evaluated; cost = total_cost (units_of q) s.best; gap = run.cost - run.floor; surplus = run.surplus; outputs = s.best } ≡ solve q
    unfolding solve reply_of
    is-reply h =
        let e = after_of_finished q k h in
        let best = finished-best q k e in
        let floors : pos run.floor ≡ greatest_floor q (found q).evaluated = finished-floor q (proper file a) ok k e in
        λ i.
        record {
          evaluations = finished-length q k e i;
          cost = total_cost (units_of q) (best i);
          gap = (sym (gap-natural run.cost run.floor) ∙ ap₂ (λ (x : List ℕ) (z : ℤ). natural (pos (total_cost (units_of q) x) -ℤ z)) best floors) i;
          surplus = total_net (units_of q) (best i) - target q;
          outputs = best i;
        }

  -- the reply's bytes spell it
  replied : (reply : List ℕ) → 92 ≤ length reply → reply_in (dispatched file reply).reply ≡ solve q
  unfolding dispatched dispatch_verdict dispatch_ends
  replied reply long = rw (le-ltb (length reply) 92 long, a) (reply-spelled (solve q) (reply-fits (case_of file) (sound file a) (few-units file a) ok) reply)

  -- an advance is refused exactly where the bytes differ, and then with 24
  module _ (k : ℕ) (bytes : List ℕ) (h : held (numbers_of (run_after file k)) bytes ≡ file) (other : List ℕ) (x : Refusal) where
    abbrev numbers : List ℕ
    numbers = numbers_of (run_after file k)

    told-states : (b : Bool) → states (Ok (cond b State.Finished State.Unfinished)) ≡ 1
    told-states true = refl
    told-states false = refl

    only : (t : Bool) → same (held numbers bytes) other ≡ t → (advanced_by numbers bytes other).answer ≡ Err x → (x ≡ CaseChanged) × (other ≡ file → ⊥)
    only true e z =
        let e₁ : file ≡ other = sym h ∙ same-equal (held numbers bytes) other e in
        let on : (advanced_by numbers bytes other).answer ≡ Ok (cond (eqb (run_after file (suc k)).finished 1) State.Finished State.Unfinished) = ap (λ (o : List ℕ). (advanced_by numbers bytes o).answer) (sym e₁) ∙ ap (λ (r : AdvanceResult). r.answer) (advanced-on file a k bytes (equal-same (held numbers bytes) file h)) in
        absurd (omega (arith, told-states (eqb (run_after file (suc k)).finished 1), ap states (sym on ∙ z)))
    only false e z =
        let c : ◌≡◌ {A = Result State Refusal} (Err CaseChanged) (Err x) = sym (ap (λ (r : AdvanceResult). r.answer) (advance-changed numbers bytes other (begins file a k) e)) ∙ z in
        (let y : CaseChanged ≡ x = cc in sym y, λ w. true≢false (sym (equal-same (held numbers bytes) other (h ∙ sym w)) ∙ e))

    refused_exactly : ((advanced_by numbers bytes other).answer ≡ Err x) ↔ ((x ≡ CaseChanged) × (other ≡ file → ⊥))
    refused_exactly = (
      only (same (held numbers bytes) other) refl,
      λ p. ap (λ (r : AdvanceResult). r.answer) (advance-changed numbers bytes other (begins file a k) (unequal_same (held numbers bytes) other (λ e. p.1 (sym e ∙ h)))) ∙ (λ i. Err (sym p.0 i)),
    )

  pub moment : (k : ℕ) (bytes : List ℕ) → held (numbers_of (run_after file k)) bytes ≡ file → Moment file k (record { numbers = numbers_of (run_after file k); bytes = bytes })
  moment k bytes h =
      record {
        refused = λ other x. refused_exactly k bytes h other x;
        state = ap (λ (x : Asked). x.state) (shown k) ∙ ended k State.Finished State.Unfinished;
        told = ap (λ (x : AdvanceResult). x.answer) (advanced-on file a k bytes (equal-same _ file h)) ∙ (λ i. Ok (ended (suc k) State.Finished State.Unfinished i));
        evaluations = ap (λ (x : Asked). x.evaluations) (shown k) ∙ counted k;
        multipliers = λ h. finished-evaluated q k (after_of_finished q k h);
        count = ap (λ (x : Asked). x.count) (shown k) ∙ count-is file a;
        fits = begins file a k;
        gap = rw (shown k) (omega (arith, floor-below file a k));
        greatest = floors-from k;
        best = subst⁻¹ (Best (case_of file)) (spelled k) (bests k);
        equal = λ h reply long. spelled k ∙ is-reply k h ∙ sym (replied reply long);
      }

pub each-moment : EachMoment
each-moment bytes os file k e =
    let there = followed none tt (zeros bytes) (record { numbers = refl; file = refl }) os in
    let known : case_verdict file ≡ Ok tt = subst Known e there.1 in
    let stands : Stands (since file k) (performed (zeros bytes) os) = subst (λ (c : Course). Stands c (performed (zeros bytes) os)) e there.0 in
    let r = performed (zeros bytes) os in
    let m = moment file known k r.bytes (ap (λ (n : List ℕ). held n r.bytes) (sym stands.numbers) ∙ stands.file) in
    subst⁻¹ (λ (n : List ℕ). Moment file k (record { numbers = n; bytes = r.bytes })) stands.numbers m

-- ---- between two accepted starts

abbrev Improved : List ℕ → List ℕ → Type 0
Improved before after = ((run_in after).cost ≤ (run_in before).cost) × ((run_in before).floor ≤ (run_in after).floor)

improved_more : (x y z : List ℕ) → Improved x y → Improved y z → Improved x z
improved_more x y z p r = (omega (arith, p.0, r.0), omega (arith, p.1, r.1))

refused-turn : (v : Verdict) (f : List ℕ) (c : Course) → (v ≡ Ok tt → ⊥) → start_turns v f c ≡ c
refused-turn (Ok _) f c h = absurd (h refl)
refused-turn (Err r) f c h = refl

advance-improves : (t : Bool) (file : List ℕ) (k : ℕ) → case_verdict file ≡ Ok tt → let c = cond t (since file (suc k)) (since file k) in Improved (numbers_at (since file k)) (numbers_at c) × Known c
advance-improves true file k h = ((after_of_cheaper (problem_in file) (proper file h) (case-accepted file h).1 k, so_far_rises (problem_in file) (λ m. floor m (problem_in file)) k), h)
advance-improves false file k h = ((omega arith, omega arith), h)

course_improves : (c : Course) → Known c → (os : List Operation) → StartsRefused os → Improved (numbers_at c) (numbers_at (course_of c os))
course_improves c h [] r = (omega arith, omega arith)
course_improves c h (start f ∷ os) r = subst⁻¹ (λ (d : Course). Improved (numbers_at c) (numbers_at (course_of d os))) (refused-turn (case_verdict f) f c r.0) (course_improves c h os r.1)
course_improves none h (advance f ∷ os) r = course_improves none h os r
course_improves (since file k) h (advance f ∷ os) r =
    let c = turned (since file k) (advance f) in
    let one = advance-improves (same file f) file k h in
    improved_more (numbers_at (since file k)) (numbers_at c) (numbers_at (course_of c os)) one.0 (course_improves c one.1 os r)
course_improves none h (ask ∷ os) r = course_improves none h os r
course_improves (since file k) h (ask ∷ os) r = course_improves (since file k) h os r

-- a list in two parts
course_parts : (c : Course) (os more : List Operation) → course_of c (os ++ more) ≡ course_of (course_of c os) more
course_parts c [] more = refl
course_parts c (o ∷ os) more = course_parts (turned c o) os more

pub improves : Improves
improves bytes os more r =
    let there = followed none tt (zeros bytes) (record { numbers = refl; file = refl }) os in
    let later : (performed (zeros bytes) (os ++ more)).numbers ≡ numbers_at (course_of (course_of none os) more) = (follows bytes (os ++ more)).numbers ∙ ap numbers_at (course_parts none os more) in
    rw (there.0.numbers, later) (course_improves (course_of none os) there.1 more r)
