-- Laws of the view's definition, case by case: what a reply of the right form is, what the call answers, and what the answer to a request is.
use Rattle.std.specs.Prelude.{Ok, Err}
use mathlib.Core.Path.{◌≡◌, refl, sym, ap, ◌∙◌}
use mathlib.Core.Bool.{Bool, true, false, cond, not, ◌||◌}
use mathlib.Core.List.{List}
use Prim.Native.Nat.{ℕ, ◌+◌, ◌*◌, ◌/◌, ◌-◌, ◌≤◌, ◌<◌}
use native.Mathlib.Omega.{arith}
use borrow.Author.Tests.{lt-ltb, le-ltb, eq-eqb, ne_eqb, eqb-true, ltb-false}
use lib.Dec.{eqb, ltb}
use lib.IntN.{ℤ}
use lib.ListN.{length, drop, length-take, length-drop}
use lib.Seq.{length-take-le}
use Rattle.rules.specs.Lists.{over}
use Rattle.rules.specs.Refusal.{number_of, Verdict}
use Rattle.rules.specs.declared.Refusal.{Refusal}
use Rattle.rules.specs.declared.Refusal.TheVariants.{BufferTooShort, ReplyMalformed, RequestLengthInvalid, AnswerTooShort}
use Rattle.rules.proofs.Verdicts.{accepts}
use Rattle.std.specs.Prelude.{Option, Some, None, Ok, Err}
use Rattle.modbus.specs.View.{Request, request_of, units, values, exception_to, exception_answer, normal_answer, register_count, malformed, answer_of, view_verdict, view_ends, ViewResult, viewed, number_of_viewed, lengths_of_viewed, panel_viewed, Viewed}
use Rattle.modbus.specs.Clauses.{AnswerWritten}
use Rattle.modbus.specs.Registers.{Served}

-- ---- the reply

-- of the form that dispatch writes
pub record WellFormed (reply : List ℕ) : Type 0 where
  pub some : 1 ≤ units reply
  pub few : units reply ≤ 32
  pub long : length reply ≡ 28 + 2 * units reply

pub well_formed : {reply : List ℕ} → malformed reply ≡ false → WellFormed reply
well_formed e = let ((some, few), long) = simp accepts at e in record { some = some; few = few; long = long }

pub well_formed_not_malformed : {reply : List ℕ} → WellFormed reply → malformed reply ≡ false
well_formed_not_malformed {reply} w = rw (le-ltb (units reply) 1 w.some, le-ltb 32 (units reply) w.few, eq-eqb (length reply) (28 + 2 * units reply) w.long)

-- ---- the call

module _ (reply request answer : List ℕ) where
  pub accepted_view : view_verdict reply request answer ≡ Ok tt → let out = answer_of reply (request_of request) in viewed reply request answer ≡ record { answer = Ok (length out); bytes = over out answer }
  unfolding viewed view_ends
  accepted_view e = rw e

  refused_view : (x : Refusal) → view_verdict reply request answer ≡ Err x → viewed reply request answer ≡ record { answer = Err x; bytes = answer }
  unfolding viewed view_ends
  refused_view x e = rw e

  pub reply-refused : malformed reply ≡ true → viewed reply request answer ≡ record { answer = Err ReplyMalformed; bytes = answer }
  unfolding viewed view_verdict view_ends
  reply-refused e = rw e

  module _ (e : malformed reply ≡ false) where
    pub request_refused : (length request ≡ 5 → ⊥) → viewed reply request answer ≡ record { answer = Err RequestLengthInvalid; bytes = answer }
    unfolding viewed view_verdict view_ends
    request_refused n = rw (e, ne_eqb (length request) 5 n)

    module _ (five : length request ≡ 5) where
      pub answer-refused : length answer < 252 → viewed reply request answer ≡ record { answer = Err AnswerTooShort; bytes = answer }
      unfolding viewed view_verdict view_ends
      answer-refused h = rw (e, eq-eqb (length request) 5 five, lt-ltb (length answer) 252 h)

      pub answered : 252 ≤ length answer → {q : Request} → q ≡ request_of request → {bytes : List ℕ} {n : ℕ} → AnswerWritten reply q answer bytes n → viewed reply request answer ≡ record { answer = Ok n; bytes = bytes }
      unfolding viewed view_verdict view_ends
      answered h s w = let v = rw s at w in rw (e, eq-eqb (length request) 5 five, le-ltb (length answer) 252 h, v.length-is, v.bytes_are)

-- ---- the exception to a request

module _ (registers : ℕ) (q : Request) where
  pub other-function : (q.function ≡ 3 → ⊥) → exception_to registers q ≡ Some 1
  unfolding exception_to
  other-function n = rw (ne_eqb q.function 3 n)

  module _ (f : q.function ≡ 3) where
    pub no_register : q.quantity < 1 → exception_to registers q ≡ Some 3
    unfolding exception_to
    no_register h = rw (eq-eqb q.function 3 f, lt-ltb q.quantity 1 h)

    module _ (some : 1 ≤ q.quantity) where
      pub many_registers : 125 < q.quantity → exception_to registers q ≡ Some 3
      unfolding exception_to
      many_registers h = rw (eq-eqb q.function 3 f, le-ltb q.quantity 1 some, lt-ltb 125 q.quantity h)

      pub past_the_end : q.quantity ≤ 125 → registers < q.start + q.quantity → exception_to registers q ≡ Some 2
      unfolding exception_to
      past_the_end few h = rw (eq-eqb q.function 3 f, le-ltb q.quantity 1 some, le-ltb 125 q.quantity few, lt-ltb registers (q.start + q.quantity) h)

  pub no_exception : Served registers q → exception_to registers q ≡ None
  unfolding exception_to
  no_exception h = rw (eq-eqb q.function 3 h.function, le-ltb q.quantity 1 h.some, le-ltb 125 q.quantity h.few, le-ltb registers (q.start + q.quantity) h.within)

  -- without an exception the registers are there
  pub served : exception_to registers q ≡ None → Served registers q
  unfolding exception_to
  served e = by (eqb q.function 3) refl (ltb q.quantity 1) refl (ltb 125 q.quantity) refl (ltb registers (q.start + q.quantity)) refl e
    where
      by : (f : Bool) → eqb q.function 3 ≡ f → (n : Bool) → ltb q.quantity 1 ≡ n → (m : Bool) → ltb 125 q.quantity ≡ m → (p : Bool) → ltb registers (q.start + q.quantity) ≡ p → ◌≡◌ {A = Option ℕ} (cond (not f) (Some 1) (cond (n || m) (Some 3) (cond p (Some 2) None))) None → Served registers q
      by false _ n _ m _ p _ z = absurd (let y : ◌≡◌ {A = ℕ} 0 1 = cc in omega arith)
      by true _ true _ m _ p _ z = absurd (let y : ◌≡◌ {A = ℕ} 0 1 = cc in omega arith)
      by true _ false _ true _ p _ z = absurd (let y : ◌≡◌ {A = ℕ} 0 1 = cc in omega arith)
      by true _ false _ false _ true _ z = absurd (let y : ◌≡◌ {A = ℕ} 0 1 = cc in omega arith)
      by true f false n false m false p z = record { function = eqb-true q.function 3 f; some = ltb-false q.quantity 1 n; few = ltb-false 125 q.quantity m; within = ltb-false registers (q.start + q.quantity) p }

-- ---- the answer to a request

module _ (reply : List ℕ) (q : Request) where
  pub with_exception : {code : ℕ} → Some code ≡ exception_to (register_count reply) q → answer_of reply q ≡ exception_answer q.function code
  unfolding answer_of
  with_exception e = rw (← e)

  pub without_exception : None ≡ exception_to (register_count reply) q → answer_of reply q ≡ normal_answer reply q
  unfolding answer_of
  without_exception e = rw (← e)

pub length-values : (reply : List ℕ) (q : Request) → 2 * (q.start + q.quantity) ≤ length reply → length (values reply q.start q.quantity) ≡ 2 * q.quantity
length-values reply q h =
    let n : length (drop (2 * q.start) reply) ≡ length reply - 2 * q.start = length-drop (2 * q.start) reply in
    length-take-le (2 * q.quantity) (drop (2 * q.start) reply) (omega (arith, n))

-- 252 bytes are room for every answer
pub length-answer : (reply : List ℕ) (q : Request) → length (answer_of reply q) ≤ 252
length-answer reply q = by (exception_to (register_count reply) q) refl
  where
    by : (o : Option ℕ) → o ≡ exception_to (register_count reply) q → length (answer_of reply q) ≤ 252
    by None e =
        let short : length (values reply q.start q.quantity) ≤ 2 * q.quantity = simp length-take (omega arith) in
        rw (without_exception reply q e) (omega (arith, short, (served (register_count reply) q (sym e)).few))
    by (Some code) e = rw (with_exception reply q e) (omega arith)

-- as it is written, where half of the reply's length is the number of registers
module _ (reply : List ℕ) (e : malformed reply ≡ false) where
  w : WellFormed reply
  w = well_formed e

  half : length reply / 2 ≡ register_count reply
  half = omega (arith, w.long)

  pub reply-small : length reply ≤ 92
  reply-small = omega (arith, w.long, w.few)

  module _ (q : Request) where
    by_count : exception_to (length reply / 2) q ≡ exception_to (register_count reply) q
    by_count = ap (λ (n : ℕ). exception_to n q) half

    pub exception_written : {code : ℕ} → Some code ≡ exception_to (length reply / 2) q → {before after : List ℕ} {n : ℕ} → (n ≡ 2) × (after ≡ over (exception_answer q.function code) before) → AnswerWritten reply q before after n
    exception_written k (l, b) = let a = with_exception reply q (k ∙ by_count) in record { length-is = rw (a, l); bytes_are = rw (a, b) }

    module _ (k : None ≡ exception_to (length reply / 2) q) where
      pub registers_there : Served (register_count reply) q
      registers_there = served (register_count reply) q (sym (k ∙ by_count))

      pub inside-reply : 2 * (q.start + q.quantity) ≤ length reply
      inside-reply = omega (arith, registers_there.within, w.long)

      pub values-written : {before after : List ℕ} {n : ℕ} → (n ≡ 2 + 2 * q.quantity) × (after ≡ over (normal_answer reply q) before) → AnswerWritten reply q before after n
      values-written (l, b) =
          let a = without_exception reply q (k ∙ by_count) in
          record { length-is = rw (a, l) (omega (arith, length-values reply q inside-reply)); bytes_are = rw (a, b) }

-- ---- the call, told to C

module _ (reply request answer : List ℕ) where
  pub answered-small : {a : Viewed} {s : List ℕ} {n : ℕ} → viewed reply request answer ≡ record { answer = a; bytes = s } → a ≡ Ok n → n ≤ 252
  answered-small {a} {s} {n} e f = by (view_verdict reply request answer) refl
    where
      by : (v : Verdict) → view_verdict reply request answer ≡ v → n ≤ 252
      by (Err x) v =
          let z : ◌≡◌ {A = Viewed} (Err x) (Ok n) = sym (ap (λ (r : ViewResult). r.answer) (refused_view reply request answer x v)) ∙ ap (λ (r : ViewResult). r.answer) e ∙ f in
          absurd (let y : ◌≡◌ {A = ℕ} 0 1 = cc in omega arith)
      by (Ok _) v =
          let z : ◌≡◌ {A = Viewed} (Ok (length (answer_of reply (request_of request)))) (Ok n) = sym (ap (λ (r : ViewResult). r.answer) (accepted_view reply request answer v)) ∙ ap (λ (r : ViewResult). r.answer) e ∙ f in
          let k : length (answer_of reply (request_of request)) ≡ n = cc in
          rw (← k) (length-answer reply (request_of request))

  pub view_short : (lengths : List ℤ) → length lengths < 1 → {n : ℕ} → n ≡ number_of BufferTooShort → panel_viewed reply request answer lengths ≡ record { number = n; bytes = answer; lengths = lengths }
  unfolding panel_viewed view_ends
  view_short lengths h e = rw (lt-ltb (length lengths) 1 h, e)

  pub view_told : (lengths : List ℤ) → 1 ≤ length lengths → {a b : Viewed} {s : List ℕ} → viewed reply request answer ≡ record { answer = a; bytes = s } → a ≡ b → {n : ℕ} {zs : List ℤ} → n ≡ number_of_viewed b → zs ≡ lengths_of_viewed b lengths → panel_viewed reply request answer lengths ≡ record { number = n; bytes = s; lengths = zs }
  unfolding panel_viewed viewed
  view_told lengths h e i f g =
      let same : view_ends (view_verdict reply request answer) reply request answer ≡ _ = e in
      rw (le-ltb (length lengths) 1 h, same, i, f, g)
