-- What a station may rely on, of the definition: a normal answer's values are the reply's registers, answers side by side are one answer, and what dispatch wrote is served.
use mathlib.Core.Path.{◌≡◌, refl, sym, ap, ◌∙◌}
use mathlib.Core.Bool.{not}
use mathlib.Core.List.{List, [], ◌∷◌, ◌++◌}
use Prim.Native.Nat.{ℕ, ◌+◌, ◌*◌, ◌≤◌, ◌<◌}
use native.Mathlib.Omega.{arith}
use borrow.Author.Tests.{ltb-false}
use lib.Dec.{ltb, eqb}
use lib.ListN.{length, get_or, take, drop, get_or-append}
use lib.Seq.{get_or-append-add, get_or-take, get_or-drop, take-add, drop-drop}
use Rattle.std.specs.Prelude.{Option, Some, None, Ok, Err}
use Rattle.rules.specs.Lists.{over}
use Rattle.rules.specs.Refusal.{◌refuses◌, ◌then◌, Verdict}
use Rattle.rules.specs.Calls.{case_verdict}
use Rattle.rules.specs.declared.Refusal.TheVariants.{ReplyMalformed, RequestLengthInvalid, AnswerTooShort}
use Rattle.rules.proofs.Verdicts.{accepts, either_way}
use Rattle.rules.proofs.Replied.{written, counted, replied}
use Rattle.modbus.specs.View.{Request, request_of, units, register_count, values, with_top_bit, normal_answer, exception_to, answer_of, view_verdict, Viewed, viewed}
use Rattle.modbus.specs.Registers.{Served, IsRegister, NormalAnswer, ExceptionAnswer, ValuesAreRegisters, reading, SideBySide, ServesDispatch}
use Rattle.modbus.proofs.Answers.{WellFormed, well_formed, well_formed_not_malformed, accepted_view, no_exception, served, with_exception, without_exception, length-values}

-- a reply that is viewed has the right form
accepted-form : (reply request answer : List ℕ) → view_verdict reply request answer ≡ Ok tt → WellFormed reply
unfolding view_verdict
accepted-form reply request answer e = let (((some, few), long), (five, room)) = simp accepts at e in record { some = some; few = few; long = long }

-- ---- values

module _ (reply : List ℕ) (q : Request) (h : Served (register_count reply) q) where
  pub plain : answer_of reply q ≡ normal_answer reply q
  plain = without_exception reply q (sym (no_exception (register_count reply) q h))

module _ (reply : List ℕ) (q : Request) (inside : 2 * (q.start + q.quantity) ≤ length reply) (rest : List ℕ) where
  abbrev bytes : List ℕ
  bytes = normal_answer reply q ++ rest

  -- byte i behind the two first ones
  byte : (i : ℕ) → i < 2 * q.quantity → get_or bytes (2 + i) 0 ≡ get_or reply (2 * q.start + i) 0
  byte i l =
      let vs = values reply q.start q.quantity in
      get_or-append-add (q.function ∷ 2 * q.quantity ∷ []) (vs ++ rest) i 0
      ∙ get_or-append vs rest 0 i (omega (arith, length-values reply q inside))
      ∙ get_or-take (2 * q.quantity) (drop (2 * q.start) reply) i 0 l
      ∙ get_or-drop (2 * q.start) reply i 0

  pub is_register : (j : ℕ) → j < q.quantity → IsRegister reply bytes j (q.start + j)
  is_register j l =
      let e : 2 * q.start + 2 * j ≡ 2 * (q.start + j) = omega arith in
      let f : 2 * q.start + (2 * j + 1) ≡ 2 * (q.start + j) + 1 = omega arith in
      let g : 3 + 2 * j ≡ 2 + (2 * j + 1) = omega arith in
      record {
        high = byte (2 * j) (omega arith) ∙ ap (λ (k : ℕ). get_or reply k 0) e;
        low = ap (λ (k : ℕ). get_or bytes k 0) g ∙ byte (2 * j + 1) (omega arith) ∙ ap (λ (k : ℕ). get_or reply k 0) f;
      }

abbrev okay : ℕ → Viewed
okay n = Ok n

top_bit_lem : (f : ℕ) → 128 ≤ with_top_bit f
top_bit_lem f = either_way (λ (n : ℕ). 128 ≤ n) (ltb f 128) (λ e. omega arith) (λ e. omega (arith, ltb-false f 128 e))

pub values_are_registers : ValuesAreRegisters
values_are_registers reply request answer e = record { normal = normal; exceptional = exceptional }
  where
    normal : Served (register_count reply) (request_of request) → NormalAnswer reply (request_of request) (viewed reply request answer)
    normal h =
        let inside : 2 * ((request_of request).start + (request_of request).quantity) ≤ length reply = omega (arith, h.within, (accepted-form reply request answer e).long) in
        rw (accepted_view reply request answer e, plain reply (request_of request) h)
        (record {
          answered = ap okay (omega (arith, length-values reply (request_of request) inside));
          function = h.function;
          byte_count = refl;
          values = is_register reply (request_of request) inside (drop (length (normal_answer reply (request_of request))) answer);
        })

    exceptional : ¬ Served (register_count reply) (request_of request) → ExceptionAnswer (viewed reply request answer)
    exceptional n = rw (accepted_view reply request answer e) (by (exception_to (register_count reply) (request_of request)) refl)
      where
        by : (o : Option ℕ) → o ≡ exception_to (register_count reply) (request_of request) → ExceptionAnswer (record { answer = Ok (length (answer_of reply (request_of request))); bytes = over (answer_of reply (request_of request)) answer })
        by None f = absurd (n (served (register_count reply) (request_of request) (sym f)))
        by (Some code) f = rw (with_exception reply (request_of request) f) (record { answered = refl; top_bit = top_bit_lem (request_of request).function })

pub side_by_side : SideBySide
side_by_side reply start a b e s t =
    let w = well_formed {reply = reply} e in
    let both : Served (14 + units reply) (reading start (a + b)) = record { function = refl; some = omega (arith, s.some); few = omega (arith, t.within, w.few); within = omega (arith, t.within) } in
    let k : 2 * (a + b) ≡ 2 * a + 2 * b = omega arith in
    let f : 2 * start + 2 * a ≡ 2 * (start + a) = omega arith in (
      both,
      rw (plain reply (reading start (a + b)) both, plain reply (reading start a) s, plain reply (reading (start + a) b) t, k)
          (take-add (2 * a) (2 * b) (drop (2 * start) reply) ∙ ap (λ (l : List ℕ). take (2 * a) (drop (2 * start) reply) ++ take (2 * b) l) (drop-drop (2 * a) (2 * start) reply ∙ ap (λ (n : ℕ). drop n reply) f)),
    )

-- ---- what dispatch wrote

-- the later checks give other numbers
not-malformed : (request answer : List ℕ) → ¬ ((not (eqb (length request) 5) refuses RequestLengthInvalid then ltb (length answer) 252 refuses AnswerTooShort) ≡ Err ReplyMalformed)
not-malformed request answer = either_way (λ (v : Verdict). ¬ ((v then ltb (length answer) 252 refuses AnswerTooShort) ≡ Err ReplyMalformed)) (not (eqb (length request) 5)) (λ _ e. absurd (let y : ◌≡◌ {A = ℕ} 0 1 = cc in omega arith)) (λ _. either_way (λ (v : Verdict). ¬ (v ≡ Err ReplyMalformed)) (ltb (length answer) 252) (λ _ e. absurd (let y : ◌≡◌ {A = ℕ} 0 1 = cc in omega arith)) (λ _ e. absurd (let y : ◌≡◌ {A = ℕ} 0 1 = cc in omega arith)))

well_made : (file : List ℕ) → case_verdict file ≡ Ok tt → WellFormed (written file)
well_made file e =
    let c = counted file e in
    record { some = omega (arith, c.spelled, c.some); few = omega (arith, c.spelled, c.few); long = omega (arith, c.spelled, c.long) }

-- the checks of a view of it pass
written-served : (file : List ℕ) → case_verdict file ≡ Ok tt → (request answer : List ℕ) → let v = view_verdict (written file) request answer in ¬ (v ≡ Err ReplyMalformed) × (length request ≡ 5 → 252 ≤ length answer → v ≡ Ok tt)
unfolding view_verdict
written-served file e request answer =
    let w = well_made file e in
    (rw (well_formed_not_malformed w) (not-malformed request answer), λ five room. simp accepts (((w.some, w.few), w.long), (five, room)))

pub serves_dispatch : ServesDispatch
serves_dispatch file buffer n e request answer = let r = replied file buffer n e in rw r.reply (written-served file r.accepted request answer)
