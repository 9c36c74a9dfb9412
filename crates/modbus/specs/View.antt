-- Rules 18.1 to 18.8 of docs/SPECIFICATION.md: a dispatch's reply as Modbus holding registers. What the call answers to a request, on every input, and the final contents of the answer's buffer.
use Rattle.std.specs.Prelude.{ℕ, ◌+◌, ◌*◌, Bool, cond, not, ◌||◌, List, [], ◌∷◌, Option, Some, None, Result, Ok, Err, ltb, eqb, ℤ, pos, length, get_or, take, drop}
use Rattle.fields.specs.Field.{field}
use Rattle.rules.specs.Lists.{over}
use Rattle.rules.specs.Refusal.{number_of, ◌refuses◌, ◌then◌}
use Rattle.rules.specs.declared.Refusal.{Refusal}
use Rattle.rules.specs.declared.Refusal.TheVariants.{BufferTooShort, ReplyMalformed, RequestLengthInvalid, AnswerTooShort}
use Rattle.rules.specs.Refusal.{Verdict}

-- ---- the request (rule 18.2): function code, first register and number of registers

pub record Request : Type 0 where
  pub function : ℕ
  pub start : ℕ
  pub quantity : ℕ

abbrev pub request_of : List ℕ → Request
request_of s = record { function = get_or s 0 0; start = field s 1 2; quantity = field s 3 2 }

-- ---- the registers (rule 18.1): register k is the reply's bytes 2k and 2k + 1

-- n, the reply's first field
abbrev pub units : List ℕ → ℕ
units reply = field reply 0 2

abbrev pub register_count : List ℕ → ℕ
register_count reply = 14 + units reply

-- so many registers from a first one on, as they stand in the reply: high byte first
abbrev pub values : List ℕ → ℕ → ℕ → List ℕ
values reply start quantity = take (2 * quantity) (drop (2 * start) reply)

-- ---- the answer (rules 18.3 to 18.5)

-- (rule 18.3) the exception to a request for some of so many registers: illegal function, illegal data value, illegal data address
unfoldable pub exception_to : ℕ → Request → Option ℕ
exception_to registers q =
    cond (not (eqb q.function 3)) (Some 1)
    (cond (ltb q.quantity 1 || ltb 125 q.quantity) (Some 3)
    (cond (ltb registers (q.start + q.quantity)) (Some 2) None))

-- the function code with its top bit set
abbrev pub with_top_bit : ℕ → ℕ
with_top_bit function = cond (ltb function 128) (function + 128) function

-- (rule 18.4)
abbrev pub exception_answer : ℕ → ℕ → List ℕ
exception_answer function code = with_top_bit function ∷ code ∷ []

-- (rule 18.5) the function code, the number of bytes and the values
abbrev pub normal_answer : List ℕ → Request → List ℕ
normal_answer reply q = q.function ∷ 2 * q.quantity ∷ values reply q.start q.quantity

abbrev pub answer_by : Option ℕ → List ℕ → Request → List ℕ
answer_by (Some code) reply q = exception_answer q.function code
answer_by None reply q = normal_answer reply q

unfoldable pub answer_of : List ℕ → Request → List ℕ
answer_of reply q = answer_by (exception_to (register_count reply) q) reply q

-- ---- the call (rules 18.6, 18.7)

-- not a reply of dispatch's form
abbrev pub malformed : List ℕ → Bool
malformed reply = ltb (units reply) 1 || ltb 32 (units reply) || not (eqb (length reply) (28 + 2 * units reply))

unfoldable pub view_verdict : List ℕ → List ℕ → List ℕ → Verdict
view_verdict reply request answer =
    malformed reply refuses ReplyMalformed
    then not (eqb (length request) 5) refuses RequestLengthInvalid
    then ltb (length answer) 252 refuses AnswerTooShort

-- the answer's length, or why there is none
abbrev pub Viewed : Type 0
Viewed = Result ℕ Refusal

pub record ViewResult : Type 0 where
  pub answer : Viewed
  pub bytes : List ℕ

unfoldable pub view_ends : Verdict → List ℕ → List ℕ → List ℕ → ViewResult
view_ends (Err r) reply request answer = record { answer = Err r; bytes = answer }
view_ends (Ok _) reply request answer =
    let out = answer_of reply (request_of request) in
    record { answer = Ok (length out); bytes = over out answer }

unfoldable pub viewed : List ℕ → List ℕ → List ℕ → ViewResult
viewed reply request answer = view_ends (view_verdict reply request answer) reply request answer

-- ---- the call as C sees it (rule 18.8): 0 or a refusal's number, and the answer's length in a lent list, which has room for it or is refused with 1

abbrev pub number_of_viewed : Viewed → ℕ
number_of_viewed (Ok n) = 0
number_of_viewed (Err r) = number_of r

abbrev pub lengths_of_viewed : Viewed → List ℤ → List ℤ
lengths_of_viewed (Ok n) lengths = over (pos n ∷ []) lengths
lengths_of_viewed (Err r) lengths = lengths

pub record PanelViewResult : Type 0 where
  pub number : ℕ
  pub bytes : List ℕ
  pub lengths : List ℤ

unfoldable pub panel_viewed : List ℕ → List ℕ → List ℕ → List ℤ → PanelViewResult
panel_viewed reply request answer lengths =
    let verdict = ltb (length lengths) 1 refuses BufferTooShort then view_verdict reply request answer in
    let result = view_ends verdict reply request answer in
    record {
      number = number_of_viewed result.answer;
      bytes = result.bytes;
      lengths = lengths_of_viewed result.answer lengths;
    }
