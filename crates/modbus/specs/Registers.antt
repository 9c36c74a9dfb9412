-- Rules 18.9 to 18.11 of docs/SPECIFICATION.md: what a station may rely on. Of the code's types it names only the answers' enums.
use Rattle.std.specs.Prelude.{ℕ, ◌+◌, ◌*◌, ◌≤◌, ◌<◌, false, List, ◌++◌, Ok, ◌≡◌, length, get_or, take, drop, Err}
use Rattle.rules.specs.Calls.{dispatched}
use Rattle.rules.specs.declared.Refusal.TheVariants.{ReplyMalformed}
use Rattle.modbus.specs.View.{Request, request_of, units, malformed, answer_of, view_verdict, ViewResult, viewed}

-- a request for registers that there are
pub record Served (registers : ℕ) (q : Request) : Type 0 where
  pub function : q.function ≡ 3
  pub some : 1 ≤ q.quantity
  pub few : q.quantity ≤ 125
  pub within : q.start + q.quantity ≤ registers

-- the j-th value of an answer is register k of the reply, high byte first
pub record IsRegister (reply bytes : List ℕ) (j k : ℕ) : Type 0 where
  pub high : get_or bytes (2 + 2 * j) 0 ≡ get_or reply (2 * k) 0
  pub low : get_or bytes (3 + 2 * j) 0 ≡ get_or reply (2 * k + 1) 0

-- (rule 18.9) such a request gets a normal answer: its values are the registers from start on
pub record NormalAnswer (reply : List ℕ) (q : Request) (result : ViewResult) : Type 0 where
  pub answered : result.answer ≡ Ok (2 + 2 * q.quantity)
  pub function : get_or result.bytes 0 0 ≡ 3
  pub byte_count : get_or result.bytes 1 0 ≡ 2 * q.quantity
  pub values : (j : ℕ) → j < q.quantity → IsRegister reply result.bytes j (q.start + j)

-- and every other an exception
pub record ExceptionAnswer (result : ViewResult) : Type 0 where
  pub answered : result.answer ≡ Ok 2
  pub top_bit : 128 ≤ get_or result.bytes 0 0

pub record Answering (reply request answer : List ℕ) : Type 0 where
  pub normal : Served (14 + units reply) (request_of request) → NormalAnswer reply (request_of request) (viewed reply request answer)
  pub exceptional : ¬ Served (14 + units reply) (request_of request) → ExceptionAnswer (viewed reply request answer)

abbrev pub ValuesAreRegisters : Type 0
ValuesAreRegisters = (reply request answer : List ℕ) → view_verdict reply request answer ≡ Ok tt → Answering reply request answer

-- (rule 18.10) the values of two normal answers side by side are those of one request over both
abbrev pub reading : ℕ → ℕ → Request
reading start quantity = record { function = 3; start = start; quantity = quantity }

abbrev pub SideBySide : Type 0
SideBySide =
    (reply : List ℕ) (start a b : ℕ) → malformed reply ≡ false → let n = 14 + units reply in
    Served n (reading start a) → Served n (reading (start + a) b)
    → Served n (reading start (a + b))
    × (drop 2 (answer_of reply (reading start (a + b))) ≡ drop 2 (answer_of reply (reading start a)) ++ drop 2 (answer_of reply (reading (start + a) b)))

-- (rule 18.11) every reply that dispatch writes is served: it is never refused itself, and nothing is where the request has 5 bytes and the answer room
abbrev pub ServesDispatch : Type 0
ServesDispatch =
    (file buffer : List ℕ) (n : ℕ) → (dispatched file buffer).answer ≡ Ok n
    → (request answer : List ℕ) → let v = view_verdict (take n (dispatched file buffer).reply) request answer in
    ¬ (v ≡ Err ReplyMalformed) × (length request ≡ 5 → 252 ≤ length answer → v ≡ Ok tt)
