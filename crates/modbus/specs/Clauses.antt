-- The request that the code reads, and what the function that writes an answer leaves behind: the answer at the buffer's start, the rest untouched, and its length.
use Rattle.std.specs.Prelude.{ℕ, ◌≡◌, List, length}
use Rattle.rules.specs.Lists.{over}
use Rattle.modbus.specs.declared.Request as code
use Rattle.modbus.specs.View.{Request, answer_of}

abbrev pub asked : code.Request → Request
asked q = record { function = q.function; start = q.start; quantity = q.quantity }

pub record AnswerWritten (reply : List ℕ) (q : Request) (before after : List ℕ) (written : ℕ) : Type 0 where
  pub length-is : written ≡ length (answer_of reply q)
  pub bytes_are : after ≡ over (answer_of reply q) before
