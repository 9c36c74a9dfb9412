-- What the functions that make the text ask and do.
use Rattle.rules.specs.declared.Refusal.{Refusal}
use Rattle.text.specs.declared.Writer.{Writer}
use Rattle.std.specs.Prelude.{ℕ, ◌+◌, ◌≤◌, List, ◌++◌, ◌≡◌, length, take, drop, Ok, Result}

-- a reply is of 28 to 92 bytes, all within the buffer
abbrev pub ReplyFits : Result ℕ Refusal → List ℕ → Type 0
ReplyFits answer buffer = (n : ℕ) → answer ≡ Ok n → (28 ≤ n) × (n ≤ 92) × (n ≤ length buffer)

-- some bytes are put into a buffer from a place on, and the next place is behind them
pub record Put (before : List ℕ) (at : ℕ) (put : List ℕ) (after : List ℕ) (next : ℕ) : Type 0 where
  pub ends : next ≡ at + length put
  pub whole : after ≡ take at before ++ (put ++ drop (at + length put) before)

-- a writer puts some bytes behind what it has put, into the same buffer
pub record Puts (before : Writer) (put : List ℕ) (after : Writer) : Type 0 where
  pub same : after.text.ghost_name ≡ before.text.ghost_name
  pub long : length after.text.now ≡ length before.text.now
  pub bytes : Put before.text.now before.at put after.text.now after.at
