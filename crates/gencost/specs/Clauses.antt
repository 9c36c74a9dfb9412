-- What the functions that read a row give, each equated with a definition.
use Rattle.std.specs.Prelude.{ℕ, ◌+◌, ◌-◌, ◌^◌, ◌≤◌, ◌<◌, Bool, cond, not, ◌&&◌, ◌||◌, List, ◌≡◌, Option, Some, None, Ok, ltb, length, get_or, take, drop}
use Rattle.std.specs.List.{prefix_len}
use Rattle.rules.specs.Lists.{Every}
use Rattle.rules.specs.Refusal.{◌refuses◌, ◌then◌}
use Rattle.rules.specs.declared.Refusal.TheVariants.{GencostNotWhole, GencostAboveLimit}
use Rattle.gencost.specs.declared.Coefficients.{Coefficients}
use Rattle.gencost.specs.declared.Number.{Number}
use Rattle.gencost.specs.Row.{blank, digit, words, whole, scaled, Decimal, decimal, word, only, headed, malformed, Answer, ended}

-- ---- words

abbrev pub other : ℕ → Bool
other c = not (blank c)

-- how many characters at the start pass a test
abbrev pub run : (ℕ → Bool) → List ℕ → ℕ
run test text = prefix_len test text

-- the next word of a row's rest, behind its blanks (no characters if there is none), and what stands behind it
unfoldable pub first_word : List ℕ → List ℕ
first_word row = let words = drop (run blank row) row in take (run other words) words

unfoldable pub behind_word : List ℕ → List ℕ
behind_word row = let words = drop (run blank row) row in drop (run other words) words

-- ---- numbers

abbrev pub Digits : List ℕ → Type 0
Digits text = Every (λ c. digit c ≡ Bool.true) text

-- a number up to a limit; one above it is the limit and one
abbrev pub held : ℕ → ℕ → ℕ
held limit n = cond (ltb limit n) (limit + 1) n

-- a number times 10 ^ places: the result up to a limit, and whether it is whole
unfoldable pub valued : ℕ → ℕ → Decimal → Number
valued places limit d = record { result = held limit (scaled (10 ^ places) d); whole = whole (10 ^ places) d }

unfoldable pub scanned : ℕ → ℕ → List ℕ → Option Number
scanned places limit w = cond (decimal w).formed (Some (valued places limit (decimal w))) None

-- what a row's rest starts with, and what stands behind it: a number; the one character c
pub record NumberFirst (places limit : ℕ) (row : List ℕ) (n : Number) (rest : List ℕ) : Type 0 where
  pub formed : (decimal (first_word row)).formed ≡ Bool.true
  pub value : n ≡ valued places limit (decimal (first_word row))
  pub behind : rest ≡ behind_word row

pub record OnlyFirst (c : ℕ) (row rest : List ℕ) : Type 0 where
  pub only : only c (first_word row) ≡ Bool.true
  pub behind : rest ≡ behind_word row

-- ---- the row

-- the last character, or a blank if there is none
abbrev pub last : List ℕ → ℕ
last text = get_or text (length text - 1) 32

-- behind so many of its words, a row has this rest
pub record Behind (row : List ℕ) (k : ℕ) (rest : List ℕ) : Type 0 where
  pub count : k ≤ length (words row)
  pub words : drop k (words row) ≡ words rest
  pub ending : 0 < length rest → last rest ≡ last row

-- `2`, startup, shutdown and `3` are well formed, and this stands behind them
pub record HeadEnd (row rest : List ℕ) : Type 0 where
  pub headed : headed row ≡ Bool.true
  pub behind : Behind row 4 rest

-- the numbers of a row that is well formed
unfoldable pub parsed : List ℕ → Option Coefficients
parsed row =
    let numbers : Coefficients = record {
      square = valued 4 1000 (decimal (word row 4));
      linear = valued 5 10000000 (decimal (word row 5));
      constant = valued 6 1000000000 (decimal (word row 6));
    } in
    cond (malformed row) None (Some numbers)

-- as `given`, of numbers up to their limits
unfoldable pub judged : Coefficients → Answer
judged n =
    ended
    (not (n.square.whole && n.linear.whole && n.constant.whole) refuses GencostNotWhole
    then (ltb 1000 n.square.result || ltb 10000000 n.linear.result || ltb 1000000000 n.constant.result) refuses GencostAboveLimit)
    (Ok (record { c2 = n.square.result; c1 = n.linear.result; c0 = n.constant.result }))
