-- Rules 15.2 to 15.4 of docs/SPECIFICATION.md: the text of an answer, in ASCII.
use Rattle.std.specs.Prelude.{ℕ, zero, suc, ◌+◌, ◌-◌, ◌*◌, ◌/◌, ◌%◌, cond, List, [], ◌∷◌, ◌++◌, ltb, length, take, replicate, Ok, Err, Result}
use Rattle.fields.specs.Field.{field}
use Rattle.rules.specs.Refusal.{number_of}
use Rattle.rules.specs.Calls.{dispatched}
use Rattle.rules.specs.declared.Refusal.{Refusal}

-- ---- numbers (rule 15.4)

-- the decimal digits of n without leading zeros; where n has more than k digits, the last k
unfoldable pub digits : ℕ → ℕ → List ℕ
digits zero n = []
digits (suc k) n = cond (ltb n 10) ((48 + n) ∷ []) (digits k (n / 10) ++ ((48 + n % 10) ∷ []))

-- a number below 2 ^ 64 has at most 20 digits
unfoldable pub decimal : ℕ → List ℕ
decimal n = digits 20 n

-- ---- words (rules 15.2 to 15.4)

-- `units `
abbrev pub units_word : List ℕ
units_word = 0x75 ∷ 0x6E ∷ 0x69 ∷ 0x74 ∷ 0x73 ∷ 0x20 ∷ []

-- ` evaluations `
abbrev pub evaluations_word : List ℕ
evaluations_word = 0x20 ∷ 0x65 ∷ 0x76 ∷ 0x61 ∷ 0x6C ∷ 0x75 ∷ 0x61 ∷ 0x74 ∷ 0x69 ∷ 0x6F ∷ 0x6E ∷ 0x73 ∷ 0x20 ∷ []

-- ` cost `
abbrev pub cost_word : List ℕ
cost_word = 0x20 ∷ 0x63 ∷ 0x6F ∷ 0x73 ∷ 0x74 ∷ 0x20 ∷ []

-- ` gap `
abbrev pub gap_word : List ℕ
gap_word = 0x20 ∷ 0x67 ∷ 0x61 ∷ 0x70 ∷ 0x20 ∷ []

-- ` surplus `
abbrev pub surplus_word : List ℕ
surplus_word = 0x20 ∷ 0x73 ∷ 0x75 ∷ 0x72 ∷ 0x70 ∷ 0x6C ∷ 0x75 ∷ 0x73 ∷ 0x20 ∷ []

-- `refused `
abbrev pub refused_word : List ℕ
refused_word = 0x72 ∷ 0x65 ∷ 0x66 ∷ 0x75 ∷ 0x73 ∷ 0x65 ∷ 0x64 ∷ 0x20 ∷ []

-- ` `
abbrev pub space : List ℕ
space = 0x20 ∷ []

-- a line feed
abbrev pub line_feed : List ℕ
line_feed = 0x0A ∷ []

-- ---- texts

-- (rule 15.3)
unfoldable pub refused_text : Refusal → List ℕ
refused_text r = refused_word ++ decimal (number_of r) ++ line_feed

-- (rule 15.2) the first line: count, evaluations, cost, gap and surplus
unfoldable pub summary_line : ℕ → ℕ → ℕ → ℕ → ℕ → List ℕ
summary_line n e c g s =
    units_word ++ decimal n
    ++ (evaluations_word ++ decimal e)
    ++ (cost_word ++ decimal c)
    ++ (gap_word ++ decimal g)
    ++ (surplus_word ++ decimal s)
    ++ line_feed

-- (rule 15.2) a unit's line: its number and its output
unfoldable pub output_line : ℕ → ℕ → List ℕ
output_line i p = decimal i ++ (space ++ decimal p) ++ line_feed

-- (rule 15.2) the lines of the first k units, numbered from 1; the outputs begin at byte 28 and have 2 bytes each
unfoldable pub output_lines : ℕ → List ℕ → List ℕ
output_lines zero reply = []
output_lines (suc k) reply = output_lines k reply ++ output_line (suc k) (field reply (28 + 2 * k) 2)

-- (rule 15.2) the reply's 28 first bytes hold the fields of the first line (rule 12.1)
unfoldable pub reply_text : List ℕ → List ℕ
reply_text reply =
    summary_line (field reply 0 2) (field reply 2 2) (field reply 4 8) (field reply 12 8) (field reply 20 8)
    ++ output_lines ((length reply - 28) / 2) reply

-- the text of an answer, whose reply stands at the start of a buffer
unfoldable pub text_of : Result ℕ Refusal → List ℕ → List ℕ
text_of (Ok n) buffer = reply_text (take n buffer)
text_of (Err r) buffer = refused_text r

-- what the program writes for a file: it lends dispatch 92 zeros
unfoldable pub printed : List ℕ → List ℕ
printed file = let r = dispatched file (replicate 92 0) in text_of r.answer r.reply
