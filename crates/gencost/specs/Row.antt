-- Rules 25.1 to 25.7 of docs/SPECIFICATION.md: a row of a MATPOWER `gencost` matrix, as text, and the cost coefficients that it gives. Characters are bytes, by their ASCII codes.
use Rattle.std.specs.Prelude.{ℕ, ◌+◌, ◌-◌, ◌*◌, ◌/◌, ◌%◌, ◌^◌, Bool, true, false, cond, not, ◌&&◌, ◌||◌, List, [], ◌∷◌, ◌++◌, Result, Ok, Err, ltb, leb, eqb, length, get_or}
use Rattle.rules.specs.Lists.{all, filter}
use Rattle.rules.specs.Refusal.{◌refuses◌, ◌then◌}
use Rattle.rules.specs.declared.Refusal.{Refusal}
use Rattle.rules.specs.declared.Refusal.TheVariants.{GencostMalformed, GencostNotWhole, GencostAboveLimit}
use Rattle.rules.specs.Refusal.{Verdict}
use Rattle.gencost.specs.declared.Costs.{Costs}

-- ---- characters: space and tab, point, `0` to `9`

abbrev pub blank : ℕ → Bool
blank c = eqb c 32 || eqb c 9

abbrev pub point : ℕ → Bool
point c = eqb c 46

abbrev pub digit : ℕ → Bool
digit c = leb 48 c && leb c 57

-- ---- pieces: what stands between the characters that pass a test; between two of them side by side stands an empty piece

-- a character before the first piece
abbrev pub onto : ℕ → List (List ℕ) → List (List ℕ)
onto c [] = (c ∷ []) ∷ []
onto c (p ∷ ps) = (c ∷ p) ∷ ps

abbrev pub pieces : (ℕ → Bool) → List ℕ → List (List ℕ)
pieces test [] = [] ∷ []
pieces test (c ∷ cs) = let rest = pieces test cs in cond (test c) ([] ∷ rest) (onto c rest)

abbrev pub some : List ℕ → Bool
some [] = false
some (c ∷ cs) = true

-- ---- (rule 25.2) words: each two are parted by one or more blanks, with nothing before the first and nothing after the last

unfoldable pub words : List ℕ → List (List ℕ)
words row = filter some (pieces blank row)

-- neither the first nor the last character is a blank (false of no characters)
unfoldable pub tight : List ℕ → Bool
tight row = not (blank (get_or row 0 32)) && not (blank (get_or row (length row - 1) 32))

-- ---- (rule 25.3) a number: digits, or digits, a point and digits. It is its digits as one whole number, of which so many are decimals.

-- the number that digits spell behind another
abbrev pub number_after : ℕ → List ℕ → ℕ
number_after n [] = n
number_after n (c ∷ cs) = number_after (10 * n + (c - 48)) cs

abbrev pub digits_only : List ℕ → Bool
digits_only w = some w && all digit w

pub record Decimal : Type 0 where
  pub formed : Bool
  pub digits : ℕ
  pub decimals : ℕ

unfoldable pub decimal : List ℕ → Decimal
decimal w =
    let parts = pieces point w in
    record {
      formed = leb (length parts) 2 && all digits_only parts;
      digits = number_after 0 (get_or parts 0 [] ++ get_or parts 1 []);
      decimals = length (get_or parts 1 []);
    }

-- ---- (rules 25.1, 25.4) a row of at most 256 characters: `2` (MODEL: a polynomial), startup, shutdown, `3` (NCOST: of three coefficients), and the square, linear and constant coefficients

-- the one character c
abbrev pub only : ℕ → List ℕ → Bool
only c w = eqb (length w) 1 && eqb (get_or w 0 0) c

abbrev pub word : List ℕ → ℕ → List ℕ
word row k = get_or (words row) k []

abbrev pub number : List ℕ → ℕ → Bool
number row k = (decimal (word row k)).formed

abbrev pub headed : List ℕ → Bool
headed row = only 50 (word row 0) && number row 1 && number row 2 && only 51 (word row 3)

unfoldable pub malformed : List ℕ → Bool
malformed row =
    ltb 256 (length row) || not (tight row) || not (eqb (length (words row)) 7)
    || not (headed row && number row 4 && number row 5 && number row 6)

-- ---- (rules 25.5 to 25.7) what it gives: a number times its factor, where that is whole and within its limit. (A step is a tenth of a MW and costs are in millionths, so 10 ^ 4 for MW squared, 10 ^ 5 for MW and 10 ^ 6.)

abbrev pub whole : ℕ → Decimal → Bool
whole factor d = eqb (d.digits * factor % 10 ^ d.decimals) 0

abbrev pub scaled : ℕ → Decimal → ℕ
scaled factor d = d.digits * factor / 10 ^ d.decimals

-- c2, c1 and c0, or why there are none
abbrev pub Answer : Type 0
Answer = Result Costs Refusal

-- the answer where nothing is refused
abbrev pub ended : Verdict → Answer → Answer
ended (Ok _) answer = answer
ended (Err r) answer = Err r

-- 27 over all three before 28 over any
unfoldable pub given : Decimal → Decimal → Decimal → Answer
given square linear constant =
    ended
    (not (whole 10000 square && whole 100000 linear && whole 1000000 constant) refuses GencostNotWhole
    then (ltb 1000 (scaled 10000 square) || ltb 10000000 (scaled 100000 linear) || ltb 1000000000 (scaled 1000000 constant)) refuses GencostAboveLimit)
    (Ok (record { c2 = scaled 10000 square; c1 = scaled 100000 linear; c0 = scaled 1000000 constant }))

unfoldable pub gencost_read : List ℕ → Answer
gencost_read row = ended (malformed row refuses GencostMalformed) (given (decimal (word row 4)) (decimal (word row 5)) (decimal (word row 6)))
