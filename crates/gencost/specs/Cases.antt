-- Rules 25.1 to 25.7 of docs/SPECIFICATION.md: rows of text and what each gives. Above each row stands the wrong rule that it shows.
use Prim.Native.Char.{code}
use Rattle.std.specs.Prelude.{ℕ, List, [], ◌∷◌, ◌++◌, refl, Ok, Err}
use Prim.Native.String.{String}
use Prim.Native.String as string
use Rattle.rules.specs.Refusal.{number_of}
use Rattle.rules.specs.TableRows.{Row, Holds}
use Rattle.gencost.specs.Claims.{zeros}
use Rattle.gencost.specs.Row.{words, tight, decimal, malformed, given, Answer, gencost_read}

pub data Result : Type 0 where
  -- c2, c1 and c0
  reads : ℕ → ℕ → ℕ → Result
  refuses : ℕ → Result

abbrev pub of_costs : Answer → Result
of_costs (Ok costs) = reads costs.c2 costs.c1 costs.c0
of_costs (Err r) = refuses (number_of r)

unfoldable pub answer : List ℕ → Result
unfolding words tight decimal malformed given gencost_read
answer row = of_costs (gencost_read row)

-- a text's characters
abbrev pub text : String → List ℕ
text string.[] = []
text (string.◌∷◌ c cs) = code c ∷ text cs

-- a row with one coefficient, where the others are 0
abbrev pub square : List ℕ → List ℕ
square w = text "2 0 0 3 " ++ w ++ text " 0 0"

abbrev pub linear : List ℕ → List ℕ
linear w = text "2 0 0 3 0 " ++ w ++ text " 0"

abbrev pub constant : List ℕ → List ℕ
constant w = text "2 0 0 3 0 0 " ++ w

abbrev pub row : List ℕ → Result → Row (List ℕ) Result
row s r = record { call = s; result = r }

unfoldable pub rows : List (Row (List ℕ) Result)
rows =
    -- a square at its limit refused
    row (text "2 0 0 3 0.1 0 0") (reads 1000 0 0)
    -- square, linear and constant in another order; a factor of another coefficient
    ∷ row (text "2 1500 0 3 0.085 1.2 600") (reads 850 120000 600000000)
    -- zeros before a first digit or behind a last decimal refused
    ∷ row (text "2 0 0 3 00.0500 01.20 600") (reads 500 120000 600000000)
    -- a linear or a constant at its limit refused
    ∷ row (text "2 0 0 3 0.1 00000100 1000.0") (reads 1000 10000000 1000000000)
    -- a tab, or more than one blank between two words, refused
    ∷ row (text "2\t0  0 \t3\t\t0.01 0.5   7") (reads 100 50000 7000000)
    -- the least of each lost
    ∷ row (text "2 0 0 3 0.0001 0.00001 0.000001") (reads 1 1 1)
    -- the number of decimals or of digits bounded by something else than the row
    ∷ row (square (text "0.1" ++ zeros 100)) (reads 1000 0 0)
    ∷ row (square (zeros 100 ++ text "0.1")) (reads 1000 0 0)
    -- startup and shutdown judged by their value
    ∷ row (text "2 99999999999999999999999999 0.00000000000000000000001 3 0.1 0 0") (reads 1000 0 0)
    -- a row of 256 bytes refused
    ∷ row (constant (zeros 243 ++ text "1")) (reads 0 0 1000000)
    -- no characters; one, six or eight words
    ∷ row (text "") (refuses 26)
    ∷ row (text "2") (refuses 26)
    ∷ row (text "2 0 0 3 0 0") (refuses 26)
    ∷ row (text "2 0 0 3 0 0 0 0") (refuses 26)
    -- a blank, a tab or a line's end before or behind
    ∷ row (text " 2 0 0 3 0 0 0") (refuses 26)
    ∷ row (text "2 0 0 3 0 0 0 ") (refuses 26)
    ∷ row (text "\t2 0 0 3 0 0 0") (refuses 26)
    ∷ row (text "2 0 0 3 0 0 0\t") (refuses 26)
    ∷ row (text "2 0 0 3 0 0 0\n") (refuses 26)
    ∷ row (text "2 0 0 3 0 0 0\r") (refuses 26)
    ∷ row (text "2 0 0 3 0 0 0;") (refuses 26)
    -- another character between two words taken for a blank
    ∷ row (text "2 0 0\n3 0 0 0") (refuses 26)
    ∷ row (text "2 0 0\r3 0 0 0") (refuses 26)
    ∷ row (text "2 0 0" ++ (11 ∷ []) ++ text "3 0 0 0") (refuses 26)
    ∷ row (text "2 0 0" ++ (160 ∷ []) ++ text "3 0 0 0") (refuses 26)
    -- the first word read as a number, or not looked at
    ∷ row (text "2.0 0 0 3 0 0 0") (refuses 26)
    ∷ row (text "02 0 0 3 0 0 0") (refuses 26)
    ∷ row (text "1 0 0 3 0 0 0") (refuses 26)
    -- the same of the fourth
    ∷ row (text "2 0 0 3.0 0 0 0") (refuses 26)
    ∷ row (text "2 0 0 03 0 0 0") (refuses 26)
    ∷ row (text "2 0 0 2 0 0 0") (refuses 26)
    -- no digit before the point, or none behind it
    ∷ row (constant (text ".5")) (refuses 26)
    ∷ row (constant (text "5.")) (refuses 26)
    -- two points
    ∷ row (constant (text "0.0.1")) (refuses 26)
    -- a sign, an exponent, a comma
    ∷ row (constant (text "-0")) (refuses 26)
    ∷ row (constant (text "+0")) (refuses 26)
    ∷ row (constant (text "1e-2")) (refuses 26)
    ∷ row (constant (text "1,0")) (refuses 26)
    -- the characters beside `0` and `9` taken for digits
    ∷ row (constant (text "0.05/")) (refuses 26)
    ∷ row (constant (text "0.05:")) (refuses 26)
    -- the same in the other coefficients
    ∷ row (square (text "0.05:")) (refuses 26)
    ∷ row (linear (text "5.")) (refuses 26)
    -- startup and shutdown not looked at
    ∷ row (text "2 x 0 3 0 0 0") (refuses 26)
    ∷ row (text "2 -5 0 3 0 0 0") (refuses 26)
    ∷ row (text "2 0 5. 3 0 0 0") (refuses 26)
    -- 257 bytes read, or judged by their numbers
    ∷ row (constant (zeros 244 ++ text "1")) (refuses 26)
    ∷ row (constant (text "0." ++ zeros 242 ++ text "1")) (refuses 26)
    ∷ row (constant (text "1" ++ zeros 244)) (refuses 26)
    -- 27 or 28 of a square before 26 of what is behind it
    ∷ row (text "2 0 0 3 0.00001 0 x") (refuses 26)
    ∷ row (text "2 0 0 3 0.2 0 x") (refuses 26)
    -- one decimal more taken, or the result rounded
    ∷ row (square (text "0.00001")) (refuses 27)
    ∷ row (square (text "0.00834")) (refuses 27)
    -- the same of the others
    ∷ row (linear (text "99.999999")) (refuses 27)
    -- 28 before 27 of the same result
    ∷ row (constant (text "1000.0000001")) (refuses 27)
    ∷ row (constant (text "1001.0000001")) (refuses 27)
    ∷ row (linear (text "101.000001")) (refuses 27)
    ∷ row (square (text "0.20001")) (refuses 27)
    -- the decimals behind the first ones not all looked at
    ∷ row (square (text "0.1" ++ zeros 99 ++ text "1")) (refuses 27)
    -- 28 of one result before 27 of another
    ∷ row (text "2 0 0 3 0.2 0.000001 0") (refuses 27)
    ∷ row (text "2 0 0 3 0.2 0 0.0000001") (refuses 27)
    ∷ row (text "2 0 0 3 0.00001 200 0") (refuses 27)
    ∷ row (text "2 0 0 3 0 200 0.0000001") (refuses 27)
    ∷ row (text "2 0 0 3 0 0.000001 2000") (refuses 27)
    ∷ row (text "2 0 0 3 0.00001 0 2000") (refuses 27)
    -- a limit one higher
    ∷ row (square (text "0.1001")) (refuses 28)
    ∷ row (linear (text "100.00001")) (refuses 28)
    ∷ row (constant (text "1000.000001")) (refuses 28)
    -- one decimal fewer taken
    ∷ row (square (text "0.11")) (refuses 28)
    -- a number that wraps, in any width
    ∷ row (constant (text "1" ++ zeros 200)) (refuses 28)
    -- 2 ^ 32 and 2 ^ 64, as results, read as 0
    ∷ row (linear (text "42949.67296")) (refuses 28)
    ∷ row (linear (text "184467440737095.51616")) (refuses 28)
    ∷ row (square (text "429496.7296")) (refuses 28)
    ∷ row (square (text "1844674407370955.1616")) (refuses 28)
    ∷ row (constant (text "4294.967296")) (refuses 28)
    ∷ row (constant (text "18446744073709.551616")) (refuses 28)
    ∷ []

pub rows_hold : Holds answer rows
unfolding answer rows
rows_hold = refl
