-- Rules 25.8 to 25.12 of docs/SPECIFICATION.md: what holds of every row, as statements. (They are proved in proofs/Claims.)
use Rattle.std.specs.Prelude.{ℕ, zero, suc, ◌+◌, ◌*◌, ◌/◌, ◌%◌, ◌^◌, ◌≤◌, true, false, List, [], ◌∷◌, ◌++◌, ◌↔◌, ◌≡◌, ltb, length, get_or, take, drop, replicate, Ok, Err}
use Rattle.rules.specs.Lists.{Every}
use Rattle.rules.specs.Refusal.{coefficient_out_of_range}
use Rattle.rules.specs.Unit.{Unit}
use Rattle.rules.specs.declared.Refusal.TheVariants.{GencostMalformed}
use Rattle.gencost.specs.Row.{blank, some, words, word, Decimal, decimal, Answer}
use Rattle.gencost.specs.Clauses.{Digits}

-- ---- (rule 25.8) what is read is exact: the number times its factor

abbrev pub Exact : ℕ → Decimal → ℕ → Type 0
Exact factor d result = result * 10 ^ d.decimals ≡ d.digits * factor

abbrev pub ReadExactly : (List ℕ → Answer) → Type 0
ReadExactly call =
    (row : List ℕ) (c2 c1 c0 : ℕ)
    → call row ≡ Ok (record { c2 = c2; c1 = c1; c0 = c0 })
    → Exact 10000 (decimal (word row 4)) c2 × Exact 100000 (decimal (word row 5)) c1 × Exact 1000000 (decimal (word row 6)) c0

-- ---- (rule 25.9) a unit with what is read never meets 8 by its cost coefficients

abbrev pub NeverEight : (List ℕ → Answer) → Type 0
NeverEight call = (row : List ℕ) (u : Unit) → call row ≡ Ok (record { c2 = u.c2; c1 = u.c1; c0 = u.c0 }) → coefficient_out_of_range u ≡ ltb 5000 u.b

-- ---- (rule 25.10) 26 is given exactly where the row is not of the form

abbrev pub Word : List ℕ → Type 0
Word w = (some w ≡ true) × Every (λ c. blank c ≡ false) w

abbrev pub Gap : List ℕ → Type 0
Gap g = (some g ≡ true) × Every (λ c. blank c ≡ true) g

-- words with a gap between each two
pub data Spaced : List (List ℕ) → List ℕ → Type 0 where
  final : (w : List ℕ) → Word w → Spaced (w ∷ []) w
  before : (w g t : List ℕ) {ws : List (List ℕ)} → Word w → Gap g → Spaced ws t → Spaced (w ∷ ws) (w ++ (g ++ t))

abbrev pub Spelled : List ℕ → Type 0
Spelled ds = (some ds ≡ true) × Digits ds

-- digits, or digits, a point and digits
pub data Numeral : List ℕ → Type 0 where
  plain : (ds : List ℕ) → Spelled ds → Numeral ds
  pointed : (ds fs : List ℕ) → Spelled ds → Spelled fs → Numeral (ds ++ 46 ∷ fs)

pub record Form (row : List ℕ) : Type 0 where
  pub startup : List ℕ
  pub shutdown : List ℕ
  pub square : List ℕ
  pub linear : List ℕ
  pub constant : List ℕ
  pub numbers : Every Numeral (startup ∷ shutdown ∷ square ∷ linear ∷ constant ∷ [])
  pub made : Spaced ((50 ∷ []) ∷ startup ∷ shutdown ∷ (51 ∷ []) ∷ square ∷ linear ∷ constant ∷ []) row
  pub short : length row ≤ 256

abbrev pub MalformedExactly : (List ℕ → Answer) → Type 0
MalformedExactly call = (row : List ℕ) → (call row ≡ Err GencostMalformed) ↔ (Form row → ⊥)

-- the words of such a row are those that the definition takes, so that `word row 4` is its square coefficient
abbrev pub WordsAreThose : Type 0
WordsAreThose = (ws : List (List ℕ)) (row : List ℕ) → Spaced ws row → words row ≡ ws

-- ---- (rule 25.11) rows that differ in what does not count have one answer

-- two words are numbers of one value, or neither is a number
pub record Alike (w v : List ℕ) : Type 0 where
  pub formed : (decimal w).formed ≡ (decimal v).formed
  pub value : (decimal w).formed ≡ true → (decimal w).digits * 10 ^ (decimal v).decimals ≡ (decimal v).digits * 10 ^ (decimal w).decimals

pub record SameWords (ws vs : List (List ℕ)) : Type 0 where
  pub count : length ws ≡ length vs
  pub first : get_or ws 0 [] ≡ get_or vs 0 []
  pub startup : (decimal (get_or ws 1 [])).formed ≡ (decimal (get_or vs 1 [])).formed
  pub shutdown : (decimal (get_or ws 2 [])).formed ≡ (decimal (get_or vs 2 [])).formed
  pub fourth : get_or ws 3 [] ≡ get_or vs 3 []
  pub square : Alike (get_or ws 4 []) (get_or vs 4 [])
  pub linear : Alike (get_or ws 5 []) (get_or vs 5 [])
  pub constant : Alike (get_or ws 6 []) (get_or vs 6 [])

-- so gaps may be of any blanks, startup and shutdown of any value, and the coefficients written in any way
abbrev pub OneAnswer : (List ℕ → Answer) → Type 0
OneAnswer call =
    (ws vs : List (List ℕ)) (row other : List ℕ)
    → Spaced ws row
    → Spaced vs other
    → length row ≤ 256
    → length other ≤ 256
    → SameWords ws vs
    → call row ≡ call other

abbrev pub zeros : ℕ → List ℕ
zeros n = replicate n 48

abbrev pub ZerosBefore : Type 0
ZerosBefore = (n : ℕ) (w : List ℕ) → Numeral w → Alike (zeros n ++ w) w

abbrev pub ZerosBehind : Type 0
ZerosBehind = (n : ℕ) (ds fs : List ℕ) → Spelled ds → Spelled fs → Alike (ds ++ 46 ∷ (fs ++ zeros n)) (ds ++ 46 ∷ fs)

abbrev pub PointBehind : Type 0
PointBehind = (n : ℕ) (ds : List ℕ) → Spelled ds → Alike (ds ++ 46 ∷ zeros (suc n)) ds

-- ---- (rule 25.12) all coefficients within the limits have a row, which gives them

-- the last k digits of n, zeros in front
abbrev pub digits_of : ℕ → ℕ → List ℕ
digits_of zero n = []
digits_of (suc k) n = digits_of k (n / 10) ++ ((48 + n % 10) ∷ [])

-- n as so many digits, a point and so many decimals
abbrev pub decimal_of : ℕ → ℕ → ℕ → List ℕ
decimal_of digits decimals n = let s = digits_of (digits + decimals) n in take digits s ++ 46 ∷ drop digits s

-- `2 0 0 3 `, and the coefficients with a space between each two
abbrev pub row_of : ℕ → ℕ → ℕ → List ℕ
row_of c2 c1 c0 =
    50 ∷ 32 ∷ 48 ∷ 32 ∷ 48 ∷ 32 ∷ 51 ∷ 32 ∷ (decimal_of 1 4 c2 ++ 32 ∷ (decimal_of 3 5 c1 ++ 32 ∷ decimal_of 4 6 c0))

abbrev pub EachHasARow : (List ℕ → Answer) → Type 0
EachHasARow call = (c2 c1 c0 : ℕ) → c2 ≤ 1000 → c1 ≤ 10000000 → c0 ≤ 1000000000 → call (row_of c2 c1 c0) ≡ Ok (record { c2 = c2; c1 = c1; c0 = c0 })
