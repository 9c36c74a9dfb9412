-- The few functions on lists that the rules need, and what contracts say of lists; `over` is rule 13.6 of docs/SPECIFICATION.md.
use Rattle.std.specs.Prelude.{ℕ, zero, suc, ◌+◌, max, Bool, true, cond, ◌&&◌, List, [], ◌∷◌, ◌++◌, length, drop}

module _ {A : Type 0} where
  -- f 0, f 1, .. up to f (n - 1) (tabulate)
  abbrev pub each : ℕ → (ℕ → A) → List A
  each zero f = []
  each (suc n) f = f 0 ∷ each n (λ k. f (suc k))

  -- whether a test holds of every element
  abbrev pub all : (A → Bool) → List A → Bool
  all test [] = true
  all test (x ∷ xs) = test x && all test xs

  -- the elements of which a test holds, in order
  abbrev pub filter : (A → Bool) → List A → List A
  filter test [] = []
  filter test (x ∷ xs) = let rest = filter test xs in cond (test x) (x ∷ rest) rest

  -- a buffer with something at its start
  abbrev pub over : List A → List A → List A
  over s buffer = s ++ drop (length s) buffer

abbrev pub sum : List ℕ → ℕ
sum [] = 0
sum (x ∷ xs) = x + sum xs

-- the greatest of some numbers (of none, 0)
abbrev pub greatest : List ℕ → ℕ
greatest [] = 0
greatest (x ∷ xs) = max x (greatest xs)

-- ---- statements of lists

-- the true statement, of which `tt` is the proof
abbrev pub True : Type 0
True = Unit {0}

-- a statement of every element
module _ {A : Type 0} where
  abbrev pub Every : (A → Type 0) → List A → Type 0
  Every P [] = True
  Every P (x ∷ xs) = P x × Every P xs

-- a relation between the elements of two lists, as many in each
module _ {A B : Type 0} where
  abbrev pub Pairwise : (A → B → Type 0) → List A → List B → Type 0
  Pairwise R [] [] = True
  Pairwise R [] (y ∷ ys) = ⊥
  Pairwise R (x ∷ xs) [] = ⊥
  Pairwise R (x ∷ xs) (y ∷ ys) = R x y × Pairwise R xs ys
