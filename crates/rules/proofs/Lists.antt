-- Lists element by element: the element of `each` at an index, a fact of every element, a relation between two lists.
use Prim.Native.Nat.{ℕ, zero, suc, ◌+◌, ◌≤◌, ◌<◌}
use native.Mathlib.Nat.{add-zero}
use native.Mathlib.Omega.{arith}
use mathlib.Core.Path.{◌≡◌, refl, ap, ap₂, ◌∙◌}
use mathlib.Core.Logic.{◌↔◌}
use mathlib.Core.Bool.{Bool, true, and-eq-true_iff}
use mathlib.Core.List.{List, [], ◌∷◌, ◌++◌, map}
use lib.ListN.{length, get_or, take}
use lib.Seq.{take_all}
use Rattle.rules.specs.Lists.{each, all, Every, Pairwise}

-- ---- each

module _ {A : Type 0} where
  pub length-each : (n : ℕ) (f : ℕ → A) → length (each n f) ≡ n
  length-each zero f = refl
  length-each (suc n) f = ap suc (length-each n (λ k. f (suc k)))

  pub get_or_each : (n : ℕ) (f : ℕ → A) (i : ℕ) (d : A) → i < n → get_or (each n f) i d ≡ f i
  get_or_each zero f i d h = absurd (omega arith)
  get_or_each (suc n) f zero d h = refl
  get_or_each (suc n) f (suc i) d h = get_or_each n (λ k. f (suc k)) i d (omega arith)

  -- the last one behind the others
  pub each_last : (n : ℕ) (f : ℕ → A) → each (suc n) f ≡ each n f ++ (f n ∷ [])
  each_last zero f = refl
  each_last (suc n) f = ap (λ (xs : List A). f 0 ∷ xs) (each_last n (λ k. f (suc k)))

  -- the elements below n determine it
  pub each_same : (n : ℕ) (f g : ℕ → A) → ((i : ℕ) → i < n → f i ≡ g i) → each n f ≡ each n g
  each_same zero f g h = refl
  each_same (suc n) f g h =
      ap₂ (λ (x : A) (xs : List A). x ∷ xs) (h 0 (omega arith)) (each_same n (λ k. f (suc k)) (λ k. g (suc k)) (λ i k. h (suc i) (omega arith)))

  -- the first one of those from j on
  pub each_from : (n j : ℕ) (f : ℕ → A) → each (suc n) (λ k. f (j + k)) ≡ f j ∷ each n (λ k. f (suc j + k))
  each_from n j f =
      rw add-zero (ap (λ (xs : List A). f j ∷ xs) (each_same n (λ k. f (j + suc k)) (λ k. f (suc j + k)) (λ k h. ap f (omega arith))))

  pub take-each : (m n : ℕ) (f : ℕ → A) → m ≤ n → take m (each n f) ≡ each m f
  take-each zero n f h = refl
  take-each (suc m) zero f h = absurd (omega arith)
  take-each (suc m) (suc n) f h = ap (λ (xs : List A). f 0 ∷ xs) (take-each m n (λ k. f (suc k)) (omega arith))

  -- the elements of a list by their index
  pub each_take : (n : ℕ) (xs : List A) (d : A) → n ≤ length xs → each n (λ i. get_or xs i d) ≡ take n xs
  each_take zero xs d h = refl
  each_take (suc n) [] d h = absurd (omega arith)
  each_take (suc n) (x ∷ xs) d h = ap (λ (ys : List A). x ∷ ys) (each_take n xs d (omega arith))

  pub each_get_or : (xs : List A) (d : A) → each (length xs) (λ i. get_or xs i d) ≡ xs
  each_get_or xs d = each_take (length xs) xs d (omega arith) ∙ take_all (length xs) xs (omega arith)

  -- ---- every: a fact of each element of a list

  module _ (P : A → Type 0) where
    pub every-at : (xs : List A) (i : ℕ) (d : A) → Every P xs → i < length xs → P (get_or xs i d)
    every-at [] i d p h = absurd (omega arith)
    every-at (x ∷ xs) zero d p h = p.0
    every-at (x ∷ xs) (suc i) d p h = every-at xs i d p.1 (omega arith)

    pub every-from : (xs : List A) (d : A) → ((i : ℕ) → i < length xs → P (get_or xs i d)) → Every P xs
    every-from [] d h = tt
    every-from (x ∷ xs) d h = (h 0 (omega arith), every-from xs d (λ i k. h (suc i) (omega arith)))

    pub every-each : (n : ℕ) (f : ℕ → A) → ((i : ℕ) → i < n → P (f i)) → Every P (each n f)
    every-each zero f h = tt
    every-each (suc n) f h = (h 0 (omega arith), every-each n (λ k. f (suc k)) (λ i k. h (suc i) (omega arith)))

    pub each-every : (n : ℕ) (f : ℕ → A) → Every P (each n f) → (i : ℕ) → i < n → P (f i)
    each-every zero f p i h = absurd (omega arith)
    each-every (suc n) f p zero h = p.0
    each-every (suc n) f p (suc i) h = each-every n (λ k. f (suc k)) p.1 i (omega arith)

    pub every_more : (Q : A → Type 0) → ((x : A) → P x → Q x) → (xs : List A) → Every P xs → Every Q xs
    every_more Q h [] p = tt
    every_more Q h (x ∷ xs) p = (h x p.0, every_more Q h xs p.1)

  pub every-both : (P Q R : A → Type 0) → ((x : A) → P x → Q x → R x) → (xs : List A) → Every P xs → Every Q xs → Every R xs
  every-both P Q R h [] p q = tt
  every-both P Q R h (x ∷ xs) p q = (h x p.0 q.0, every-both P Q R h xs p.1 q.1)

  pub all-every : (test : A → Bool) (xs : List A) → (all test xs ≡ true) ↔ Every (λ x. test x ≡ true) xs
  all-every test [] = (λ e. tt, λ p. refl)
  all-every test (x ∷ xs) =
      let both = and-eq-true_iff (test x) (all test xs) in
      let rest = all-every test xs in
      (λ e. ((both.0 e).0, rest.0 (both.0 e).1), λ p. both.1 (p.0, rest.1 p.1))

  pub all-each : (test : A → Bool) (n : ℕ) (f : ℕ → A) → (all test (each n f) ≡ true) ↔ ((i : ℕ) → i < n → test (f i) ≡ true)
  all-each test n f =
      let both = all-every test (each n f) in
      (λ e. each-every (λ x. test x ≡ true) n f (both.0 e), λ h. both.1 (every-each (λ x. test x ≡ true) n f h))

pub every_map : {A B : Type 0} (P : B → Type 0) (f : A → B) (xs : List A) → Every P (map f xs) ↔ Every (λ x. P (f x)) xs
every_map P f [] = (λ p. tt, λ p. tt)
every_map P f (x ∷ xs) =
    let rest = every_map P f xs in
    (λ p. (p.0, rest.0 p.1), λ p. (p.0, rest.1 p.1))

module _ {A B : Type 0} (g : A → B) where
  pub map_each : (n : ℕ) (f : ℕ → A) → map g (each n f) ≡ each n (λ i. g (f i))
  map_each zero f = refl
  map_each (suc n) f = ap (λ (xs : List B). g (f 0) ∷ xs) (map_each n (λ k. f (suc k)))

-- ---- pairwise: a relation between the elements of two lists, as many in each

module _ {A B : Type 0} where
  pub pairwise_more : (R S : A → B → Type 0) → ((x : A) (y : B) → R x y → S x y) → (xs : List A) (ys : List B) → Pairwise R xs ys → Pairwise S xs ys
  pairwise_more R S h [] [] p = tt
  pairwise_more R S h [] (y ∷ ys) p = absurd p
  pairwise_more R S h (x ∷ xs) [] p = absurd p
  pairwise_more R S h (x ∷ xs) (y ∷ ys) p = (h x y p.0, pairwise_more R S h xs ys p.1)

  pub pairwise_map : (P : A → Type 0) (R : A → B → Type 0) (f : A → B) → ((x : A) → P x → R x (f x)) → (xs : List A) → Every P xs → Pairwise R xs (map f xs)
  pairwise_map P R f h [] p = tt
  pairwise_map P R f h (x ∷ xs) p = (h x p.0, pairwise_map P R f h xs p.1)

  -- element by element
  pub pairwise_from : (R : A → B → Type 0) (d : A) (e : B) (xs : List A) (ys : List B) → length xs ≡ length ys → ((j : ℕ) → j < length xs → R (get_or xs j d) (get_or ys j e)) → Pairwise R xs ys
  pairwise_from R d e [] [] l h = tt
  pairwise_from R d e [] (y ∷ ys) l h = absurd (omega arith)
  pairwise_from R d e (x ∷ xs) [] l h = absurd (omega arith)
  pairwise_from R d e (x ∷ xs) (y ∷ ys) l h = (h 0 (omega arith), pairwise_from R d e xs ys (omega arith) (λ j k. h (suc j) (omega arith)))

  pub pairwise_at : (R : A → B → Type 0) (d : A) (e : B) (xs : List A) (ys : List B) → Pairwise R xs ys → (j : ℕ) → j < length xs → R (get_or xs j d) (get_or ys j e)
  pairwise_at R d e [] ys p j h = absurd (omega arith)
  pairwise_at R d e (x ∷ xs) [] p j h = absurd p
  pairwise_at R d e (x ∷ xs) (y ∷ ys) p zero h = p.0
  pairwise_at R d e (x ∷ xs) (y ∷ ys) p (suc j) h = pairwise_at R d e xs ys p.1 j (omega arith)
