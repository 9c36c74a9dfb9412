-- A loop that writes the floors one by one: what stands so far is the floors of the first demands, over what was there.
use Prim.Native.Nat.{ℕ, ◌+◌, ◌≤◌, ◌<◌}
use native.Mathlib.Numerals.{add-one}
use native.Mathlib.Omega.{arith}
use mathlib.Core.Path.{◌≡◌, sym, ap, ◌∙◌}
use mathlib.Core.List.{List, [], ◌∷◌, ◌++◌, map, map-append}
use lib.IntN.{ℤ}
use lib.ListN.{length, get_or, take, set, length-set}
use lib.Seq.{take-suc, take_all}
use Rattle.rules.specs.Numbers.{divided_up, greatest_at}
use Rattle.rules.specs.Problem.{Problem, target}
use Rattle.rules.proofs.Encoding.Front.{Front, front-set, front-over}
use Rattle.bisection.specs.Clauses.{Traces}
use Rattle.sensitivity.specs.Floors.{dual_for}
use Rattle.sensitivity.specs.Clauses.{FloorsWritten}

-- of the multipliers ms of q, the floor for d
abbrev floor_of : Problem → List ℕ → ℕ → ℤ
floor_of q ms d = greatest_at (λ m. divided_up (dual_for m q d) 100000) ms

pub record Writing (trace : List ℤ) (count t : ℕ) (demands : List ℕ) (before floors : List ℤ) (j : ℕ) : Type 0 where
  pub within : j ≤ length demands
  pub same_length : length floors ≡ length before
  pub held : (q : Problem) (ms : List ℕ) → Traces q ms trace → length ms ≡ count → t ≡ target q → Front before (map (floor_of q ms) (take j demands)) floors j

module _ {trace : List ℤ} {count t : ℕ} {demands : List ℕ} {before : List ℤ} where
  module _ {floors : List ℤ} {j : ℕ} (w : Writing trace count t demands before floors j) where
    pub writing_more : (x : ℤ) → j < length demands → length demands ≤ length before → ((q : Problem) (ms : List ℕ) → Traces q ms trace → length ms ≡ count → t ≡ target q → x ≡ floor_of q ms (get_or demands j 0)) → Writing trace count t demands before (set floors j x) (j + 1)
    writing_more x l room e =
        record {
          within = omega arith;
          same_length = length-set floors j x ∙ w.same_length;
          held = λ q ms a b c.
              let next : take (j + 1) demands ≡ take j demands ++ (get_or demands j 0 ∷ []) = ap (λ (i : ℕ). take i demands) (add-one j) ∙ take-suc demands j 0 l in
              let all : map (floor_of q ms) (take (j + 1) demands) ≡ map (floor_of q ms) (take j demands) ++ (x ∷ []) = ap (map (floor_of q ms)) next ∙ map-append (floor_of q ms) (take j demands) (get_or demands j 0 ∷ []) ∙ ap (λ (z : ℤ). map (floor_of q ms) (take j demands) ++ (z ∷ [])) (sym (e q ms a b c)) in
              rw all (front-set (w.held q ms a b c) x (omega arith));
        }

    pub writing_ends : length demands ≤ j → FloorsWritten trace count t demands before floors
    writing_ends h =
        record {
          written = λ q ms a b c.
              let all : take j demands ≡ demands = take_all j demands h in
              front-over (rw all at (w.held q ms a b c));
        }
