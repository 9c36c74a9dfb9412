-- The trace of a search: a pair more, behind those that stand there.
use Prim.Native.Nat.{ℕ, ◌+◌, ◌*◌, ◌≤◌, ◌<◌}
use native.Mathlib.Omega.{arith}
use mathlib.Core.Path.{◌≡◌, refl, ◌∙◌}
use mathlib.Core.List.{List, [], ◌∷◌}
use lib.Dec.{ltb}
use lib.IntN.{ℤ, pos}
use lib.ListN.{length, set, length-set}
use lib.Seq.{get_or-set_same, get_or-set_other}
use borrow.Author.Tests.{lt-ltb}
use Rattle.rules.specs.Problem.{Problem}
use Rattle.rules.specs.Choice.{dual_value}
use Rattle.rules.proofs.Verdicts.{either_way}
use Rattle.bisection.specs.Clauses.{recorded, Traces}

pub recorded-length : (trace : List ℤ) (k m : ℕ) (d : ℤ) → length (recorded trace k m d) ≡ length trace
recorded-length trace k m d =
    either_way (λ (t : List ℤ). length t ≡ length trace) (ltb (2 * k + 1) (length trace)) (λ _. simp length-set) (λ _. refl)

-- a store behind the pairs leaves them
kept : (q : Problem) (ms : List ℕ) (trace : List ℤ) (i : ℕ) (x : ℤ) → 2 * length ms ≤ i → Traces q ms trace → Traces q ms (set trace i x)
kept q [] trace i x h t = tt
kept q (m ∷ ms) trace i x h t = (
  get_or-set_other trace i (2 * length ms) x (pos 0) (λ e. omega arith) ∙ t.0,
  get_or-set_other trace i (2 * length ms + 1) x (pos 0) (λ e. omega arith) ∙ t.1,
  kept q ms trace i x (omega arith) t.2,
)

appended : (q : Problem) (ms : List ℕ) (trace : List ℤ) (m : ℕ) (d : ℤ) → 2 * length ms + 1 < length trace → d ≡ dual_value m q → Traces q ms trace → Traces q (m ∷ ms) (recorded trace (length ms) m d)
appended q ms trace m d room e t =
    let k = length ms in
    let first = set trace (2 * k) (pos m) in
    let long : 2 * k + 1 < length first = rw (length-set trace (2 * k) (pos m)) room in
    rw (lt-ltb (2 * k + 1) (length trace) room) (
      get_or-set_other first (2 * k + 1) (2 * k) d (pos 0) (λ n. omega arith) ∙ get_or-set_same trace (2 * k) (pos m) (pos 0) (omega arith),
      get_or-set_same first (2 * k + 1) d (pos 0) long ∙ e,
      kept q ms first (2 * k + 1) d (omega arith) (kept q ms trace (2 * k) (pos m) (omega arith) t),
    )

-- pair k behind k pairs
pub traces_more : (q : Problem) (ms : List ℕ) (trace : List ℤ) (m n k : ℕ) (d : ℤ) → k ≡ length ms → n ≡ m → 2 * k + 1 < length trace → d ≡ dual_value m q → Traces q ms trace → Traces q (m ∷ ms) (recorded trace k n d)
traces_more q ms trace m n k d e f room g t = rw (e, f) (appended q ms trace m d (omega arith) g t)
