-- The verdict on a body: a zone count that does not fit, or else the verdict on its unit.
use Rattle.std.specs.Prelude.{Ok, Err}
use Prim.Native.Nat.{ℕ, ◌*◌, ◌≤◌, ◌<◌}
use native.Mathlib.Decide.{dec_lt}
use native.Mathlib.Omega.{arith}
use mathlib.Core.Path.{◌≡◌, ◌∙◌}
use mathlib.Core.Bool.{false}
use mathlib.Core.List.{List}
use lib.ListN.{length, get_or, get_or-eq_default}
use Rattle.std.proofs.lemmas.Bool.Decides.{nat_tests}
use borrow.Author.Tests.{le-ltb, eq-eqb}
use Rattle.fields.specs.Field.{field}
use Rattle.rules.specs.Lists.{each}
use Rattle.rules.specs.Layout.{edge_of_body, unit_of_body, body_length, edition, body}
use Rattle.rules.specs.Refusal.{zone_count_invalid, body_verdict, unit_verdict, Verdict}
use Rattle.rules.specs.declared.Refusal.TheVariants.{ZoneCountInvalid}
use Rattle.rules.proofs.Lists.{get_or_each}
use Rattle.rules.proofs.Verdicts.{or_false, not_is_false}
use Rattle.rules.proofs.Sound.{zero-unused}
use Rattle.rules.proofs.Encoding.Body.{edges-start, sound-body}
use Rattle.bodies.specs.Clauses.{BodyFits}

edge-unused : (e : ℕ) (s : List ℕ) (z k : ℕ) → 2 * z ≤ k → edge_of_body e s z k ≡ 0
unfolding edge_of_body
edge-unused e s z k h = rw (le-ltb k (2 * z) h)

module _ (e : ℕ) (s : List ℕ) where
  pub body-misfits : (field s 24 2 ≤ 4 → length s ≡ body_length e (field s 24 2) → ⊥) → body_verdict e s ≡ Err ZoneCountInvalid
  unfolding body_verdict unit_of_body
  body-misfits h =
      grind (arith, nat_tests)

  pub body-fits : BodyFits e s → body_verdict e s ≡ unit_verdict (unit_of_body e s)
  unfolding body_verdict unit_of_body
  body-fits b = rw (le-ltb 4 (field s 24 2) b.zones, eq-eqb (length s) (body_length e (field s 24 2)) b.size)

  -- at most four zones: the edges behind them are read as zero, so no unused one is wrong
  pub zone_count_fits : field s 24 2 ≤ 4 → zone_count_invalid (unit_of_body e s) ≡ false
  unfolding unit_of_body
  zone_count_fits h =
      (or_false _ _).1 (le-ltb 4 (field s 24 2) h, (not_is_false _).1 (zero-unused (unit_of_body e s) (λ k l. unused k l (dec_lt k 8))))
    where
      unused : (k : ℕ) → 2 * field s 24 2 ≤ k → Dec (k < 8) → get_or (each 8 (edge_of_body e s (field s 24 2))) k 0 ≡ 0
      unused k l (yes h) = get_or_each 8 (edge_of_body e s (field s 24 2)) k 0 h ∙ edge-unused e s (field s 24 2) k l
      unused k l (no h) = get_or-eq_default (each 8 (edge_of_body e s (field s 24 2))) 0 {n = k} (omega arith)

  -- an accepted body can be read
  pub body-accepted : body_verdict e s ≡ Ok tt → BodyFits e s
  unfolding unit_of_body
  body-accepted a = let b = sound-body e s a in record { zones = b.zones; size = b.size; long = omega (arith, b.size, edges-start e) }

-- the verdict on the body that entry i names
abbrev pub verdict_at : List ℕ → ℕ → Verdict
verdict_at file i = body_verdict (edition file) (body file i)
