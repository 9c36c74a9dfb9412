-- The call by where it ends: each way out of the code is one case of the definition.
use Rattle.std.specs.Prelude.{Ok, Err, Result}
use Prim.Native.Nat.{ℕ, ◌≤◌, ◌<◌}
use native.Mathlib.Omega.{arith}
use mathlib.Core.Path.{◌≡◌, refl, sym, ap, ◌∙◌}
use mathlib.Core.Bool.{true, false}
use mathlib.Core.List.{List, map}
use lib.Dec.{ltb}
use lib.IntN.{ℤ}
use lib.ListN.{length}
use borrow.Author.Tests.{lt-ltb, le-ltb}
use Rattle.rules.specs.Lists.{over}
use Rattle.rules.specs.Demands.{demands_invalid}
use Rattle.rules.specs.Refusal.{number_of, ◌refuses◌, ◌then◌, Verdict}
use Rattle.rules.specs.Problem.{problem_in}
use Rattle.rules.specs.Calls.{case_verdict}
use Rattle.rules.specs.declared.Refusal.{Refusal}
use Rattle.rules.specs.declared.Refusal.TheVariants.{BufferTooShort, DemandsInvalid, FloorsTooShort}
use Rattle.rules.proofs.Verdicts.{refuses-accepted, then_accepted}
use Rattle.rules.proofs.Demands.{valid-demands}
use Rattle.std.specs.Prelude.{Ok, Err, Result}
use Rattle.sensitivity.specs.Floors.{FloorsResult, floor_for, floors_verdict, floors_end, floored, number_of_floored, answers_of_floored, panel_floored}

module _ (file demands : List ℕ) (floors : List ℤ) where
  pub refused-demands : demands_invalid demands ≡ true → floored file demands floors ≡ record { answer = Err DemandsInvalid; floors = floors }
  unfolding floored floors_verdict floors_end
  refused-demands e = rw e

  module _ (valid : demands_invalid demands ≡ false) where
    pub refused-short : length floors < length demands → floored file demands floors ≡ record { answer = Err FloorsTooShort; floors = floors }
    unfolding floored floors_verdict floors_end
    refused-short h = rw (valid, lt-ltb (length floors) (length demands) h)

    module _ (room : length demands ≤ length floors) where
      pub refused-case : {r : Refusal} → case_verdict file ≡ Err r → floored file demands floors ≡ record { answer = Err r; floors = floors }
      unfolding floored floors_verdict floors_end
      refused-case e = rw (valid, le-ltb (length floors) (length demands) room, e)

      pub written : {after : List ℤ} → case_verdict file ≡ Ok tt → after ≡ over (map (floor_for (problem_in file)) demands) floors → floored file demands floors ≡ record { answer = Ok (length demands); floors = after }
      unfolding floored floors_verdict floors_end
      written e f = rw (valid, le-ltb (length floors) (length demands) room, e, f)

-- and back: floors are written for an accepted case alone, one to a demand
pub ended : (v : Verdict) (file demands : List ℕ) (floors : List ℤ) (n : ℕ) → (floors_end v file demands floors).answer ≡ Ok n → (v ≡ Ok tt) × (n ≡ length demands) × ((floors_end v file demands floors).floors ≡ over (map (floor_for (problem_in file)) demands) floors)
unfolding floors_end
ended (Ok _) file demands floors n e = (refl, sym cc, refl)
ended (Err r) file demands floors n e = absurd (let z : ◌≡◌ {A = ℕ} 0 1 = cc in omega arith)

-- ---- the call as C sees it

module _ (file demands : List ℕ) (floors : List ℤ) where
  pub written-few : {a : Result ℕ Refusal} {after : List ℤ} {n : ℕ} → floored file demands floors ≡ record { answer = a; floors = after } → a ≡ Ok n → n ≤ 96
  unfolding floored floors_verdict
  written-few {n = n} e f =
      let (v, count, _) = ended (floors_verdict file demands floors) file demands floors n (ap (λ (r : FloorsResult). r.answer) e ∙ f) in
      let valid = ((then_accepted (demands_invalid demands refuses DemandsInvalid) (ltb (length floors) (length demands) refuses FloorsTooShort then case_verdict file)).0 v).0 in
      rw count (valid-demands demands ((refuses-accepted (demands_invalid demands) DemandsInvalid).0 valid)).few

  pub floors-short : (answers : List ℤ) → length answers < 1 → {n : ℕ} → n ≡ number_of BufferTooShort → panel_floored file demands floors answers ≡ record { number = n; floors = floors; answers = answers }
  unfolding panel_floored floors_end
  floors-short answers h e = rw (lt-ltb (length answers) 1 h, e)

  pub floors-told : (answers : List ℤ) → 1 ≤ length answers → {a b : Result ℕ Refusal} {after : List ℤ} → floored file demands floors ≡ record { answer = a; floors = after } → a ≡ b → {n : ℕ} {zs : List ℤ} → n ≡ number_of_floored b → zs ≡ answers_of_floored b answers → panel_floored file demands floors answers ≡ record { number = n; floors = after; answers = zs }
  unfolding panel_floored floored
  floors-told answers h e i f g =
      let same : floors_end (floors_verdict file demands floors) file demands floors ≡ _ = e in
      rw (le-ltb (length answers) 1 h, same, i, f, g)
