-- What a call opens with: what the slots ask holds of it, and what is made of it is the call by its definition.
use mathlib.Core.Path.{◌≡◌, refl, sym, ap, ◌∙◌}
use Prim.Native.Nat.{ℕ, ◌*◌, ◌≤◌}
use native.Mathlib.Omega.{arith}
use mathlib.Core.Bool.{false}
use mathlib.Core.List.{List, ◌++◌}
use lib.Dec.{ltb}
use lib.ListN.{length, take, drop}
use lib.Seq.{length-take-le}
use Rattle.std.specs.Prelude.{Ok, Err}
use Rattle.rules.specs.Unit.{Unit}
use Rattle.rules.specs.Layout.{count, case_of}
use Rattle.rules.specs.Refusal.{file_verdict}
use Rattle.rules.specs.Demands.{demands_invalid}
use Rattle.rules.specs.Sound.{Sound}
use Rattle.rules.specs.declared.Refusal.{Refusal}
use Rattle.rules.specs.Refusal.{Verdict}
use Rattle.rules.proofs.Lists.{every_map, every_more}
use Rattle.rules.proofs.Verdicts.{refuses-accepted, then_accepted, or_false, ltb_is_false}
use Rattle.rules.proofs.Demands.{valid-demands}
use Rattle.rules.proofs.Encoding.SoundFile.{units-sound}
use Rattle.day.specs.declared.History.{History}
use Rattle.day.specs.Day.{histories_of, no_slot, slots_from, day_of, day_verdict, day_ends, scheduled}
use Rattle.day.specs.Clauses.{HistoryInRange, Units, Ready, Leaves, opened, opening_of}
use Rattle.day.proofs.Folding.{units-few}

-- ---- an accepted call

pub record Accepts (file demands : List ℕ) (room records : ℕ) : Type 0 where
  pub valid : demands_invalid demands ≡ false
  pub lent : 18 * length demands ≤ room
  pub enough : 32 ≤ records
  pub accepted : file_verdict file ≡ Ok tt

pub accepts-day : (file demands : List ℕ) (room records : ℕ) → day_verdict file demands room records ≡ Ok tt → Accepts file demands room records
unfolding day_verdict
accepts-day file demands room records e =
    let (first, rest) = (then_accepted _ _).0 e in
    let (second, third) = (then_accepted _ _).0 rest in
    let (short, few) = (or_false (ltb room (18 * length demands)) (ltb records 32)).0 ((refuses-accepted _ _).0 second) in
    record {
      valid = (refuses-accepted _ _).0 first;
      lent = (ltb_is_false room (18 * length demands)).0 short;
      enough = (ltb_is_false records 32).0 few;
      accepted = third;
    }

-- ---- what an opening tells of the verdict

opened-accepts : (file : List ℕ) (v : Verdict) {n : ℕ} → opened file v ≡ Ok n → (v ≡ Ok tt) × (n ≡ count file)
opened-accepts file (Ok _) e = (refl, cc)
opened-accepts file (Err r) e = cc

opened-refuses : (file : List ℕ) (v : Verdict) {r : Refusal} → opened file v ≡ Err r → v ≡ Err r
opened-refuses file (Ok _) e = cc
opened-refuses file (Err r) e = cc

-- ---- what is made of an opening is the call by its definition

module _ (file demands trace : List ℕ) (histories : List History) where
  pub refused-day : {r : Refusal} → opening_of file demands (length trace) (length histories) ≡ Err r → scheduled file demands trace histories ≡ record { answer = Err r; trace = trace; histories = histories }
  unfolding scheduled day_ends
  refused-day e = rw (opened-refuses file (day_verdict file demands (length trace) (length histories)) e)

  module _ {n : ℕ} (e : opening_of file demands (length trace) (length histories) ≡ Ok n) where
    verdict : day_verdict file demands (length trace) (length histories) ≡ Ok tt
    verdict = (opened-accepts file _ e).0

    accepts : Accepts file demands (length trace) (length histories)
    accepts = accepts-day file demands _ _ verdict

    pub units : Units file n
    units = record { accepted = accepts.accepted; units = (opened-accepts file (day_verdict file demands (length trace) (length histories)) e).1 }

    pub enough : (n ≤ 32) × (32 ≤ length histories)
    enough = (units-few file n units, accepts.enough)

    -- as many are lent to the slots as there are sets
    pub lent : length (take n histories) ≡ n
    lent = length-take-le n histories (omega (arith, enough.0, enough.1))

    pub ready : {ys : List History} → length ys ≡ n → ys ≡ histories_of (case_of file) → Ready file demands (length trace) ys
    ready {ys} l e =
        let valid = valid-demands demands accepts.valid in
        record {
          demand = valid.small;
          few = valid.few;
          lent = accepts.lent;
          sound = rw l units;
          kept =
              rw e ((every_map (HistoryInRange 0) (λ (u : Unit). record { previous = u.previous; starts = 0 }) (case_of file).units).1
              (every_more Sound (λ u. HistoryInRange 0 (record { previous = u.previous; starts = 0 })) (λ u s. record { previous = s.previous; starts = omega arith }) (case_of file).units (units-sound file accepts.accepted)));
        }

    pub is-day : {ys zs : List History} {ts : List ℕ} {r : ℕ} → ys ≡ histories_of (case_of file) → Leaves (slots_from (case_of file) (no_slot ys) demands) trace ts zs r → length zs ≡ n
        → scheduled file demands trace histories ≡ record { answer = Ok r; trace = ts; histories = zs ++ drop n histories }
    unfolding scheduled day_ends day_of
    is-day {ys} {zs} first l long =
        let s = slots_from (case_of file) (no_slot (histories_of (case_of file))) demands in
        let left : Leaves s trace _ zs _ = rw first at l in
        let same : length s.histories ≡ n = ap length (sym left.histories) ∙ long in
        rw (verdict, ← left.cost, ← left.trace, same, ← left.histories)
