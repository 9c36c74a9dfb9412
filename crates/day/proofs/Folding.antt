-- All slots on the lent buffers are the day's by the rules: after k slots the trace has at its start what the rules give for the first k demands, and the histories are theirs.
use mathlib.Core.Path.{◌≡◌, refl, sym, ap, ap₂, ◌∙◌}
use Prim.Native.Nat.{ℕ, ◌+◌, ◌*◌, ◌<◌, ◌≤◌}
use native.Mathlib.Numerals.{add-one}
use native.Mathlib.Omega.{arith}
use mathlib.Core.List.{List, [], ◌∷◌, ◌++◌}
use lib.ListN.{length, get_or, take}
use lib.Seq.{take_all, take-suc}
use Rattle.rules.specs.Lists.{Every}
use Rattle.rules.specs.Layout.{Case, count, unit_at, case_of}
use Rattle.rules.specs.Sound.{Sound}
use Rattle.rules.proofs.Lists.{length-each, every-at, every_more}
use Rattle.rules.proofs.Encoding.Front.{Front, front-none, front-over, front_length, front_tail, lent, given_back}
use Rattle.rules.proofs.Encoding.SoundFile.{sound-file, units-sound}
use Rattle.day.specs.declared.History.{History}
use Rattle.day.specs.Day.{Slots, one_slot, slots_more, slots_from, no_slot}
use Rattle.day.specs.Clauses.{HistoryInRange, Units, SlotAsks, Ready, Leaves}
use Rattle.day.proofs.OneSlot.{slot_long, slot_histories, slot_in_range, slot_cost}

pub units-counted : (file : List ℕ) (n : ℕ) → Units file n → length (case_of file).units ≡ n
unfolding case_of
units-counted file n u = length-each (count file) (unit_at file) ∙ sym u.units

pub units-few : (file : List ℕ) (n : ℕ) → Units file n → n ≤ 32
units-few file n u = omega (arith, u.units, ((sound-file file).0 u.accepted).head.count-greatest)

-- ---- what is known of one slot

module _ {file : List ℕ} {d : ℕ} {hs : List History} (asks : SlotAsks file d hs) where
  small : Every (λ h. h.previous ≤ 10000) hs
  small = every_more (HistoryInRange 96) (λ h. h.previous ≤ 10000) (λ h m. m.previous) hs asks.kept

  pub started-few : Every (λ h. h.starts < 65535) hs
  started-few = every_more (HistoryInRange 96) (λ h. h.starts < 65535) (λ h m. omega (arith, m.starts)) hs asks.kept

  long : length hs ≡ length (case_of file).units
  long = sym (units-counted file (length hs) asks.sound)

  sound : Every Sound (case_of file).units
  sound = units-sound file asks.sound.accepted

  pub one-long : length (one_slot (case_of file) hs d).histories ≡ length hs
  one-long = slot_histories (case_of file) hs d sound small long

  pub one_in_range : (k : ℕ) → Every (HistoryInRange k) hs → Every (HistoryInRange (k + 1)) (one_slot (case_of file) hs d).histories
  one_in_range k m = rw add-one (slot_in_range (case_of file) hs d sound small long k m)

  pub one-cost : (one_slot (case_of file) hs d).total ≤ 6432000000000
  one-cost = slot_cost (case_of file) hs d sound small long (units-few file (length hs) asks.sound)

-- ---- after k slots

pub record Folded (trace₀ : List ℕ) (histories₀ : List History) (k : ℕ) (s : Slots) (bytes : List ℕ) (hs : List History) (c : ℕ) : Type 0 where
  pub trace : Front trace₀ s.trace bytes (18 * k)
  pub histories : hs ≡ s.histories
  pub cost : c ≡ s.total
  pub long : length hs ≡ length histories₀
  pub in_range : Every (HistoryInRange k) hs
  pub bounded : c ≤ k * 6432000000000

-- the slots of the first k demands
abbrev pub slots_of : List ℕ → List ℕ → List History → ℕ → Slots
slots_of file demands histories k = slots_from (case_of file) (no_slot histories) (take k demands)

pub from_more : (c : Case) (s : Slots) (ds : List ℕ) (d : ℕ) → slots_from c s (ds ++ (d ∷ [])) ≡ slots_more c (slots_from c s ds) d
from_more c s [] d = refl
from_more c s (e ∷ ds) d = from_more c (slots_more c s e) ds d

module _ {file demands : List ℕ} {trace₀ : List ℕ} {histories₀ : List History} (r : Ready file demands (length trace₀) histories₀) where
  pub folded-none : Folded trace₀ histories₀ 0 (slots_of file demands histories₀ 0) trace₀ histories₀ 0
  folded-none = record { trace = front-none trace₀; histories = refl; cost = refl; long = refl; in_range = r.kept; bounded = omega arith }

  module _ {k : ℕ} {trace : List ℕ} {histories : List History} {total : ℕ} (f : Folded trace₀ histories₀ k (slots_of file demands histories₀ k) trace histories total) (here : k < length demands) where
    abbrev d : ℕ
    d = get_or demands k 0

    pub folded-asks : SlotAsks file d histories
    folded-asks =
        record {
          demand = every-at (λ d. d ≤ 320000) demands k 0 r.demand here;
          sound = rw f.long r.sound;
          kept = every_more (HistoryInRange k) (HistoryInRange 96) (λ h m. record { previous = m.previous; starts = omega (arith, m.starts, r.few, here) }) histories f.in_range;
        }

    pub folded-room : 18 * k + 18 ≤ length trace
    folded-room = omega (arith, r.lent, here, front_length f.trace (omega (arith, r.lent, here)))

    next : slots_of file demands histories₀ (k + 1) ≡ slots_more (case_of file) (slots_of file demands histories₀ k) d
    next =
        ap (λ (i : ℕ). slots_of file demands histories₀ i) (add-one k)
        ∙ ap (slots_from (case_of file) (no_slot histories₀)) (take-suc demands k 0 here)
        ∙ from_more (case_of file) (no_slot histories₀) (take k demands) d

    pub folded_more : {t : List ℕ} {hs : List History} {cost : ℕ} → Leaves (one_slot (case_of file) histories d) (lent (18 * k) trace) t hs cost → Folded trace₀ histories₀ (k + 1) (slots_of file demands histories₀ (k + 1)) (given_back (18 * k) trace t) hs (total + cost)
    unfolding slots_more
    folded_more {t} {hs} {cost} l =
        let more : 18 * (k + 1) ≡ 18 * k + 18 = omega arith in
        let one = one_slot (case_of file) histories d in
        rw next (record {
          trace = rw (more, ← f.histories) (front_tail f.trace t one.trace 18 (slot_long (case_of file) histories d) l.trace);
          histories = rw (← f.histories) l.histories;
          cost = rw (← f.histories) (ap₂ (λ (a b : ℕ). a + b) f.cost l.cost);
          long = ap length l.histories ∙ one-long folded-asks ∙ f.long;
          in_range = rw l.histories (one_in_range folded-asks k f.in_range);
          bounded = omega (arith, f.bounded, l.cost, one-cost folded-asks);
        })

  pub folded-end : {k : ℕ} {trace : List ℕ} {histories : List History} {total : ℕ} → Folded trace₀ histories₀ k (slots_of file demands histories₀ k) trace histories total → length demands ≤ k → Leaves (slots_from (case_of file) (no_slot histories₀) demands) trace₀ trace histories total
  folded-end {k} {trace} {histories} {total} f h =
      let all : take k demands ≡ demands = take_all k demands h in
      let left : Leaves (slots_of file demands histories₀ k) trace₀ trace histories total = record { trace = front-over f.trace; histories = f.histories; cost = f.cost } in
      rw all at left
