-- What a dispatch that replied has written: the case was accepted, and the reply's bytes, spelling a unit's output for each unit of the file, stand at the buffer's start.
use Rattle.std.specs.Prelude.{Ok, Err}
use mathlib.Core.Path.{◌≡◌, refl, sym, ap, ◌∙◌}
use mathlib.Core.List.{List, [], ◌++◌, append-nil}
use Prim.Native.Nat.{ℕ, ◌+◌, ◌*◌, ◌≤◌}
use native.Mathlib.Omega.{arith}
use lib.Dec.{ltb}
use borrow.Author.Tests.{ltb-false}
use lib.ListN.{length, take, drop_of_length-le}
use lib.Seq.{take-append_seam}
use Rattle.fields.specs.Field.{field}
use Rattle.rules.specs.Lists.{over}
use Rattle.rules.specs.Layout.{count, unit_at, case_of}
use Rattle.rules.specs.Refusal.{◌refuses◌, file_verdict, Verdict}
use Rattle.rules.specs.Problem.{problem_in}
use Rattle.rules.specs.Bisection.{Reply, solve}
use Rattle.rules.specs.Calls.{reply_bytes, case_verdict, dispatch_verdict, dispatch_ends, dispatched}
use Rattle.rules.specs.Promise.{reply_in}
use Rattle.rules.specs.declared.Refusal.TheVariants.{BufferTooShort}
use Rattle.rules.proofs.Lists.{length-each}
use Rattle.rules.proofs.Verdicts.{then_accepted, refuses-accepted}
use Rattle.rules.proofs.Encoding.SoundFile.{SoundHead, sound-file, units-sound}
use Rattle.rules.proofs.Encoding.ReplyBytes.{length-reply, reply-spelled}
use Rattle.rules.proofs.Demand3.{case-accepted, reply-count, reply-fits}

-- the reply to a file, as bytes
abbrev pub written : List ℕ → List ℕ
written file = reply_bytes (solve (problem_in file))

-- ---- of an accepted case

pub record Counted (file : List ℕ) : Type 0 where
  pub some : 1 ≤ count file
  pub few : count file ≤ 32
  pub spelled : field (written file) 0 2 ≡ count file
  pub long : length (written file) ≡ 28 + 2 * count file

module _ (file : List ℕ) (e : case_verdict file ≡ Ok tt) where
  accepted : file_verdict file ≡ Ok tt
  accepted = (case-accepted file e).0

  head : SoundHead file
  head = ((sound-file file).0 accepted).head

  units-count : length (case_of file).units ≡ count file
  unfolding case_of
  units-count = length-each (count file) (unit_at file)

  pub few-units : length (case_of file).units ≤ 32
  few-units = omega (arith, units-count, head.count-greatest)

  outputs-count : length (solve (problem_in file)).outputs ≡ count file
  outputs-count = reply-count (case_of file) (units-sound file accepted) few-units (case-accepted file e).1 ∙ units-count

  alone : over (written file) [] ≡ written file
  alone = ap (λ (l : List ℕ). written file ++ l) (drop_of_length-le [] {i = length (written file)} (omega arith)) ∙ append-nil (written file)

  spelled_count : field (written file) 0 2 ≡ count file
  unfolding reply_in
  spelled_count =
      let f = reply-fits (case_of file) (units-sound file accepted) few-units (case-accepted file e).1 in
      let s = ap (λ (x : Reply). length x.outputs) (reply-spelled (solve (problem_in file)) f []) in
      ap (λ (r : List ℕ). field r 0 2) (sym alone) ∙ sym (length-each (field (over (written file) []) 0 2) (λ i. field (over (written file) []) (28 + 2 * i) 2)) ∙ s ∙ outputs-count

  pub counted : Counted file
  counted =
      record {
        some = head.count-least;
        few = head.count-greatest;
        spelled = spelled_count;
        long = omega (arith, length-reply (solve (problem_in file)), outputs-count);
      }

-- ---- of a call that replied

pub record Replied (file buffer : List ℕ) (n : ℕ) : Type 0 where
  pub room : 92 ≤ length buffer
  pub accepted : case_verdict file ≡ Ok tt
  pub long : n ≡ length (written file)
  pub reply : take n (dispatched file buffer).reply ≡ written file

ended : (v : Verdict) (file buffer : List ℕ) (n : ℕ) → (dispatch_ends v file buffer).answer ≡ Ok n → (v ≡ Ok tt) × (n ≡ length (written file)) × ((dispatch_ends v file buffer).reply ≡ over (written file) buffer)
unfolding dispatch_ends
ended (Ok _) file buffer n e = (refl, sym cc, refl)
ended (Err r) file buffer n e = absurd (let z : ◌≡◌ {A = ℕ} 0 1 = cc in omega arith)

pub replied : (file buffer : List ℕ) (n : ℕ) → (dispatched file buffer).answer ≡ Ok n → Replied file buffer n
unfolding dispatched dispatch_verdict
replied file buffer n e =
    let (verdict, long, reply) = ended (dispatch_verdict file buffer) file buffer n e in
    let (room, accepted) = (then_accepted (ltb (length buffer) 92 refuses BufferTooShort) (case_verdict file)).0 verdict in
    record {
      room = ltb-false (length buffer) 92 ((refuses-accepted (ltb (length buffer) 92) BufferTooShort).0 room);
      accepted = accepted;
      long = long;
      reply = rw (long, reply) (take-append_seam (written file) _);
    }
