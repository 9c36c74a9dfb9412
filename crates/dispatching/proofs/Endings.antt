-- Dispatch by where it ends: each way out of the code is one case of the definition, and so carries demand 3.
use Rattle.std.specs.Prelude.{Ok, Err}
use Prim.Native.Nat.{ℕ, ◌≤◌, ◌<◌}
use mathlib.Core.Path.{◌≡◌, subst}
use mathlib.Core.List.{List}
use lib.ListN.{length}
use borrow.Author.Tests.{lt-ltb, le-ltb}
use Rattle.rules.specs.Lists.{over}
use Rattle.rules.specs.Refusal.{file_verdict}
use Rattle.rules.specs.Problem.{problem_in}
use Rattle.rules.specs.Bisection.{solve}
use Rattle.rules.specs.Calls.{DispatchResult, reply_bytes, case_verdict, dispatch_verdict, dispatch_ends, dispatched}
use Rattle.rules.specs.Promise.{Promise}
use Rattle.rules.specs.declared.Refusal.{Refusal}
use Rattle.rules.specs.declared.Refusal.TheVariants.{BufferTooShort}
use Rattle.rules.proofs.Demand3.{demand3}
use Rattle.evaluation.specs.Clauses.{First}
use Rattle.bisection.proofs.Starting.{holding, greatest-held}
use Rattle.solving.specs.declared.Reply as code-reply
use Rattle.solving.specs.ReplyHeld.{reply_held}
use Rattle.solving.specs.Clauses.{Solves}

-- the solution of what step 1 found is the file's
pub solution : {file coefficients ends ranges outputs : List ℕ} {n t c w : ℕ} → First file coefficients ends ranges outputs n t c w → {r : code-reply.Reply} → Solves coefficients ends ranges n t (record { outputs = outputs; cost = c; net = w }) r → reply_held n r ≡ solve (problem_in file)
solution {file} f s = s.held (problem_in file) (holding f) (greatest-held f)

-- ---- outcome and promise

module _ (file reply : List ℕ) where
  -- whatever dispatch ends with by the rules has demand 3
  pub promised : {r : DispatchResult} → dispatched file reply ≡ r → file_verdict file ≡ Ok tt → 92 ≤ length reply → Promise file r
  promised e a l = subst (Promise file) e (demand3 file reply a l)

  pub short : length reply < 92 → dispatched file reply ≡ record { answer = Err BufferTooShort; reply = reply }
  unfolding dispatched dispatch_verdict dispatch_ends
  short h = rw (lt-ltb (length reply) 92 h)

  module _ (long : 92 ≤ length reply) where
    pub refused : (r : Refusal) → case_verdict file ≡ Err r → dispatched file reply ≡ record { answer = Err r; reply = reply }
    unfolding dispatched dispatch_verdict dispatch_ends
    refused r e = rw (le-ltb (length reply) 92 long, e)

    pub replied : {coefficients ends ranges outputs : List ℕ} {n t c w : ℕ} → First file coefficients ends ranges outputs n t c w → {r : code-reply.Reply} → Solves coefficients ends ranges n t (record { outputs = outputs; cost = c; net = w }) r → {l : ℕ} {s : List ℕ} → l ≡ length (reply_bytes (reply_held n r)) → s ≡ over (reply_bytes (reply_held n r)) reply → dispatched file reply ≡ record { answer = Ok l; reply = s }
    unfolding dispatched dispatch_verdict dispatch_ends
    replied f v m n = rw (le-ltb (length reply) 92 long, f.accepted, m, n, solution f v)
