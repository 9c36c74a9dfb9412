-- The verdict on a file, place by place, and what an accepted file is.
use Rattle.std.specs.Prelude.{Ok, Err}
use Prim.Native.Nat.{ℕ, ◌<◌}
use mathlib.Core.Path.{◌≡◌, refl}
use mathlib.Core.List.{List}
use Rattle.rules.specs.Lists.{each}
use Rattle.rules.specs.Layout.{edition, count, body}
use Rattle.rules.specs.Refusal.{in_order, head_verdict, contents_verdict, body_verdict, file_verdict}
use Rattle.rules.specs.declared.Refusal.{Refusal}
use Rattle.rules.proofs.Encoding.SoundFile.{sound-file}
use Rattle.bodies.specs.Clauses.{BodyFits}
use Rattle.casefile.specs.Clauses.{BodyInside, HeadRead}
use Rattle.casefile.proofs.Body.{verdict_at, body-accepted}
use Rattle.casefile.proofs.Contents.{inside}

module _ (file : List ℕ) where
  pub file-head : {r : Refusal} → head_verdict file ≡ Err r → file_verdict file ≡ Err r
  unfolding file_verdict
  file-head e = rw e

  module _ (h : head_verdict file ≡ Ok tt) where
    pub file-contents : {r : Refusal} → contents_verdict file ≡ Err r → file_verdict file ≡ Err r
    unfolding file_verdict
    file-contents e = rw (h, e)

    pub file-bodies : contents_verdict file ≡ Ok tt → file_verdict file ≡ in_order (each (count file) (verdict_at file))
    unfolding file_verdict
    file-bodies e = rw (h, e)

-- ---- an accepted file

module _ (file : List ℕ) (accepted : file_verdict file ≡ Ok tt) where
  pub accepted-head : HeadRead file (count file)
  accepted-head = let s = ((sound-file file).0 accepted).head in record { long = s.long; units = refl; most = s.count-greatest }

  module _ (i : ℕ) (h : i < count file) where
    pub accepted-inside : BodyInside file i
    accepted-inside = inside ((sound-file file).0 accepted).contents i h

    accepted-body : body_verdict (edition file) (body file i) ≡ Ok tt
    accepted-body = ((sound-file file).0 accepted).bodies i h

    pub accepted-fits : BodyFits (edition file) (body file i)
    accepted-fits = body-accepted (edition file) (body file i) accepted-body

-- what reading an accepted file asks for
pub ruleset accepted = (accepted-head, accepted-inside, accepted-fits)
