-- What an accepted edition and an accepted head say of a file.
use Rattle.std.specs.Prelude.{Ok}
use Prim.Native.Nat.{ℕ, ◌≤◌}
use mathlib.Core.Path.{◌≡◌, refl}
use mathlib.Core.List.{List}
use lib.ListN.{length}
use Rattle.rules.specs.Layout.{count}
use Rattle.rules.specs.Refusal.{edition_verdict, head_verdict}
use Rattle.rules.proofs.Verdicts.{accepts}
use Rattle.rules.proofs.Encoding.SoundFile.{sound-head}
use Rattle.casefile.specs.Clauses.{HeadRead}

module _ (newest : ℕ) (file : List ℕ) where
  -- a file whose edition is accepted has a head
  pub edition_long : edition_verdict newest file ≡ Ok tt → 8 ≤ length file
  unfolding edition_verdict
  edition_long e = let (long, _) = simp accepts at e in long

-- the head of an accepted file can be read
pub head_read : (file : List ℕ) → head_verdict file ≡ Ok tt → HeadRead file (count file)
head_read file e = let s = (sound-head file).0 e in record { long = s.long; units = refl; most = s.count-greatest }
