-- What the loop over the bodies keeps: those passed are accepted, and their units are written. And what decoding gives at each way out of it.
use Rattle.std.specs.Prelude.{Ok, Err}
use mathlib.Core.Path.{◌≡◌, refl, sym, ap, ◌∙◌}
use mathlib.Core.Bool.{Bool, true, false}
use mathlib.Core.List.{List}
use Prim.Native.Nat.{ℕ, ◌+◌, ◌*◌, ◌≤◌, ◌<◌}
use native.Mathlib.Omega.{arith}
use Rattle.rules.specs.Lists.{each}
use Rattle.rules.specs.Layout.{count, demand, unit_at, case_of}
use Rattle.rules.specs.Refusal.{in_order, head_verdict, contents_verdict, file_verdict, Verdict}
use Rattle.rules.specs.Problem.{problem_of, problem_in}
use Rattle.rules.specs.Calls.{case_verdict}
use Rattle.rules.specs.declared.Refusal.{Refusal}
use Rattle.rules.specs.declared.Refusal.TheVariants.{NoAllocation}
use Rattle.rules.specs.Refusal.{Verdict}
use Rattle.rules.proofs.Each.{Checked, checked-ends, checked_refused, checked-more}
use Rattle.rules.proofs.Encoding.SoundFile.{sound-head}
use Rattle.casefile.proofs.Body.{verdict_at}
use Rattle.casefile.proofs.File.{file-head, file-contents, file-bodies}
use Rattle.site.specs.Clauses.{BodiesNamed, Offering, Site}
use Rattle.site.proofs.UnitsWritten.{UnitsWritten, offering, problem-held, problem-unserved}

-- ---- refusals of the file, and of a unit without a permitted output

module _ (file : List ℕ) where
  case-refused : {r : Refusal} → file_verdict file ≡ Err r → case_verdict file ≡ Err r
  unfolding case_verdict
  case-refused e = rw e

  pub head-refused : {r : Refusal} → head_verdict file ≡ Err r → case_verdict file ≡ Err r
  head-refused e = case-refused (file-head file e)

  pub contents-refused : {r : Refusal} → head_verdict file ≡ Ok tt → contents_verdict file ≡ Err r → case_verdict file ≡ Err r
  contents-refused h e = case-refused (file-contents file h e)

  -- the offers of the file's problem
  offering-file : {n : ℕ} → n ≡ count file → Offering (unit_at file) n (problem_in file)
  unfolding case_of
  offering-file e = rw e (offering (unit_at file) (count file) (demand file))

-- ---- the loop over the bodies

-- bodies 0 .. i − 1 are accepted, and their units are written
pub record Decoding (file : List ℕ) (n : ℕ) (coefficients ends ranges : List ℕ) (permitted : Bool) (i : ℕ) : Type 0 where
  pub checked : Checked n (verdict_at file) i
  pub written : UnitsWritten (unit_at file) coefficients ends ranges permitted i

module _ {file : List ℕ} {n : ℕ} {coefficients ends ranges : List ℕ} {permitted : Bool} {i : ℕ} (d : Decoding file n coefficients ends ranges permitted i) where
  pub decoding_more : {permitted' : Bool} {coefficients' ends' ranges' : List ℕ} → i < n → verdict_at file i ≡ Ok tt → UnitsWritten (unit_at file) coefficients' ends' ranges' permitted' (i + 1) → Decoding file n coefficients' ends' ranges' permitted' (i + 1)
  decoding_more h accepted w = record { checked = checked-more n (verdict_at file) i d.checked h accepted; written = w }

  module _ {e : ℕ} (b : BodiesNamed file e n) where
    verdict : {v : Verdict} → in_order (each n (verdict_at file)) ≡ v → file_verdict file ≡ v
    verdict e =
        file-bodies file b.head b.contents ∙ ap (λ (k : ℕ). in_order (each k (verdict_at file))) (sym b.units) ∙ e

    pub decoding_refused : {r : Refusal} → i < n → verdict_at file i ≡ Err r → case_verdict file ≡ Err r
    decoding_refused h e = case-refused file (verdict (checked_refused n (verdict_at file) i d.checked h e))

    module _ (all : n ≤ i) where
      file-accepted : file_verdict file ≡ Ok tt
      file-accepted = verdict (checked-ends n (verdict_at file) i d.checked all)

      written : UnitsWritten (unit_at file) coefficients ends ranges permitted n
      written = let last : n ≡ i = omega (arith, all, d.checked.within) in rw last d.written

      pub decoding_ends_unserved : permitted ≡ false → case_verdict file ≡ Err NoAllocation
      unfolding case_verdict
      decoding_ends_unserved e =
          rw (file-accepted, problem-unserved (offering-file file b.units) (written.unserved e))

      pub decoding_ends : permitted ≡ true → Site file coefficients ends ranges n (100000000 * demand file)
      unfolding problem_of case_of
      decoding_ends e =
          let head = (sound-head file).0 b.head in
          record {
            accepted = file-accepted;
            demanded = refl;
            holds = problem-held (offering-file file b.units) (rw e at written) (omega (arith, b.units, head.count-greatest)) head.demand-greatest;
            regions = λ i h. (written.held e i h).regions;
          }
