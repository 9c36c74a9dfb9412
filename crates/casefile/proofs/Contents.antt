-- The contents: what the loop over the entries keeps, and that accepted entries name bodies inside the file.
use Rattle.std.specs.Prelude.{Ok}
use Prim.Native.Nat.{ℕ, ◌+◌, ◌*◌, ◌≤◌, ◌<◌}
use native.Mathlib.Decide.{dec_lt}
use native.Mathlib.Numerals.{add-one}
use native.Mathlib.Omega.{arith}
use mathlib.Core.Path.{◌≡◌, ap, sym, ◌∙◌}
use mathlib.Core.Bool.{Bool, true, false, not, ◌||◌, true≢false}
use mathlib.Core.List.{List}
use mathlib.Core.Logic.{◌⊎◌, inl, inr, ◌≢◌}
use Rattle.std.proofs.lemmas.Grind.{common_steps}
use lib.Dec.{ltb, eqb}
use lib.ListN.{length, drop, length-drop}
use lib.Seq.{length-take-le}
use borrow.Author.Tests.{le-ltb, eq-eqb, ne_eqb}
use Rattle.rules.specs.Lists.{each, all}
use Rattle.rules.specs.Layout.{body_length, edition, count, offset, size, body}
use Rattle.rules.specs.Refusal.{start, legal_size, entry_fits, contents_verdict}
use Rattle.rules.proofs.Each.{rest-ends, rest_more}
use Rattle.rules.proofs.Encoding.Body.{edges-start}
use Rattle.rules.proofs.Encoding.SoundFile.{SoundContents, sound-contents, body-within}
use Rattle.casefile.specs.Clauses.{BodyInside}

-- ---- legal lengths

module _ (e l : ℕ) where
  -- a length that no number of zones makes is not legal
  pub illegal : ((z : ℕ) → z ≤ 4 → l ≡ body_length e z → ⊥) → legal_size e l ≡ false
  illegal h =
      simp (
        ne_eqb l (body_length e 0) (h 0 (omega arith)),
        ne_eqb l (body_length e 1) (h 1 (omega arith)),
        ne_eqb l (body_length e 2) (h 2 (omega arith)),
        ne_eqb l (body_length e 3) (h 3 (omega arith)),
        ne_eqb l (body_length e 4) (h 4 (omega arith)),
      )

  legal-long : legal_size e l ≡ true → 26 ≤ l
  legal-long t = by (dec_lt l 26)
    where
      by : Dec (l < 26) → 26 ≤ l
      by (yes h) = absurd (true≢false (sym t ∙ illegal (λ z k s. omega (arith, edges-start e))))
      by (no h) = omega arith

-- ---- the loop over the entries

-- whether the entries from number i on fit
abbrev pub fit_from : List ℕ → ℕ → ℕ → Bool
fit_from file n i = all (entry_fits file) (drop i (each n (λ k. k)))

abbrev pub invalid : List ℕ → ℕ → Bool
invalid file n = ltb (length file) (8 + 4 * n) || not (fit_from file n 0) || not (eqb (start file n) (length file))

-- the first i entries fit, and the last of them ends at `at`
pub record Passed (file : List ℕ) (n at i : ℕ) : Type 0 where
  pub within : i ≤ n
  pub room : 8 + 4 * n ≤ length file
  pub ends : at ≡ start file i
  pub fit : fit_from file n 0 ≡ fit_from file n i

module _ (file : List ℕ) (n : ℕ) where
  module _ (at i : ℕ) (p : Passed file n at i) where
    misfit : fit_from file n i ≡ false → invalid file n ≡ true
    misfit e = rw (le-ltb (length file) (8 + 4 * n) p.room, p.fit ∙ e)

    pub contents-end : n ≤ i → invalid file n ≡ not (eqb at (length file))
    contents-end h =
        let e : i ≡ n = omega (arith, p.within) in
        let all : fit_from file n 0 ≡ true = p.fit ∙ rw (rest-ends n (λ k. k) i h) in
        let end : at ≡ start file n = p.ends ∙ ap (start file) e in
        rw (le-ltb (length file) (8 + 4 * n) p.room, all, end)

    module _ (h : i < n) where
      -- one of the two tests of entry i fails
      pub contents-misfit : (offset file i ≢ at) ⊎ (legal_size (edition file) (size file i) ≡ false) → invalid file n ≡ true
      contents-misfit (inl m) = misfit (rw (rest_more n (λ k. k) i h, ne_eqb (offset file i) (start file i) (λ e. m (e ∙ sym p.ends))))
      contents-misfit (inr e) = misfit (rw (rest_more n (λ k. k) i h) (grind (arith, common_steps)))

      pub passed-more : offset file i ≡ at → legal_size (edition file) (size file i) ≡ true → Passed file n (offset file i + size file i) (i + 1)
      passed-more o e =
          record {
            within = omega arith;
            room = p.room;
            ends = rw (add-one i);
            fit = p.fit ∙ rw (rest_more n (λ k. k) i h, eq-eqb (offset file i) (start file i) (o ∙ p.ends), e);
          }

-- ---- accepted contents

pub inside : {file : List ℕ} → SoundContents file → (i : ℕ) → i < count file → BodyInside file i
inside {file} s i h = record { entry = omega (arith, s.room); within = body-within s i h; long = legal-long (edition file) (size file i) (s.sizes i h) }

pub body-inside : (file : List ℕ) → contents_verdict file ≡ Ok tt → (i : ℕ) → i < count file → BodyInside file i
body-inside file accepted = inside ((sound-contents file).0 accepted)

pub body-length : {file : List ℕ} {i : ℕ} → BodyInside file i → length (body file i) ≡ size file i
body-length {file} {i} b =
    length-take-le (size file i) (drop (offset file i) file) (simp length-drop (omega (arith, b.within)))
