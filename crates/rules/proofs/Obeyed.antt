-- A zone is obeyed or its file refused: in an accepted file the bytes of an edge, most significant first, are the edge that `permitted` asks about.
use Rattle.std.specs.Prelude.{Ok, Err}
use mathlib.Core.Path.{◌≡◌, refl, sym, ap, ◌∙◌}
use mathlib.Core.Bool.{Bool, true, false, not, true≢false}
use mathlib.Core.List.{List}
use mathlib.Core.Logic.{◌⊎◌, inl, inr}
use Prim.Native.Nat.{ℕ, suc, ◌+◌, ◌*◌, ◌≤◌, ◌<◌}
use native.Mathlib.Omega.{arith}
use lib.ListN.{length, get_or}
use lib.Seq.{drop-cons}
use borrow.Author.Tests.{lt-ltb}
use Rattle.fields.specs.Field.{number_after, field}
use Rattle.rules.specs.Unit.{Unit, zone_at, zones, permitted, strictly_inside}
use Rattle.rules.specs.Layout.{edges_start, edge_of_body, unit_of_body, edition, body}
use Rattle.rules.specs.Refusal.{file_verdict, Verdict}
use Rattle.rules.specs.Undoing.{two_bytes, ObeysZonesFrom, ZoneObeyedOrFileRefused}
use Rattle.rules.specs.declared.Refusal.{Refusal}
use Rattle.rules.proofs.Lists.{all-each, get_or_each}
use Rattle.rules.proofs.Encoding.Body.{edges-start, SoundBody, sound-body}
use Rattle.rules.proofs.Encoding.SoundFile.{SoundHead, sound-file}
use Rattle.rules.proofs.Economics.Outputs.{runs-permitted}

-- a field of two bytes
field-two : (s : List ℕ) (at : ℕ) → at + 2 ≤ length s → field s at 2 ≡ two_bytes s at
unfolding number_after
field-two s at h =
    let e : at + 1 ≡ suc at = omega arith in
    rw (drop-cons s at 0 (omega arith), drop-cons s (suc at) 0 (omega arith), e) (omega arith)

-- a permitted running output is strictly inside no zone in use
inside-none : (u : Unit) (p k : ℕ) → 0 < p → k < u.zone_count → permitted u p ≡ true → get_or u.edges (2 * k) 0 < p → p < get_or u.edges (2 * k + 1) 0 → ⊥
unfolding zones
inside-none u p k h j e l r =
    let out = (all-each (λ z. not (strictly_inside p z)) u.zone_count (zone_at u.edges)).0 ((runs-permitted u p h).0 e).outside k j in
    let ins : strictly_inside p (zone_at u.edges k) ≡ true = simp (lt-ltb _ _ l, lt-ltb _ _ r) in
    true≢false (sym out ∙ ap not ins)

-- a body of edition e, its edges from edges_start e on
module _ (e : ℕ) (s : List ℕ) (sound : SoundBody e s) (k : ℕ) (j : k < two_bytes s 24) where
  abbrev u : Unit
  u = unit_of_body e s

  in_use : k < u.zone_count
  unfolding unit_of_body
  in_use = omega (arith, edges-start e, sound.size, field-two s 24 (omega (arith, edges-start e, sound.size)))

  -- edge n of zone k, as it is spelled
  edge-is : (n : ℕ) → n < 2 → get_or u.edges (2 * k + n) 0 ≡ two_bytes s (edges_start e + 2 * (2 * k + n))
  unfolding unit_of_body edge_of_body
  edge-is n h =
      get_or_each 8 (edge_of_body e s (field s 24 2)) (2 * k + n) 0 (omega (arith, in_use, sound.zones))
      ∙ rw (lt-ltb (2 * k + n) (2 * field s 24 2) (omega (arith, in_use))) (field-two s (edges_start e + 2 * (2 * k + n)) (omega (arith, in_use, sound.size)))

  obeyed_in : (p : ℕ) → two_bytes s (edges_start e + 4 * k) < p → p < two_bytes s (edges_start e + 2 + 4 * k) → permitted u p ≡ false
  obeyed_in p l r =
      let a : edges_start e + 2 * (2 * k + 0) ≡ edges_start e + 4 * k = omega arith in
      let b : edges_start e + 2 * (2 * k + 1) ≡ edges_start e + 2 + 4 * k = omega arith in
      let c : 2 * k + 0 ≡ 2 * k = omega arith in
      let lower : get_or u.edges (2 * k) 0 ≡ two_bytes s (edges_start e + 4 * k) = rw (a, c) at (edge-is 0 (omega arith)) in
      let upper : get_or u.edges (2 * k + 1) 0 ≡ two_bytes s (edges_start e + 2 + 4 * k) = rw b at (edge-is 1 (omega arith)) in
      by (permitted u p) refl lower upper
    where
      by : (t : Bool) → permitted u p ≡ t → get_or u.edges (2 * k) 0 ≡ two_bytes s (edges_start e + 4 * k) → get_or u.edges (2 * k + 1) 0 ≡ two_bytes s (edges_start e + 2 + 4 * k) → permitted u p ≡ false
      by false t x y = t
      by true t x y = absurd (inside-none u p k (omega arith) in_use t (omega arith) (omega arith))

module _ (file : List ℕ) where
  refused_or : {A : Type 0} → (file_verdict file ≡ Ok tt → A) → ((r : Refusal) × (file_verdict file ≡ Err r)) ⊎ A
  refused_or {A} f = by (file_verdict file) refl
    where
      by : (v : Verdict) → file_verdict file ≡ v → ((r : Refusal) × (file_verdict file ≡ Err r)) ⊎ A
      by (Err r) e = inl (r, e)
      by (Ok _) e = inr (f e)

  -- the edition of an accepted file, as it is spelled
  spelled : file_verdict file ≡ Ok tt → edition file ≡ two_bytes file 0
  spelled a = field-two file 0 (omega (arith, ((sound-file file).0 a).head.long))

  -- of either edition, from where its edges start
  obeys : (e : ℕ) → two_bytes file 0 ≡ e → ObeysZonesFrom (edges_start e) file
  obeys e t =
      refused_or
      (λ a i k p h j.
      let is : edition file ≡ e = spelled a ∙ t in
      rw is (obeyed_in e (body file i) (sound-body e (body file i) (rw is at (((sound-file file).0 a).bodies i h))) k j p))

  pub obeyed : ZoneObeyedOrFileRefused file
  obeyed =
      record {
        edition1 = obeys 1;
        edition2 = obeys 2;
        other = λ one two. by one two (refused_or {A = (edition file ≡ two_bytes file 0) × SoundHead file} (λ a. (spelled a, ((sound-file file).0 a).head)));
      }
    where
      by : (two_bytes file 0 ≡ 1 → ⊥) → (two_bytes file 0 ≡ 2 → ⊥) → ((r : Refusal) × (file_verdict file ≡ Err r)) ⊎ ((edition file ≡ two_bytes file 0) × SoundHead file) → (r : Refusal) × (file_verdict file ≡ Err r)
      by one two (inl r) = r
      by one two (inr (is, head)) = absurd (omega (arith, is, head))
