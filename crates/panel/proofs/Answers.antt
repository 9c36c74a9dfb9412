-- An answer of a call on slices, told to C: its number, and its values at the start of a lent list.
use Rattle.rules.specs.declared.Refusal.{Refusal}
use Rattle.std.specs.Prelude.{Ok, Err, Some, None, Option, Result, ◌==◌}
use Prim.Native.Nat.{ℕ, ◌≤◌, ◌<◌}
use native.Mathlib.Omega.{arith}
use mathlib.Core.Path.{◌≡◌, refl, sym, ap, ◌∙◌}
use mathlib.Core.Bool.{Bool, true, false}
use mathlib.Core.List.{List, [], ◌∷◌}
use lib.IntN.{ℤ}
use lib.ListN.{length, set}
use borrow.Author.Tests.{lt-ltb, le-ltb, eqb-true, eqb-false}
use Rattle.rules.specs.Lists.{over}
use Rattle.rules.specs.Refusal.{number_of}
use Rattle.branching.specs.Refining.{refined, panel_refined}
use Rattle.branching.proofs.Claims.{refined-length}
use Rattle.rules.specs.Calls.{DispatchResult, PackResult, dispatched, price_verdict, price_ends, priced, packed_in, unpack_verdict, unpack_ends, unpacked, number_of_dispatched, number_of_packed, number_of_priced, answers_of_priced, number_of_unpacked, answers_of_unpacked, panel_dispatched, told_packed, panel_priced, panel_unpacked}
use Rattle.rules.specs.declared.Refusal.TheVariants.{BufferTooShort, MultiplierOutOfRange}
use Rattle.rules.specs.declared.Priced.{Priced}
use Rattle.rules.specs.declared.Unpacked.{Unpacked}
use Rattle.judging.specs.Judging.{judge_verdict, judge_ends, judged, number_of_judged, answers_of_judged, panel_judged}
use Rattle.judging.specs.declared.Judgement.{Judgement}
use Rattle.judging.proofs.Claims.{told-small}
use Rattle.panel.specs.Clauses.{Small}
use Rattle.answering.specs.Answers.{panel_asked}
use Rattle.answering.proofs.Told.{ask-short}
use Rattle.rules.proofs.Encoding.Body.{edges-start}
use Rattle.rules.proofs.Lengths.{replied-length, packed-length}

-- two numbers written to the start of a list
pub two-written : (xs : List ℤ) (a b : ℤ) → 2 ≤ length xs → set (set xs 0 a) 1 b ≡ over (a ∷ b ∷ []) xs
two-written [] a b h = absurd (omega arith)
two-written (x ∷ []) a b h = absurd (omega arith)
two-written (x ∷ y ∷ xs) a b h = refl

-- ---- room for one answer

module _ (answers : List ℤ) {e : Bool} (told : e ≡ (length answers == 0)) where
  pub no-room : e ≡ true → length answers < 1
  no-room t = omega (arith, eqb-true _ _ (sym told ∙ t))

  pub room : e ≡ false → 1 ≤ length answers
  room f = omega (arith, eqb-false _ _ (sym told ∙ f))

-- ---- dispatch, refine and packing

pub dispatch-told : (file reply : List ℕ) {a : Result ℕ Refusal} {s : List ℕ} {n : ℕ} → dispatched file reply ≡ record { answer = a; reply = s } → n ≡ number_of_dispatched a → panel_dispatched file reply ≡ record { number = n; reply = s }
unfolding panel_dispatched
dispatch-told file reply e f = rw (e, f)

pub replied-small : (file reply : List ℕ) {a : Result ℕ Refusal} {s : List ℕ} {n : ℕ} → dispatched file reply ≡ record { answer = a; reply = s } → a ≡ Ok n → n ≤ 92
replied-small file reply {n = n} e f = (replied-length file reply n (ap (λ (r : DispatchResult). r.answer) e ∙ f)).1

pub refine-told : (file : List ℕ) (budget : ℕ) (reply : List ℕ) {a : Result ℕ Refusal} {s : List ℕ} {n : ℕ} → refined file budget reply ≡ record { answer = a; reply = s } → n ≡ number_of_dispatched a → panel_refined file budget reply ≡ record { number = n; reply = s }
unfolding panel_refined
refine-told file budget reply e f = rw (e, f)

pub refined-small : (file : List ℕ) (budget : ℕ) (reply : List ℕ) {a : Result ℕ Refusal} {s : List ℕ} {n : ℕ} → refined file budget reply ≡ record { answer = a; reply = s } → a ≡ Ok n → n ≤ 94
refined-small file budget reply {n = n} e f = (refined-length file budget reply n (ap (λ (r : DispatchResult). r.answer) e ∙ f)).1

-- a length or a refusal's number alike
packed_as : (a : Result ℕ Refusal) → number_of_packed a ≡ number_of_dispatched a
packed_as (Ok n) = refl
packed_as (Err r) = refl

-- of either edition
pub pack-told : (r : PackResult) {a : Result ℕ Refusal} {s : List ℕ} {n : ℕ} → r ≡ record { answer = a; file = s } → n ≡ number_of_dispatched a → told_packed r ≡ record { number = n; file = s }
pack-told r {a} e f = rw (e, f, packed_as a) refl

pub packed-small : (e d : ℕ) (rows : List ℕ) (b1 : List ℤ) (file : List ℕ) {a : Result ℕ Refusal} {s : List ℕ} {n : ℕ} → packed_in e d rows b1 file ≡ record { answer = a; file = s } → a ≡ Ok n → n ≤ 1608
packed-small e d rows b1 file {n = n} g f = omega (arith, (packed-length e d rows b1 file n (ap (λ (r : PackResult). r.answer) g ∙ f)).1, edges-start e)

-- ---- pricing

module _ (file : List ℕ) (m : ℕ) (answers : List ℤ) where
  pub multiplier-told : 65536 < m → {n : ℕ} → n ≡ number_of MultiplierOutOfRange → panel_priced file m answers ≡ record { number = n; answers = answers }
  unfolding panel_priced price_ends
  multiplier-told h e = rw (lt-ltb 65536 m h, e)

  module _ (small : m ≤ 65536) where
    pub price-short : length answers < 2 → {n : ℕ} → n ≡ number_of BufferTooShort → panel_priced file m answers ≡ record { number = n; answers = answers }
    unfolding panel_priced price_ends
    price-short h e = rw (le-ltb 65536 m small, lt-ltb (length answers) 2 h, e)

    pub price-told : 2 ≤ length answers → {a : Result Priced Refusal} → priced file m ≡ a → {n : ℕ} {zs : List ℤ} → n ≡ number_of_priced a → zs ≡ answers_of_priced a answers → panel_priced file m answers ≡ record { number = n; answers = zs }
    unfolding panel_priced priced
    price-told h e f g =
        let same : price_ends (price_verdict file m) file m ≡ _ = e in
        rw (le-ltb 65536 m small, le-ltb (length answers) 2 h, same, f, g)

-- ---- unpacking

module _ (file rows : List ℕ) (answers : List ℤ) where
  pub unpack_short : length answers < 2 → {n : ℕ} → n ≡ number_of BufferTooShort → panel_unpacked file rows answers ≡ record { number = n; rows = rows; answers = answers }
  unfolding panel_unpacked unpack_ends
  unpack_short h e = rw (lt-ltb (length answers) 2 h, e)

  pub unpack_told : 2 ≤ length answers → {a b : Result Unpacked Refusal} {s : List ℕ} → unpacked file rows ≡ record { answer = a; rows = s } → a ≡ b → {n : ℕ} {zs : List ℤ} → n ≡ number_of_unpacked b → zs ≡ answers_of_unpacked b answers → panel_unpacked file rows answers ≡ record { number = n; rows = s; answers = zs }
  unfolding panel_unpacked unpacked
  unpack_told h e i f g =
      let same : unpack_ends (unpack_verdict file rows) file rows ≡ _ = e in
      rw (le-ltb (length answers) 2 h, same, i, f, g)

-- ---- judging

module _ (file outputs : List ℕ) (answers : List ℤ) where
  pub judge_short : length answers < 4 → {n : ℕ} → n ≡ number_of BufferTooShort → panel_judged file outputs answers ≡ record { number = n; answers = answers }
  unfolding panel_judged judge_ends
  judge_short h e = rw (lt-ltb (length answers) 4 h, e)

  pub judge-told : 4 ≤ length answers → {a b : Result (Option Judgement) Refusal} → a ≡ judged file outputs → a ≡ b → {n : ℕ} {zs : List ℤ} → n ≡ number_of_judged b → zs ≡ answers_of_judged b answers → panel_judged file outputs answers ≡ record { number = n; answers = zs }
  unfolding panel_judged judged
  judge-told h e i f g =
      let same : judge_ends (judge_verdict file outputs) file outputs ≡ _ = sym e ∙ i in
      rw (le-ltb (length answers) 4 h, same, f, g)

-- what is told of accepted outputs fits
pub judgement-small : (file outputs : List ℕ) (o : Option Judgement) → judged file outputs ≡ Ok o → Small o
judgement-small file outputs (Some j) e = told-small file outputs j e
judgement-small file outputs None e = tt

-- ---- the calls of other crates whose lists are too short

pub ask_short : (numbers : List ℕ) (answers : List ℤ) {n : ℕ} → length answers < 38 → n ≡ number_of BufferTooShort → panel_asked numbers answers ≡ record { number = n; answers = answers }
ask_short numbers answers h e = ask-short numbers answers h e
