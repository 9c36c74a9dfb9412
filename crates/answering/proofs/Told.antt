-- The three calls in C by where they end.
use Prim.Native.Nat.{ℕ, ◌≤◌, ◌<◌}
use mathlib.Core.Path.{◌≡◌}
use mathlib.Core.List.{List}
use lib.IntN.{ℤ}
use lib.ListN.{length}
use borrow.Author.Tests.{lt-ltb, le-ltb}
use Rattle.rules.specs.Lists.{over}
use Rattle.rules.specs.Refusal.{number_of}
use Rattle.rules.specs.declared.Refusal.TheVariants.{BufferTooShort}
use Rattle.std.specs.Prelude.{Result}
use Rattle.rules.specs.declared.Refusal.{Refusal}
use Rattle.stepping.specs.declared.State.{State}
use Rattle.stepping.specs.Runs.{started, advanced_by, asked}
use Rattle.answering.specs.Answers.{number_of_started, number_of_advanced, answers_of_advanced, numbers_asked, panel_started, panel_advanced, panel_asked}

module _ (numbers bytes file : List ℕ) where
  pub start-told : {s : Result (Unit {0}) Refusal} {ns bs : List ℕ} {n : ℕ} → started numbers bytes file ≡ record { answer = s; numbers = ns; bytes = bs } → n ≡ number_of_started s → panel_started numbers bytes file ≡ record { number = n; numbers = ns; bytes = bs }
  unfolding panel_started
  start-told e f = rw (e, f)

  pub advance-short : (answers : List ℤ) {n : ℕ} → length answers < 1 → n ≡ number_of BufferTooShort → panel_advanced numbers bytes file answers ≡ record { number = n; numbers = numbers; answers = answers }
  unfolding panel_advanced
  advance-short answers h e = rw (lt-ltb (length answers) 1 h, e)

  pub advance-told : (answers : List ℤ) → 1 ≤ length answers → {a : Result State Refusal} {ns : List ℕ} {n : ℕ} {after : List ℤ} → advanced_by numbers bytes file ≡ record { answer = a; numbers = ns } → n ≡ number_of_advanced a → after ≡ answers_of_advanced a answers → panel_advanced numbers bytes file answers ≡ record { number = n; numbers = ns; answers = after }
  unfolding panel_advanced
  advance-told answers h e f g = rw (le-ltb (length answers) 1 h, e, f, g)

module _ (numbers : List ℕ) (answers : List ℤ) where
  pub ask-short : {n : ℕ} → length answers < 38 → n ≡ number_of BufferTooShort → panel_asked numbers answers ≡ record { number = n; answers = answers }
  unfolding panel_asked
  ask-short h e = rw (lt-ltb (length answers) 38 h, e)

  pub ask-told : 38 ≤ length answers → {after : List ℤ} → after ≡ over (numbers_asked (asked numbers)) answers → panel_asked numbers answers ≡ record { number = 0; answers = after }
  unfolding panel_asked
  ask-told h e = rw (le-ltb (length answers) 38 h, e)
