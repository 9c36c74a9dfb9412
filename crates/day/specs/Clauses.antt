-- What the inner functions of a day ask and answer: a slot solved, a slot and all slots on the lent buffers, and what a call opens with.
use Rattle.std.specs.Prelude.{ℕ, ◌<◌, ◌≤◌, ◌*◌, ◌≡◌, true, false, List, length, get_or, Option, None, Some, Result, Ok, Err}
use Rattle.rules.specs.Lists.{over, Every}
use Rattle.rules.specs.Layout.{count}
use Rattle.rules.specs.Refusal.{file_verdict}
use Rattle.rules.specs.Problem.{Problem}
use Rattle.rules.specs.Bisection.{solvable, solve}
use Rattle.rules.specs.declared.Refusal.{Refusal}
use Rattle.rules.specs.Refusal.{Verdict}
use Rattle.solving.specs.declared.Reply as code
use Rattle.solving.specs.ReplyHeld.{reply_held}
use Rattle.day.specs.declared.History.{History}
use Rattle.day.specs.Day.{Slots, day_verdict}

-- ---- what is asked

abbrev pub none : History
none = record { previous = 0; starts = 0 }

-- a history after at most k slots
pub record HistoryInRange (k : ℕ) (h : History) : Type 0 where
  pub previous : h.previous ≤ 10000
  pub starts : h.starts ≤ k

-- an accepted file of n units
pub record Units (file : List ℕ) (n : ℕ) : Type 0 where
  pub accepted : file_verdict file ≡ Ok tt
  pub units : n ≡ count file

-- what a slot asks, of its demand and of the histories before it
pub record SlotAsks (file : List ℕ) (d : ℕ) (histories : List History) : Type 0 where
  pub demand : d ≤ 320000
  pub sound : Units file (length histories)
  pub kept : Every (HistoryInRange 96) histories

-- what all slots ask
pub record Ready (file demands : List ℕ) (room : ℕ) (histories : List History) : Type 0 where
  pub demand : Every (λ d. d ≤ 320000) demands
  pub few : length demands ≤ 96
  pub lent : 18 * length demands ≤ room
  pub sound : Units file (length histories)
  pub kept : Every (HistoryInRange 0) histories

-- ---- what is answered

-- the previous outputs of the histories
pub record Holds (histories : List History) (previous : List ℕ) : Type 0 where
  pub at : (i : ℕ) → i < length histories → get_or previous i 0 ≡ (get_or histories i none).previous

-- a reply to a problem of n units
pub record Replies (q : Problem) (n : ℕ) (r : code.Reply) : Type 0 where
  pub solvable : solvable q ≡ true
  pub reply : reply_held n r ≡ solve q

-- what is found of it
abbrev pub Solves : Problem → ℕ → Option code.Reply → Type 0
Solves q n None = solvable q ≡ false
Solves q n (Some r) = Replies q n r

-- the bytes of some slots at the start of the trace, the histories after them, and what they cost
pub record Leaves (s : Slots) (before after : List ℕ) (hs : List History) (c : ℕ) : Type 0 where
  pub trace : after ≡ over s.trace before
  pub histories : hs ≡ s.histories
  pub cost : c ≡ s.total

-- ---- what a call opens with: the number of sets

abbrev pub opened : List ℕ → Verdict → Result ℕ Refusal
opened file (Ok _) = Ok (count file)
opened file (Err r) = Err r

abbrev pub opening_of : List ℕ → List ℕ → ℕ → ℕ → Result ℕ Refusal
opening_of file demands room records = opened file (day_verdict file demands room records)

-- ---- what it answers

abbrev pub total_of : Result ℕ Refusal → ℕ
total_of (Ok t) = t
total_of (Err r) = 0
