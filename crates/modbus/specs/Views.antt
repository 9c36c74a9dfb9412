-- Rule 18.12 of docs/SPECIFICATION.md, and what tells wrong views apart: calls on the replies of U5 and of a site with two units (`CaseFiles`), byte by byte. Above each row stands the wrong rule that it shows.
use Rattle.std.specs.Prelude.{ℕ, List, [], ◌∷◌, ◌++◌, refl, Ok, Err, ℤ, pos, length, replicate, take, drop}
use Rattle.fields.specs.Field.{number_after}
use Rattle.rules.specs.Refusal.{number_of}
use Rattle.rules.specs.TableRows.{Row, Holds}
use Rattle.rules.specs.CaseFiles.{u5_reply, site_reply, put}
use Rattle.modbus.specs.View.{exception_to, answer_of, view_verdict, view_ends, Viewed, viewed, panel_viewed}

pub data Call : Type 0 where
  -- a reply, a request, and an answer of 252 bytes, 255 in each
  ask : List ℕ → List ℕ → Call
  -- the lent answer comes last
  ask_into : List ℕ → List ℕ → List ℕ → Call
  -- as C sees it: the answer has 252 bytes, 255 in each; the lent list comes last
  panel_ask : List ℕ → List ℕ → List ℤ → Call
  panel_ask_into : List ℕ → List ℕ → List ℕ → List ℤ → Call

pub data Result : Type 0 where
  answers_into : ℕ → List ℕ → Result
  refuses : ℕ → List ℕ → Result
  returns : ℕ → List ℕ → List ℤ → Result

abbrev pub buffer : List ℕ
buffer = replicate 252 255

-- an answer's bytes at the start of that buffer
abbrev pub answers : List ℕ → Result
answers s = answers_into (length s) (s ++ drop (length s) buffer)

abbrev pub of_view : Viewed → List ℕ → Result
of_view (Ok n) bytes = answers_into n bytes
of_view (Err r) bytes = refuses (number_of r) bytes

unfoldable pub result : Call → Result
unfolding number_after exception_to answer_of view_verdict view_ends viewed panel_viewed
result (ask reply request) = let r = viewed reply request buffer in of_view r.answer r.bytes
result (ask_into reply request answer) = let r = viewed reply request answer in of_view r.answer r.bytes
result (panel_ask reply request lengths) = let r = panel_viewed reply request buffer lengths in returns r.number r.bytes r.lengths
result (panel_ask_into reply request answer lengths) = let r = panel_viewed reply request answer lengths in returns r.number r.bytes r.lengths

-- a request to read so many registers from one on, both below 256
abbrev pub read : ℕ → ℕ → List ℕ
read start quantity = 3 ∷ 0 ∷ start ∷ 0 ∷ quantity ∷ []

-- a reply of 32 units, 92 bytes, its last output 0x1234
abbrev pub full : List ℕ
full = put 0 (0x00 ∷ 0x20 ∷ []) (u5_reply ++ replicate 60 0 ++ (0x12 ∷ 0x34 ∷ []))

unfoldable pub views : List (Row Call Result)
views =
    -- registers numbered from 1; low byte first; the quantity for the number of bytes
    record { call = ask u5_reply (read 0 2); result = answers (0x03 ∷ 0x04 ∷ 0x00 ∷ 0x01 ∷ 0x00 ∷ 0x12 ∷ []) }
    -- a register of another place, or a byte for a register
    ∷ record { call = ask u5_reply (read 4 2); result = answers (0x03 ∷ 0x04 ∷ 0x00 ∷ 0x01 ∷ 0xD0 ∷ 0xD8 ∷ []) }
    -- the last register not served: 13 + n taken for 14 + n
    ∷ record { call = ask u5_reply (read 14 1); result = answers (0x03 ∷ 0x02 ∷ 0x00 ∷ 0x07 ∷ []) }
    -- all registers at once not served
    ∷ record { call = ask u5_reply (read 0 15); result = answers (0x03 ∷ 0x1E ∷ u5_reply) }
    -- one register past the end served
    ∷ record { call = ask u5_reply (read 15 1); result = answers (0x83 ∷ 0x02 ∷ []) }
    -- the same, with registers before it
    ∷ record { call = ask u5_reply (read 14 2); result = answers (0x83 ∷ 0x02 ∷ []) }
    -- 14 + n for one unit taken for every reply
    ∷ record { call = ask site_reply (read 14 2); result = answers (0x03 ∷ 0x04 ∷ 0x00 ∷ 0x0F ∷ 0x00 ∷ 0x0C ∷ []) }
    -- no register served
    ∷ record { call = ask u5_reply (read 0 0); result = answers (0x83 ∷ 0x03 ∷ []) }
    -- a quantity of 126 not refused for itself; 2 before 3
    ∷ record { call = ask u5_reply (read 0 126); result = answers (0x83 ∷ 0x03 ∷ []) }
    -- a start past the end gives 2 before 3
    ∷ record { call = ask u5_reply (read 16 0); result = answers (0x83 ∷ 0x03 ∷ []) }
    ∷ record { call = ask u5_reply (0x03 ∷ 0xFF ∷ 0xFF ∷ 0x00 ∷ 0x7E ∷ []); result = answers (0x83 ∷ 0x03 ∷ []) }
    -- a quantity of 125 refused for itself
    ∷ record { call = ask u5_reply (read 0 125); result = answers (0x83 ∷ 0x02 ∷ []) }
    -- the quantity's high byte left out
    ∷ record { call = ask u5_reply (0x03 ∷ 0x00 ∷ 0x00 ∷ 0x01 ∷ 0x01 ∷ []); result = answers (0x83 ∷ 0x03 ∷ []) }
    -- the start's high byte left out
    ∷ record { call = ask u5_reply (0x03 ∷ 0x01 ∷ 0x00 ∷ 0x00 ∷ 0x01 ∷ []); result = answers (0x83 ∷ 0x02 ∷ []) }
    -- start + quantity computed in 16 bits
    ∷ record { call = ask u5_reply (0x03 ∷ 0xFF ∷ 0xFF ∷ 0x00 ∷ 0x02 ∷ []); result = answers (0x83 ∷ 0x02 ∷ []) }
    -- the top bits of start and quantity left out
    ∷ record { call = ask u5_reply (0x03 ∷ 0x80 ∷ 0x00 ∷ 0x00 ∷ 0x01 ∷ []); result = answers (0x83 ∷ 0x02 ∷ []) }
    ∷ record { call = ask u5_reply (0x03 ∷ 0x00 ∷ 0x00 ∷ 0x80 ∷ 0x01 ∷ []); result = answers (0x83 ∷ 0x03 ∷ []) }
    -- functions up to 3 served
    ∷ record { call = ask u5_reply (0x02 ∷ 0x00 ∷ 0x00 ∷ 0x00 ∷ 0x01 ∷ []); result = answers (0x82 ∷ 0x01 ∷ []) }
    -- the top bit set only of some functions
    ∷ record { call = ask u5_reply (0x10 ∷ 0x00 ∷ 0x00 ∷ 0x00 ∷ 0x01 ∷ []); result = answers (0x90 ∷ 0x01 ∷ []) }
    ∷ record { call = ask u5_reply (0x7F ∷ 0x00 ∷ 0x00 ∷ 0x00 ∷ 0x01 ∷ []); result = answers (0xFF ∷ 0x01 ∷ []) }
    ∷ record { call = ask u5_reply (0x80 ∷ 0x00 ∷ 0x00 ∷ 0x00 ∷ 0x01 ∷ []); result = answers (0x80 ∷ 0x01 ∷ []) }
    -- 2 before 1
    ∷ record { call = ask u5_reply (0x04 ∷ 0xFF ∷ 0xFF ∷ 0x00 ∷ 0x01 ∷ []); result = answers (0x84 ∷ 0x01 ∷ []) }
    -- a large quantity's 3 before 1
    ∷ record { call = ask u5_reply (0x04 ∷ 0x00 ∷ 0x00 ∷ 0x00 ∷ 0x7E ∷ []); result = answers (0x84 ∷ 0x01 ∷ []) }
    -- another function served, or its exception without the top bit
    ∷ record { call = ask u5_reply (0x04 ∷ 0x00 ∷ 0x00 ∷ 0x00 ∷ 0x01 ∷ []); result = answers (0x84 ∷ 0x01 ∷ []) }
    -- the top bit added, not set
    ∷ record { call = ask u5_reply (0x83 ∷ 0x00 ∷ 0x00 ∷ 0x00 ∷ 0x01 ∷ []); result = answers (0x83 ∷ 0x01 ∷ []) }
    -- 3 before 1
    ∷ record { call = ask u5_reply (0x06 ∷ 0x00 ∷ 0x00 ∷ 0x00 ∷ 0x00 ∷ []); result = answers (0x86 ∷ 0x01 ∷ []) }
    -- bytes past the answer moved or changed
    ∷ record { call = ask_into u5_reply (read 14 1) (take 250 buffer ++ (7 ∷ 8 ∷ 9 ∷ [])); result = answers_into 4 ((0x03 ∷ 0x02 ∷ 0x00 ∷ 0x07 ∷ []) ++ replicate 246 255 ++ (7 ∷ 8 ∷ 9 ∷ [])) }
    -- a reply without a unit served (28 bytes, n 0)
    ∷ record { call = ask (put 0 (0x00 ∷ 0x00 ∷ []) (take 28 u5_reply)) (read 0 1); result = refuses 15 buffer }
    -- a reply of 33 units served (94 bytes)
    ∷ record { call = ask (put 0 (0x00 ∷ 0x21 ∷ []) (u5_reply ++ replicate 64 0)) (read 0 1); result = refuses 15 buffer }
    -- a reply of 32 units not served (92 bytes)
    ∷ record { call = ask (put 0 (0x00 ∷ 0x20 ∷ []) (u5_reply ++ replicate 62 0)) (read 0 1); result = answers (0x03 ∷ 0x02 ∷ 0x00 ∷ 0x20 ∷ []) }
    -- fewer registers than 14 + n where n is above 2; one more
    ∷ record { call = ask full (read 45 1); result = answers (0x03 ∷ 0x02 ∷ 0x12 ∷ 0x34 ∷ []) }
    ∷ record { call = ask full (read 0 46); result = answers (0x03 ∷ 0x5C ∷ full) }
    ∷ record { call = ask full (read 46 1); result = answers (0x83 ∷ 0x02 ∷ []) }
    -- a reply judged by more than n and its length
    ∷ record { call = ask (0x00 ∷ 0x01 ∷ replicate 28 255) (read 13 2); result = answers (0x03 ∷ 0x04 ∷ 0xFF ∷ 0xFF ∷ 0xFF ∷ 0xFF ∷ []) }
    -- a reply of 30 + 2n bytes served, or of an odd length
    ∷ record { call = ask (u5_reply ++ (0x00 ∷ 0x00 ∷ [])) (read 0 1); result = refuses 15 buffer }
    ∷ record { call = ask (u5_reply ++ (0x00 ∷ [])) (read 0 1); result = refuses 15 buffer }
    -- a reply of 26 + 2n bytes served
    ∷ record { call = ask (take 30 site_reply) (read 0 1); result = refuses 15 buffer }
    -- n read from one byte
    ∷ record { call = ask (put 0 (0x01 ∷ 0x01 ∷ []) u5_reply) (read 0 1); result = refuses 15 buffer }
    -- a reply with its buffer's rest served
    ∷ record { call = ask (u5_reply ++ replicate 62 255) (read 0 1); result = refuses 15 buffer }
    -- a reply that is cut served
    ∷ record { call = ask (take 29 u5_reply) (read 0 1); result = refuses 15 buffer }
    -- a reply of one byte served, or none
    ∷ record { call = ask (0x01 ∷ []) (read 0 1); result = refuses 15 buffer }
    ∷ record { call = ask [] (read 0 1); result = refuses 15 buffer }
    -- a request of 4 bytes served
    ∷ record { call = ask u5_reply (take 4 (read 0 1)); result = refuses 16 buffer }
    -- a request of 6 bytes served
    ∷ record { call = ask u5_reply (read 0 1 ++ (0x00 ∷ [])); result = refuses 16 buffer }
    -- an answer of 251 bytes taken where the exception needs 2
    ∷ record { call = ask_into u5_reply (read 0 0) (replicate 251 255); result = refuses 17 (replicate 251 255) }
    -- the same, for exceptions 1 and 2, and for an answer of 4 bytes
    ∷ record { call = ask_into u5_reply (0x04 ∷ 0x00 ∷ 0x00 ∷ 0x00 ∷ 0x01 ∷ []) (replicate 251 255); result = refuses 17 (replicate 251 255) }
    ∷ record { call = ask_into u5_reply (read 15 1) (replicate 251 255); result = refuses 17 (replicate 251 255) }
    ∷ record { call = ask_into u5_reply (read 0 1) (replicate 251 255); result = refuses 17 (replicate 251 255) }
    -- 16 before 15
    ∷ record { call = ask [] []; result = refuses 15 buffer }
    -- 17 before 15
    ∷ record { call = ask_into [] (read 0 1) []; result = refuses 15 [] }
    -- 17 before 16
    ∷ record { call = ask_into u5_reply [] []; result = refuses 16 [] }
    -- C: the length returned, or written elsewhere than in the first place
    ∷ record { call = panel_ask u5_reply (read 14 1) (pos 8 ∷ pos 9 ∷ []); result = returns 0 ((0x03 ∷ 0x02 ∷ 0x00 ∷ 0x07 ∷ []) ++ replicate 248 255) (pos 4 ∷ pos 9 ∷ []) }
    -- C: a list of one place taken for too short
    ∷ record { call = panel_ask u5_reply (read 0 0) (pos 8 ∷ []); result = returns 0 ((0x83 ∷ 0x03 ∷ []) ++ replicate 250 255) (pos 2 ∷ []) }
    -- C: 15 before 1
    ∷ record { call = panel_ask [] [] []; result = returns 1 buffer [] }
    -- C: 16 before 1
    ∷ record { call = panel_ask u5_reply [] []; result = returns 1 buffer [] }
    -- C: another number than the call's, or the list written before a refusal
    ∷ record { call = panel_ask [] [] (pos 8 ∷ []); result = returns 15 buffer (pos 8 ∷ []) }
    ∷ record { call = panel_ask u5_reply [] (pos 8 ∷ []); result = returns 16 buffer (pos 8 ∷ []) }
    ∷ record { call = panel_ask_into u5_reply (read 0 1) (replicate 251 255) (pos 8 ∷ []); result = returns 17 (replicate 251 255) (pos 8 ∷ []) }
    ∷ []

pub views_hold : Holds result views
unfolding result views
views_hold = refl
