-- Rule 17.6 of docs/SPECIFICATION.md: files of one site at two demands (S-12), the lower demand's row first. Above each pair stands what it shows.
use Rattle.std.specs.Prelude.{true, false, List, [], ◌∷◌, ◌≡◌, refl, ℕ, pos, replicate}
use Rattle.rules.specs.Layout.{case_of, file_of, unit_of_row}
use Rattle.rules.specs.Unit.{Unit}
use Rattle.rules.specs.TableRows.{Row, Holds}
use Rattle.rules.specs.Cases.{Call, Answer, answer, buffer, reply, dispatch, price, refuses, values}
use Rattle.rules.specs.CaseFiles.{u5, put, with_linear_loss, U}
use Rattle.rules.specs.Loads.{SameButDemand}

-- the file with another demand, of one byte: bytes 4 to 7 alone may differ
abbrev pub at_demand : ℕ → List ℕ → List ℕ
at_demand d file = put 4 (0 ∷ 0 ∷ 0 ∷ d ∷ []) file

-- U without its zone
abbrev pub zoneless : Unit
zoneless = unit_of_row (0 ∷ 10000 ∷ 1000 ∷ 0 ∷ 2 ∷ 10 ∷ replicate 13 0)

unfoldable pub loads : List (Row Call Answer)
loads =
    -- cost need not grow; gap, surplus and evaluations fall
    record { call = dispatch (at_demand 5 u5); result = reply (7 ∷ []) 119000 42000 18 200000000 }
    ∷ record { call = dispatch (at_demand 7 u5); result = reply (7 ∷ []) 119000 0 15 0 }
    -- that the lower is solved says nothing of the higher
    ∷ record { call = dispatch (at_demand 10 u5); result = reply (10 ∷ []) 200000 0 2 0 }
    ∷ record { call = dispatch (at_demand 11 u5); result = refuses 11 buffer }
    -- the lower demand met by choices as they are, the higher by lowered ones
    ∷ record { call = dispatch (file_of 4 (U ∷ U ∷ [])); result = reply (2 ∷ 2 ∷ []) 48000 0 16 0 }
    ∷ record { call = dispatch (file_of 5 (U ∷ U ∷ [])); result = reply (2 ∷ 3 ∷ []) 63000 0 18 0 }
    -- with more to spare, one unit more is lowered: both at 15
    ∷ record { call = dispatch (file_of 7 (U ∷ U ∷ U ∷ [])); result = reply (2 ∷ 2 ∷ 3 ∷ []) 87000 0 18 0 }
    ∷ record { call = dispatch (file_of 8 (U ∷ U ∷ U ∷ [])); result = reply (2 ∷ 3 ∷ 3 ∷ []) 102000 0 18 0 }
    -- one unit's output falls with more load
    ∷ record { call = dispatch (file_of 10 (U ∷ zoneless ∷ [])); result = reply (4 ∷ 6 ∷ []) 152000 0 18 0 }
    ∷ record { call = dispatch (file_of 12 (U ∷ zoneless ∷ [])); result = reply (7 ∷ 5 ∷ []) 194000 0 18 0 }
    -- no load, and the greatest that is covered
    ∷ record { call = dispatch (at_demand 0 u5); result = reply (0 ∷ []) 0 0 1 0 }
    ∷ record { call = dispatch (at_demand 10 u5); result = reply (10 ∷ []) 200000 0 2 0 }
    -- edition 2, b1 10,000,000
    ∷ record { call = dispatch (at_demand 5 (with_linear_loss 0x00 0x98 0x96 0x80)); result = reply (7 ∷ []) 119000 30800 18 130000000 }
    ∷ record { call = dispatch (at_demand 7 (with_linear_loss 0x00 0x98 0x96 0x80)); result = reply (8 ∷ []) 144000 5600 18 20000000 }
    -- the same units in two editions
    ∷ record { call = dispatch (at_demand 5 u5); result = reply (7 ∷ []) 119000 42000 18 200000000 }
    ∷ record { call = dispatch (at_demand 6 (with_linear_loss 0x00 0x00 0x00 0x00)); result = reply (7 ∷ []) 119000 21000 18 100000000 }
    -- pricing at one multiplier
    ∷ record { call = price (at_demand 5 u5) 21; result = values (pos 7700000000) true }
    ∷ record { call = price (at_demand 6 u5) 21; result = values (pos 9800000000) true }
    -- what covers the lower demand may not cover the higher
    ∷ record { call = price (at_demand 7 u5) 21; result = values (pos 11900000000) true }
    ∷ record { call = price (at_demand 8 u5) 21; result = values (pos 14000000000) false }
    ∷ []

-- such a pair of files: the same bytes but for the demand; and the same units in two editions
pub same_but_demand : SameButDemand (at_demand 5 u5) (at_demand 7 u5)
same_but_demand = record { before = refl; behind = refl }

pub same_units : (case_of (at_demand 5 u5)).units ≡ (case_of (at_demand 6 (with_linear_loss 0x00 0x00 0x00 0x00))).units
unfolding answer
same_units = refl

pub loads_hold : Holds answer loads
unfolding answer loads
loads_hold = refl
