-- Rule 17.7 of docs/SPECIFICATION.md: zones that share an edge (since S-13), case by case. Above each row stands the wrong rule that it shows.
use Rattle.std.specs.Prelude.{List, [], ◌∷◌, refl}
use Rattle.rules.specs.Lists.{over}
use Rattle.rules.specs.Layout.{file_of}
use Rattle.rules.specs.TableRows.{Row, Holds}
use Rattle.rules.specs.Cases.{Call, Answer, answer, buffer, reply, dispatch, pack, check, unpack_into, divide, writes, refuses, checks, reads, divides}
use Rattle.rules.specs.CaseFiles.{put, row_of_u, rows_buffer, in_edition_2, with_zones, shared_edge, shared_edge_file}

unfoldable pub shared_edges : List (Row Call Answer)
shared_edges =
    -- number 9 at a shared edge, or the edge prohibited
    record { call = dispatch (shared_edge_file 7); result = reply (7 ∷ []) 119000 0 15 0 }
    -- the single output passed over: 9
    ∷ record { call = dispatch (shared_edge_file 5); result = reply (7 ∷ []) 119000 42000 18 200000000 }
    -- the outputs beside it permitted
    ∷ record { call = dispatch (shared_edge_file 8); result = reply (9 ∷ []) 171000 26000 18 100000000 }
    -- no tie at it
    ∷ record { call = dispatch (file_of 11 (shared_edge ∷ shared_edge ∷ [])); result = reply (4 ∷ 7 ∷ []) 175000 0 18 0 }
    -- the floor taken without it
    ∷ record { call = dispatch (file_of 13 (shared_edge ∷ shared_edge ∷ [])); result = reply (7 ∷ 7 ∷ []) 238000 21000 18 100000000 }
    -- one shared edge at the most
    ∷ record { call = dispatch (file_of 7 (with_zones 3 (3 ∷ 5 ∷ 5 ∷ 7 ∷ 7 ∷ 9 ∷ 0 ∷ 0 ∷ []) 0 0 0 0 ∷ [])); result = reply (7 ∷ []) 119000 0 15 0 }
    -- four zones of which none has an output strictly inside
    ∷ record { call = dispatch (file_of 7 (with_zones 4 (3 ∷ 4 ∷ 4 ∷ 5 ∷ 5 ∷ 6 ∷ 6 ∷ 7 ∷ []) 0 0 0 0 ∷ [])); result = reply (7 ∷ []) 119000 0 15 0 }
    -- a ramp window of the single output empty
    ∷ record { call = dispatch (file_of 0 (with_zones 2 (4 ∷ 7 ∷ 7 ∷ 9 ∷ 0 ∷ 0 ∷ 0 ∷ 0 ∷ []) 7 0 0 1 ∷ [])); result = reply (7 ∷ []) 119000 0 1 700000000 }
    -- a neighbour in the window permitted
    ∷ record { call = dispatch (file_of 0 (with_zones 2 (4 ∷ 7 ∷ 7 ∷ 9 ∷ 0 ∷ 0 ∷ 0 ∷ 0 ∷ []) 7 1 1 1 ∷ [])); result = reply (7 ∷ []) 119000 0 1 700000000 }
    -- the single output permitted outside the window
    ∷ record { call = dispatch (file_of 0 (with_zones 2 (4 ∷ 7 ∷ 7 ∷ 9 ∷ 0 ∷ 0 ∷ 0 ∷ 0 ∷ []) 9 1 1 1 ∷ [])); result = reply (9 ∷ []) 171000 0 1 900000000 }
    ∷ record { call = dispatch (file_of 0 (with_zones 2 (4 ∷ 7 ∷ 7 ∷ 9 ∷ 0 ∷ 0 ∷ 0 ∷ 0 ∷ []) 5 1 0 1 ∷ [])); result = refuses 11 buffer }
    -- edition 2 refused, or with the neighbours; b1 10,000,000
    ∷ record { call = dispatch (in_edition_2 0x26 (0x00 ∷ 0x98 ∷ 0x96 ∷ 0x80 ∷ []) (shared_edge_file 7)); result = reply (9 ∷ []) 171000 31900 18 110000000 }
    -- rows refused, or the zones joined where they are written
    ∷ record { call = pack 7 (put 10 (2 ∷ 4 ∷ 7 ∷ 7 ∷ 9 ∷ []) row_of_u); result = writes 46 (over (shared_edge_file 7) buffer) }
    -- or where they are read
    ∷ record { call = unpack_into (shared_edge_file 7) rows_buffer; result = reads 7 1 (over (put 10 (2 ∷ 4 ∷ 7 ∷ 7 ∷ 9 ∷ []) row_of_u) rows_buffer) }
    -- no region of its own
    ∷ record { call = divide shared_edge; result = divides (0 ∷ 0 ∷ 2 ∷ 4 ∷ 7 ∷ 7 ∷ 9 ∷ 10 ∷ []) }
    ∷ []

-- number 9, as before, and the numbers around it
unfoldable pub edges_refused : List (Row Call Answer)
edges_refused =
    -- an upper edge equal to its lower edge
    record { call = check (file_of 5 (with_zones 2 (4 ∷ 7 ∷ 7 ∷ 7 ∷ []) 0 0 0 0 ∷ [])); result = checks 9 }
    -- the first lower edge equal to least
    ∷ record { call = check (file_of 5 (with_zones 2 (2 ∷ 4 ∷ 4 ∷ 7 ∷ []) 0 0 0 0 ∷ [])); result = checks 9 }
    -- the last upper edge equal to greatest
    ∷ record { call = check (file_of 5 (with_zones 2 (4 ∷ 7 ∷ 7 ∷ 10 ∷ []) 0 0 0 0 ∷ [])); result = checks 9 }
    -- zones that overlap by one
    ∷ record { call = check (file_of 5 (with_zones 2 (4 ∷ 7 ∷ 6 ∷ 9 ∷ []) 0 0 0 0 ∷ [])); result = checks 9 }
    -- only the first two looked at
    ∷ record { call = check (file_of 5 (with_zones 3 (4 ∷ 7 ∷ 7 ∷ 9 ∷ 8 ∷ 9 ∷ []) 0 0 0 0 ∷ [])); result = checks 9 }
    -- the zones in another order
    ∷ record { call = check (file_of 5 (with_zones 2 (7 ∷ 9 ∷ 4 ∷ 7 ∷ []) 0 0 0 0 ∷ [])); result = checks 9 }
    -- the same in rows
    ∷ record { call = pack 5 (put 10 (2 ∷ 4 ∷ 7 ∷ 6 ∷ 9 ∷ []) row_of_u); result = refuses 9 buffer }
    ∷ record { call = pack 5 (put 10 (2 ∷ 2 ∷ 4 ∷ 4 ∷ 7 ∷ []) row_of_u); result = refuses 9 buffer }
    -- 9 where the mark is wrong
    ∷ record { call = check (put 34 (0x00 ∷ 0x02 ∷ []) (shared_edge_file 5)); result = checks 10 }
    -- 9 before 8
    ∷ record { call = check (put 12 (0x3B ∷ 0x9A ∷ 0xCA ∷ 0x01 ∷ []) (shared_edge_file 5)); result = checks 8 }
    ∷ []

pub shared_edges_hold : Holds answer shared_edges
unfolding answer shared_edges
shared_edges_hold = refl

pub edges_refused_hold : Holds answer edges_refused
unfolding answer edges_refused
edges_refused_hold = refl
