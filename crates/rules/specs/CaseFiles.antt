-- The files, rows, replies and units of the example cases. Where a reader and a writer could be wrong alike, the bytes and the rows are spelled out.
use Rattle.std.specs.Prelude.{ℕ, zero, suc, ◌+◌, List, [], ◌∷◌, ◌++◌, ℤ, pos, neg_ℤ, length, replicate, take, drop}
use Rattle.rules.specs.Unit.{Unit}
use Rattle.rules.specs.Layout.{unit_of_row}
use Rattle.rules.specs.Problem.{Offer}

-- U5 is the whole file of rule 15.5, byte by byte.

abbrev pub u5 : List ℕ
u5 =
    0x00 ∷ 0x01 ∷ 0x00 ∷ 0x01 ∷ 0x00 ∷ 0x00 ∷ 0x00 ∷ 0x05 ∷ 0x00 ∷ 0x0C ∷ 0x00 ∷ 0x1E ∷ 0x00 ∷ 0x00 ∷ 0x00 ∷ 0x00 ∷ 0x00 ∷ 0x00
    ∷ 0x27 ∷ 0x10 ∷ 0x03 ∷ 0xE8 ∷ 0x00 ∷ 0x00 ∷ 0x00 ∷ 0x02 ∷ 0x00 ∷ 0x0A ∷ 0x00 ∷ 0x00 ∷ 0x00 ∷ 0x00 ∷ 0x00 ∷ 0x00 ∷ 0x00 ∷ 0x00
    ∷ 0x00 ∷ 0x01 ∷ 0x00 ∷ 0x04 ∷ 0x00 ∷ 0x07 ∷ []

-- units 1 evaluations 18 cost 119000 gap 42000 surplus 200000000, output 7
abbrev pub u5_reply : List ℕ
u5_reply =
    0x00 ∷ 0x01 ∷ 0x00 ∷ 0x12 ∷ 0x00 ∷ 0x00 ∷ 0x00 ∷ 0x00 ∷ 0x00 ∷ 0x01 ∷ 0xD0 ∷ 0xD8 ∷ 0x00 ∷ 0x00 ∷ 0x00 ∷ 0x00 ∷ 0x00 ∷ 0x00
    ∷ 0xA4 ∷ 0x10 ∷ 0x00 ∷ 0x00 ∷ 0x00 ∷ 0x00 ∷ 0x0B ∷ 0xEB ∷ 0xC2 ∷ 0x00 ∷ 0x00 ∷ 0x07 ∷ []

-- two unlike units, byte by byte, so that no field is read only by the writer's twin; d is the demand's last byte
abbrev pub site : ℕ → List ℕ
site d =
    0x00 ∷ 0x01 ∷ 0x00 ∷ 0x02 ∷ 0x00 ∷ 0x00 ∷ 0x00 ∷ d ∷ 0x00 ∷ 0x10 ∷ 0x00 ∷ 0x22 ∷ 0x00 ∷ 0x32 ∷ 0x00 ∷ 0x1A ∷ 0x00 ∷ 0x00
    ∷ 0xC3 ∷ 0x50 ∷ 0x00 ∷ 0x00 ∷ 0x27 ∷ 0x10 ∷ 0x03 ∷ 0xE8 ∷ 0x00 ∷ 0x03 ∷ 0x00 ∷ 0x02 ∷ 0x00 ∷ 0x14 ∷ 0x00 ∷ 0x09 ∷ 0x00 ∷ 0x06
    ∷ 0x00 ∷ 0x04 ∷ 0x00 ∷ 0x01 ∷ 0x00 ∷ 0x02 ∷ 0x00 ∷ 0x04 ∷ 0x00 ∷ 0x07 ∷ 0x00 ∷ 0x0B ∷ 0x00 ∷ 0x0D ∷ 0x00 ∷ 0x00 ∷ 0x00 ∷ 0x07
    ∷ 0x00 ∷ 0x00 ∷ 0x30 ∷ 0x39 ∷ 0x03 ∷ 0x84 ∷ 0x00 ∷ 0x01 ∷ 0x00 ∷ 0x03 ∷ 0x00 ∷ 0x0C ∷ 0x00 ∷ 0x00 ∷ 0x00 ∷ 0x02 ∷ 0x00 ∷ 0x01
    ∷ 0x00 ∷ 0x00 ∷ 0x00 ∷ 0x00 ∷ []

-- units 2 evaluations 18 cost 702747 gap 38999 surplus 99999181, outputs 15 and 12: the reply to `site 26`
abbrev pub site_reply : List ℕ
site_reply =
    0x00 ∷ 0x02 ∷ 0x00 ∷ 0x12 ∷ 0x00 ∷ 0x00 ∷ 0x00 ∷ 0x00 ∷ 0x00 ∷ 0x0A ∷ 0xB9 ∷ 0x1B ∷ 0x00 ∷ 0x00 ∷ 0x00 ∷ 0x00 ∷ 0x00 ∷ 0x00
    ∷ 0x98 ∷ 0x57 ∷ 0x00 ∷ 0x00 ∷ 0x00 ∷ 0x00 ∷ 0x05 ∷ 0xF5 ∷ 0xDD ∷ 0xCD ∷ 0x00 ∷ 0x0F ∷ 0x00 ∷ 0x0C ∷ []

-- units 1 evaluations 2 cost 200000 gap 0 surplus 0, output 10: the reply to U, d 10
abbrev pub u10_reply : List ℕ
u10_reply =
    0x00 ∷ 0x01 ∷ 0x00 ∷ 0x02 ∷ 0x00 ∷ 0x00 ∷ 0x00 ∷ 0x00 ∷ 0x00 ∷ 0x03 ∷ 0x0D ∷ 0x40 ∷ 0x00 ∷ 0x00 ∷ 0x00 ∷ 0x00 ∷ 0x00 ∷ 0x00
    ∷ 0x00 ∷ 0x00 ∷ 0x00 ∷ 0x00 ∷ 0x00 ∷ 0x00 ∷ 0x00 ∷ 0x00 ∷ 0x00 ∷ 0x00 ∷ 0x00 ∷ 0x0A ∷ []

-- the planner's rows of U and of that site
abbrev pub row_of_u : List ℕ
row_of_u = 0 ∷ 10000 ∷ 1000 ∷ 0 ∷ 2 ∷ 10 ∷ 0 ∷ 0 ∷ 0 ∷ 0 ∷ 1 ∷ 4 ∷ 7 ∷ 0 ∷ 0 ∷ 0 ∷ 0 ∷ 0 ∷ 0 ∷ []

abbrev pub rows_of_site : List ℕ
rows_of_site =
    50000 ∷ 10000 ∷ 1000 ∷ 3 ∷ 2 ∷ 20 ∷ 9 ∷ 6 ∷ 4 ∷ 1 ∷ 2 ∷ 4 ∷ 7 ∷ 11 ∷ 13 ∷ 0 ∷ 0 ∷ 0 ∷ 0
    ∷ 7 ∷ 12345 ∷ 900 ∷ 1 ∷ 3 ∷ 12 ∷ 0 ∷ 2 ∷ 1 ∷ 0 ∷ 0 ∷ 0 ∷ 0 ∷ 0 ∷ 0 ∷ 0 ∷ 0 ∷ 0 ∷ 0 ∷ []

-- one unit with each field at the end of its range, d 320,000: c0 1,000,000,000, c1 10,000,000, c2 1,000, b 5,000, least 1, greatest 10,000, previous, up and down 10,000, mark 1, four zones, the first lower edge 2 and the last upper edge 9,999
abbrev pub at_limits : List ℕ
at_limits =
    0x00 ∷ 0x01 ∷ 0x00 ∷ 0x01 ∷ 0x00 ∷ 0x04 ∷ 0xE2 ∷ 0x00 ∷ 0x00 ∷ 0x0C ∷ 0x00 ∷ 0x2A ∷ 0x3B ∷ 0x9A ∷ 0xCA ∷ 0x00 ∷ 0x00 ∷ 0x98
    ∷ 0x96 ∷ 0x80 ∷ 0x03 ∷ 0xE8 ∷ 0x13 ∷ 0x88 ∷ 0x00 ∷ 0x01 ∷ 0x27 ∷ 0x10 ∷ 0x27 ∷ 0x10 ∷ 0x27 ∷ 0x10 ∷ 0x27 ∷ 0x10 ∷ 0x00 ∷ 0x01
    ∷ 0x00 ∷ 0x04 ∷ 0x00 ∷ 0x02 ∷ 0x00 ∷ 0x03 ∷ 0x00 ∷ 0x04 ∷ 0x00 ∷ 0x05 ∷ 0x00 ∷ 0x06 ∷ 0x00 ∷ 0x07 ∷ 0x27 ∷ 0x0E ∷ 0x27 ∷ 0x0F
    ∷ []

-- a list with other numbers from a place on
abbrev pub put : ℕ → List ℕ → List ℕ → List ℕ
put place numbers list = take place list ++ numbers ++ drop (place + length numbers) list

-- a list so many times
abbrev pub copies : ℕ → List ℕ → List ℕ
copies zero list = []
copies (suc n) list = list ++ copies n list

-- U5 damaged, by the number that refuses it: a head of 7 bytes (2), edition 3 (3), no unit (4), d 320,001 (5), a byte too many (6), no zone in a body of 30 bytes (7), c1 10,000,001 (8), a lower edge equal to least (9), mark 2 (10)
abbrev pub short_head : List ℕ
short_head = take 7 u5

abbrev pub other_edition : List ℕ
other_edition = put 0 (0x00 ∷ 0x03 ∷ []) u5

abbrev pub no_unit : List ℕ
no_unit = put 2 (0x00 ∷ 0x00 ∷ []) u5

abbrev pub demand_above : List ℕ
demand_above = put 4 (0x00 ∷ 0x04 ∷ 0xE2 ∷ 0x01 ∷ []) u5

abbrev pub byte_too_many : List ℕ
byte_too_many = u5 ++ (0x00 ∷ [])

abbrev pub no_zone : List ℕ
no_zone = put 36 (0x00 ∷ 0x00 ∷ []) u5

abbrev pub linear_cost_above : List ℕ
linear_cost_above = put 16 (0x00 ∷ 0x98 ∷ 0x96 ∷ 0x81 ∷ []) u5

abbrev pub edge_at_least : List ℕ
edge_at_least = put 38 (0x00 ∷ 0x02 ∷ []) u5

abbrev pub other_mark : List ℕ
other_mark = put 34 (0x00 ∷ 0x02 ∷ []) u5

-- ---- edition 2 (rule 2.10, since S-4)

-- U, d 5, in edition 2, byte by byte, with the four bytes of b1
abbrev pub with_linear_loss : ℕ → ℕ → ℕ → ℕ → List ℕ
with_linear_loss h i j k =
    0x00 ∷ 0x02 ∷ 0x00 ∷ 0x01 ∷ 0x00 ∷ 0x00 ∷ 0x00 ∷ 0x05 ∷ 0x00 ∷ 0x0C ∷ 0x00 ∷ 0x22 ∷ 0x00 ∷ 0x00 ∷ 0x00 ∷ 0x00 ∷ 0x00 ∷ 0x00
    ∷ 0x27 ∷ 0x10 ∷ 0x03 ∷ 0xE8 ∷ 0x00 ∷ 0x00 ∷ 0x00 ∷ 0x02 ∷ 0x00 ∷ 0x0A ∷ 0x00 ∷ 0x00 ∷ 0x00 ∷ 0x00 ∷ 0x00 ∷ 0x00 ∷ 0x00 ∷ 0x00
    ∷ 0x00 ∷ 0x01
    ∷ h ∷ i ∷ j ∷ k ∷ 0x00 ∷ 0x04 ∷ 0x00 ∷ 0x07 ∷ []

-- the two units of `site` in edition 2, byte by byte: b1 is 5,000,000 in the first and −3,000,000 in the second; d is the demand's last byte
abbrev pub site2 : ℕ → List ℕ
site2 d =
    0x00 ∷ 0x02 ∷ 0x00 ∷ 0x02 ∷ 0x00 ∷ 0x00 ∷ 0x00 ∷ d ∷ 0x00 ∷ 0x10 ∷ 0x00 ∷ 0x26 ∷ 0x00 ∷ 0x36 ∷ 0x00 ∷ 0x1E ∷ 0x00 ∷ 0x00
    ∷ 0xC3 ∷ 0x50 ∷ 0x00 ∷ 0x00 ∷ 0x27 ∷ 0x10 ∷ 0x03 ∷ 0xE8 ∷ 0x00 ∷ 0x03 ∷ 0x00 ∷ 0x02 ∷ 0x00 ∷ 0x14 ∷ 0x00 ∷ 0x09 ∷ 0x00 ∷ 0x06
    ∷ 0x00 ∷ 0x04 ∷ 0x00 ∷ 0x01 ∷ 0x00 ∷ 0x02 ∷ 0x00 ∷ 0x4C ∷ 0x4B ∷ 0x40 ∷ 0x00 ∷ 0x04 ∷ 0x00 ∷ 0x07 ∷ 0x00 ∷ 0x0B ∷ 0x00 ∷ 0x0D
    ∷ 0x00 ∷ 0x00 ∷ 0x00 ∷ 0x07 ∷ 0x00 ∷ 0x00 ∷ 0x30 ∷ 0x39 ∷ 0x03 ∷ 0x84 ∷ 0x00 ∷ 0x01 ∷ 0x00 ∷ 0x03 ∷ 0x00 ∷ 0x0C ∷ 0x00 ∷ 0x00
    ∷ 0x00 ∷ 0x02 ∷ 0x00 ∷ 0x01 ∷ 0x00 ∷ 0x00 ∷ 0x00 ∷ 0x00 ∷ 0xFF ∷ 0xD2 ∷ 0x39 ∷ 0x40 ∷ []

-- units 2 evaluations 18 cost 702747 gap 25059 surplus 60999181, outputs 15 and 12: the reply to `site2 26`
abbrev pub site_2_reply : List ℕ
site_2_reply =
    0x00 ∷ 0x02 ∷ 0x00 ∷ 0x12 ∷ 0x00 ∷ 0x00 ∷ 0x00 ∷ 0x00 ∷ 0x00 ∷ 0x0A ∷ 0xB9 ∷ 0x1B ∷ 0x00 ∷ 0x00 ∷ 0x00 ∷ 0x00 ∷ 0x00 ∷ 0x00
    ∷ 0x61 ∷ 0xE3 ∷ 0x00 ∷ 0x00 ∷ 0x00 ∷ 0x00 ∷ 0x03 ∷ 0xA2 ∷ 0xC6 ∷ 0x0D ∷ 0x00 ∷ 0x0F ∷ 0x00 ∷ 0x0C ∷ []

-- a file of edition 1 with one unit in edition 2: its length and b1, each in its bytes
abbrev pub in_edition_2 : ℕ → List ℕ → List ℕ → List ℕ
in_edition_2 length b1 file = take 38 (put 0 (0x00 ∷ 0x02 ∷ []) (put 10 (0x00 ∷ length ∷ []) file)) ++ b1 ++ drop 38 file

-- the largest b, near output 10,000: there 65,536's choices net less than the greatest output
abbrev pub largest_losses : Offer
largest_losses = record { unit = unit_of_row (0 ∷ 10000000 ∷ 1000 ∷ 5000 ∷ 9998 ∷ 10000 ∷ 0 ∷ 0 ∷ 0 ∷ 1 ∷ 0 ∷ replicate 8 0); outputs = 9998 ∷ 9999 ∷ 10000 ∷ [] }

-- lent rows, 608 numbers, and a lent list of three answers
abbrev pub rows_buffer : List ℕ
rows_buffer = replicate 608 9

abbrev pub answers : List ℤ
answers = neg_ℤ (pos 1) ∷ neg_ℤ (pos 2) ∷ neg_ℤ (pos 3) ∷ []

-- U with other numbers in some places: c1, c2, b; previous, up, down, mark; the first zone's edges
abbrev pub unit : ℕ → ℕ → ℕ → ℕ → ℕ → ℕ → ℕ → ℕ → ℕ → Unit
unit c1 c2 b previous up down mark lower upper =
    record {
      c0 = 0;
      c1 = c1;
      c2 = c2;
      b = b;
      b1 = pos 0;
      least = 2;
      greatest = 10;
      previous = previous;
      up = up;
      down = down;
      mark = mark;
      zone_count = 1;
      edges = lower ∷ upper ∷ 0 ∷ 0 ∷ 0 ∷ 0 ∷ 0 ∷ 0 ∷ [];
    }

abbrev pub U : Unit
U = unit 10000 1000 0 0 0 0 0 4 7

abbrev pub lossy : Unit
lossy = unit 10000 1000 1 0 0 0 0 4 7

abbrev pub priced-at : ℕ → ℕ → Unit
priced-at c1 c2 = unit c1 c2 0 0 0 0 0 4 7

abbrev pub marked : ℕ → ℕ → ℕ → ℕ → Unit
marked mark previous up down = unit 10000 1000 0 previous up down mark 4 7

abbrev pub zoned : ℕ → ℕ → Unit
zoned lower upper = unit 10000 1000 0 0 0 0 0 lower upper

-- U with other costs and another mark
abbrev pub costing : ℕ → ℕ → ℕ → ℕ → Unit
costing c0 c1 c2 mark =
    record {
      c0 = c0;
      c1 = c1;
      c2 = c2;
      b = 0;
      b1 = pos 0;
      least = 2;
      greatest = 10;
      previous = 0;
      up = 0;
      down = 0;
      mark = mark;
      zone_count = 1;
      edges = 4 ∷ 7 ∷ 0 ∷ 0 ∷ 0 ∷ 0 ∷ 0 ∷ 0 ∷ [];
    }

-- U with other zones, and with another ramp and mark
abbrev pub with_zones : ℕ → List ℕ → ℕ → ℕ → ℕ → ℕ → Unit
with_zones z edges previous up down mark =
    record {
      c0 = 0;
      c1 = 10000;
      c2 = 1000;
      b = 0;
      b1 = pos 0;
      least = 2;
      greatest = 10;
      previous = previous;
      up = up;
      down = down;
      mark = mark;
      zone_count = z;
      edges = edges;
    }

-- U with zones 4 to 7 and 7 to 9; and its file for a demand of one byte, its last ten bytes written out
abbrev pub shared_edge : Unit
shared_edge = with_zones 2 (4 ∷ 7 ∷ 7 ∷ 9 ∷ 0 ∷ 0 ∷ 0 ∷ 0 ∷ []) 0 0 0 0

abbrev pub shared_edge_file : ℕ → List ℕ
shared_edge_file d = take 36 (put 7 (d ∷ []) (put 10 (0x00 ∷ 0x22 ∷ []) u5)) ++ (0x00 ∷ 0x02 ∷ 0x00 ∷ 0x04 ∷ 0x00 ∷ 0x07 ∷ 0x00 ∷ 0x07 ∷ 0x00 ∷ 0x09 ∷ [])
