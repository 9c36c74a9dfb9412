-- Rules 2.1 to 3.6 of docs/SPECIFICATION.md: the planner's row and the file's body that spell a unit, and the whole file. Fields are big-endian (`fields`). A body is laid out by the file's edition e, where it is read and where it is written.
use Rattle.std.specs.Prelude.{ℕ, ◌+◌, ◌*◌, ◌/◌, cond, List, [], ◌∷◌, ◌++◌, map, ltb, eqb, ℤ, pos, length, get_or, take, drop}
use Rattle.fields.specs.Field.{field, signed_field, unsigned, bytes, bytes_of_each}
use Rattle.rules.specs.Lists.{each, sum}
use Rattle.rules.specs.Unit.{Unit, with_loss}

-- ---- (rules 3.1, 3.2, 3.5) a row: the eleven numbers of a body of edition 1 before its edges, in the same order, then eight edges, of which the unused are zero; it has no b1

unfoldable pub unit_of_row : List ℕ → Unit
unit_of_row row =
    record {
      c0 = get_or row 0 0;
      c1 = get_or row 1 0;
      c2 = get_or row 2 0;
      b = get_or row 3 0;
      b1 = pos 0;
      least = get_or row 4 0;
      greatest = get_or row 5 0;
      previous = get_or row 6 0;
      up = get_or row 7 0;
      down = get_or row 8 0;
      mark = get_or row 9 0;
      zone_count = get_or row 10 0;
      edges = take 8 (drop 11 row);
    }

unfoldable pub row_of_unit : Unit → List ℕ
row_of_unit u =
    u.c0 ∷ u.c1 ∷ u.c2 ∷ u.b ∷ u.least ∷ u.greatest ∷ u.previous ∷ u.up ∷ u.down ∷ u.mark ∷ u.zone_count ∷ u.edges

-- row i, counted from 0, and its unit; (rule 3.6) b1 is entry i of a list beside the rows, and 0 where it has none
abbrev pub row_at : List ℕ → ℕ → List ℕ
row_at rows i = take 19 (drop (19 * i) rows)

abbrev pub unit_in_row : List ℕ → List ℤ → ℕ → Unit
unit_in_row rows b1 i = with_loss (unit_of_row (row_at rows i)) (get_or b1 i (pos 0))

unfoldable pub units_of_rows : List ℕ → List ℤ → List Unit
units_of_rows rows b1 = each (length rows / 19) (unit_in_row rows b1)

unfoldable pub rows_of_units : List Unit → List ℕ
rows_of_units [] = []
rows_of_units (u ∷ us) = row_of_unit u ++ rows_of_units us

-- ---- a body of edition e: the table of rule 2.6

-- (rule 2.10, since S-4) edition 2 has b1 in the four bytes from 26 on, and the edges behind it; in edition 1 the edges stand there, and b1 is 0
abbrev pub linear_loss : ℕ → List ℕ → ℤ
linear_loss e body = cond (eqb e 2) (signed_field body 26 4) (pos 0)

abbrev pub edges_start : ℕ → ℕ
edges_start e = cond (eqb e 2) 30 26

-- what edition 2 alone has, so much of it
abbrev pub in_second : ℕ → ℕ → ℕ
in_second e n = cond (eqb e 2) n 0

-- edge k of a body with z zones; the unused ones are zero
unfoldable pub edge_of_body : ℕ → List ℕ → ℕ → ℕ → ℕ
edge_of_body e body z k = cond (ltb k (2 * z)) (field body (edges_start e + 2 * k) 2) 0

unfoldable pub unit_of_body : ℕ → List ℕ → Unit
unit_of_body e body =
    record {
      c0 = field body 0 4;
      c1 = field body 4 4;
      c2 = field body 8 2;
      b = field body 10 2;
      b1 = linear_loss e body;
      least = field body 12 2;
      greatest = field body 14 2;
      previous = field body 16 2;
      up = field body 18 2;
      down = field body 20 2;
      mark = field body 22 2;
      zone_count = field body 24 2;
      edges = each 8 (edge_of_body e body (field body 24 2));
    }

-- (rule 2.7) how long a body with z zones is
abbrev pub body_length : ℕ → ℕ → ℕ
body_length e z = edges_start e + 4 * z

-- the body of a unit; b1 takes four bytes in edition 2, none in edition 1
unfoldable pub body_of_unit : ℕ → Unit → List ℕ
body_of_unit e u =
    bytes 4 u.c0 ++ bytes 4 u.c1 ++ bytes 2 u.c2 ++ bytes 2 u.b ++ bytes 2 u.least ++ bytes 2 u.greatest
    ++ bytes 2 u.previous ++ bytes 2 u.up ++ bytes 2 u.down ++ bytes 2 u.mark ++ bytes 2 u.zone_count
    ++ bytes (in_second e 4) (unsigned 4 u.b1) ++ bytes_of_each 2 (take (2 * u.zone_count) u.edges)

-- ---- the file (rules 2.2 to 2.4): a head of 8 bytes, the contents (the file's directory: 4 bytes to a unit), the bodies

abbrev pub edition : List ℕ → ℕ
edition file = field file 0 2

abbrev pub count : List ℕ → ℕ
count file = field file 2 2

abbrev pub demand : List ℕ → ℕ
demand file = field file 4 4

-- the entry of unit i, counted from 0: its offset and its length
abbrev pub offset : List ℕ → ℕ → ℕ
offset file i = field file (8 + 4 * i) 2

abbrev pub size : List ℕ → ℕ → ℕ
size file i = field file (10 + 4 * i) 2

-- (rule 2.6) the body of unit i: the bytes from its offset on, as many as its length says
abbrev pub body : List ℕ → ℕ → List ℕ
body file i = take (size file i) (drop (offset file i) file)

-- unit i of a file
abbrev pub unit_at : List ℕ → ℕ → Unit
unit_at file i = unit_of_body (edition file) (body file i)

-- A case is a dispatch problem's data: the demand and the units.
pub record Case : Type 0 where
  pub demand : ℕ
  pub units : List Unit

unfoldable pub case_of : List ℕ → Case
case_of file = record { demand = demand file; units = each (count file) (unit_at file) }

-- ---- a file of edition e, as packing writes it

-- the entries of units whose bodies start at a place
unfoldable pub contents_from : ℕ → ℕ → List Unit → List ℕ
contents_from e at [] = []
contents_from e at (u ∷ us) = bytes 2 at ++ bytes 2 (body_length e u.zone_count) ++ contents_from e (at + body_length e u.zone_count) us

unfoldable pub bodies_of : ℕ → List Unit → List ℕ
bodies_of e [] = []
bodies_of e (u ∷ us) = body_of_unit e u ++ bodies_of e us

-- how long the bodies are together
abbrev pub bodies_length : ℕ → List Unit → ℕ
bodies_length e us = sum (map (λ u. body_length e u.zone_count) us)

unfoldable pub file_in : ℕ → ℕ → List Unit → List ℕ
file_in e d us = bytes 2 e ++ bytes 2 (length us) ++ bytes 4 d ++ contents_from e (8 + 4 * length us) us ++ bodies_of e us

-- of edition 1
abbrev pub file_of : ℕ → List Unit → List ℕ
file_of d us = file_in 1 d us
