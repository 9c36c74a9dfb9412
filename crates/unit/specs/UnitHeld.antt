-- A unit of the rules as the code's struct holds it, number by number.
use Rattle.rules.specs.Unit.{Unit}
use Rattle.unit.specs.declared.Unit as code

abbrev pub unit_held : code.Unit → Unit
unit_held u =
    record {
      c0 = u.c0;
      c1 = u.c1;
      c2 = u.c2;
      b = u.b;
      b1 = u.b1;
      least = u.least;
      greatest = u.greatest;
      previous = u.previous;
      up = u.up;
      down = u.down;
      mark = u.mark;
      zone_count = u.zone_count;
      edges = u.edges;
    }
