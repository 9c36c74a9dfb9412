use Rattle.std.proofs.Common.{rules}
use Rattle.std.proofs.lemmas.List.{places}
use Rattle.site.proofs.decoding.write_coefficients.Goals as goal

pub returns : goal.returns
returns c =
    rw (c.copy_from_slice.ensures.after, c.from.ensures, c.from-2.ensures, c.from-3.ensures, c.from-4.ensures, c.linear_factor.ensures)
    (record {
      holds =
          record {
            sound = c.requires.0;
            c0 = search (rules, places);
            c1 = search (rules, places);
            c2 = search (rules, places);
            b = search (rules, places);
            factor = search (rules, places);
          };
      kept = record { below = λ k h. search (rules, places); above = λ k h. search (rules, places) };
    })
