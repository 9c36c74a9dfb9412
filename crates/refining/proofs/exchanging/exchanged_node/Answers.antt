-- A sum with one term exchanged (crate `sums`).
use Rattle.std.proofs.Common.{refl}
use Rattle.evaluation.proofs.Offers.{offer-available}
use Rattle.sums.proofs.Summed.{exchanged_sums, exchangeable}
use Rattle.refining.proofs.exchanging.exchanged_node.Goals as goal

pub exchanged-requires : goal.exchanged-requires
exchanged-requires c =
    let p = c.requires in
    exchangeable p.available p.few p.place (offer-available p.unit.holds) p.sums.sums.low p.sums.low (c.unit_terms-terms.ensures.low _ p.unit.holds)

pub exchanged-requires-2 : goal.exchanged-requires-2
exchanged-requires-2 c =
    let p = c.requires in
    exchangeable p.available p.few p.place (offer-available p.unit.holds) p.sums.sums.high p.sums.high (c.unit_terms-terms.ensures.high _ p.unit.holds)

pub returns : goal.returns
returns c =
    record {
      parent = refl;
      multiplier = refl;
      sums = λ os o place s h.
          let t = c.unit_terms-terms.ensures in
          record { low = exchanged_sums place s.sums.low s.low (t.low o h) c.exchanged.ensures; high = exchanged_sums place s.sums.high s.high (t.high o h) c.exchanged-2.ensures };
    }
