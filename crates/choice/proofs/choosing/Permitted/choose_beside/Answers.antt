-- The vertex lies in the region that reaches it first, behind that region's start, or at the start or before it (`Regions`).
use Rattle.choice.proofs.Regions.{alone, tied_pair, lowest-only, before_small, behind-small, between-regions}
use Rattle.choice.proofs.Giving.{gives_only, gives_both}
use Rattle.choice.proofs.choosing.Permitted.choose_beside.Goals as goal

pub returns-then-tied : goal.returns-then-tied
returns-then-tied c = gives_both c.both.ensures (tied_pair c.requires c.region_reaching-k.ensures c.if-low-v.true c.if-tied.true)

pub returns-else-tied : goal.returns-else-tied
returns-else-tied c = gives_only c.only.ensures (alone c.requires c.region_reaching-k.ensures c.if-low-v.true c.if-tied.false)

pub returns-then-k-self : goal.returns-then-k-self
returns-then-k-self c = gives_only c.only-then-k-self.ensures (lowest-only c.requires c.region_reaching-k.ensures c.if-low-v.false c.if-k-self.true)

pub better-requires : goal.better-requires
better-requires c =
    let b = c.requires in
    let q = c.region_reaching-k.ensures in
    (b.running.curve, before_small b q c.if-low-v.false c.if-k-self.false, behind-small b q c.if-low-v.false c.if-k-self.false)

pub returns-else-k-self : goal.returns-else-k-self
returns-else-k-self c =
    record {
      chosen = rw (c.better.ensures.0, c.better.ensures.1) (between-regions c.requires c.region_reaching-k.ensures c.if-low-v.false c.if-k-self.false);
      alone = c.better.ensures.2;
    }
