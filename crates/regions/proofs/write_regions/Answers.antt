-- The loop keeps what `Dividing` says of its locals; each interval is a `Turn`.
use Rattle.std.proofs.Common.{◌*◌, get_or, refl, arith}
use Rattle.unit.specs.UnitHeld.{unit_held}
use Rattle.rules.proofs.Sound.{edge-small}
use Rattle.regions.proofs.Windowed.{windowed}
use Rattle.regions.proofs.Dividing.{Turn, standing, standing-kept, dividing-starts, dividing-more, dividing-ends}
use Rattle.regions.proofs.write_regions.Goals as goal

pub narrow-edges-requires : goal.narrow-edges-requires
narrow-edges-requires c = edge-small c.requires.0

pub loop-k-init : goal.loop-k-init
loop-k-init c = rw c.from.ensures (dividing-starts c.requires.0 c.args.start c.args.ends.now c.requires.1)

-- the interval before zone k
pub write_region-next-requires : goal.write_region-next-requires
write_region-next-requires c = omega (arith, c.requires.0.zone_count)

pub loop-k-preserved : goal.loop-k-preserved
loop-k-preserved c =
    let turn : Turn (unit_held c.args.u) c.args.start (standing c.args.ends.now c.args.start) c.loop-k.ends c.loop-k.next c.loop-k.from c.loop-k.k c.max.result c.min.result =
    record {
      sound = c.requires.0;
      dividing = c.loop-k.invariant;
      window = c.ramp_window-ramp.result;
      windowed = windowed c.requires.0 c.ramp_window-ramp.ensures;
      end = get_or c.narrow-edges.result (2 * c.loop-k.k) 0;
      ends_at = (λ h. rw c.narrow-edges.ensures, λ h. absurd (omega arith));
      lower = c.max.ensures;
      upper = c.min.ensures;
    } in
    rw (c.write_region-next.ensures.written, c.write_region-next.ensures.counted, c.narrow-edges.ensures) (dividing-more turn c.loop-k-test.true)

-- the interval behind the last zone
pub write_region-requires : goal.write_region-requires
write_region-requires c = omega (arith, c.requires.0.zone_count)

pub returns : goal.returns
returns c =
    let turn : Turn (unit_held c.args.u) c.args.start (standing c.args.ends.now c.args.start) c.loop-k.ends c.loop-k.next c.loop-k.from c.loop-k.k c.max-2.result c.min-2.result =
    record {
      sound = c.requires.0;
      dividing = c.loop-k.invariant;
      window = c.ramp_window-ramp.result;
      windowed = windowed c.requires.0 c.ramp_window-ramp.ensures;
      end = c.args.u.greatest;
      ends_at = (λ h. absurd (omega arith), λ h. refl);
      lower = c.max-2.ensures;
      upper = c.min-2.ensures;
    } in
    rw (c.write_region.ensures.written, c.write_region.ensures.counted) (dividing-ends turn (omega arith) (standing-kept c.args.ends.now c.args.start c.requires.1))
