-- Eight edges that are all carried over are the same list.
use Rattle.std.proofs.Common.{◌≡◌, length, arith, rules}
use lib.Seq.{ext_get_or}
use Rattle.regions.proofs.narrow.Goals as goal

pub returns : goal.returns
returns c =
    let eight : length c.args.edges ≡ 8 = search rules in
    ext_get_or 0 c.loop-k.narrowed c.args.edges (omega arith) (λ i l. c.loop-k.invariant.1 i (omega arith))
