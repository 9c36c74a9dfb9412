-- From the start, 18 evaluations are the whole search (`Finding`).
use Rattle.std.proofs.Common.{◌≡◌, to_z, of_z, w64, rules}
use Rattle.bisection.proofs.Finding.{searches}
use Rattle.bisection.proofs.steps.search.Goals as goal

pub returns : goal.returns
returns c =
    let r = c.search_from-floor in
    let kept : to_z w64 (of_z w64 r.result.floor) ≡ r.result.floor = search rules in
    rw kept (searches _ r.result r.ensures c.requires.1)
