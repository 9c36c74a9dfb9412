-- What the search found can be stated, and is the rules' solution (`Solved`).
use Rattle.solving.proofs.Solved.{stateable, solved}
use Rattle.solving.proofs.solve.Goals as goal

pub stated-requires : goal.stated-requires
stated-requires c = stateable c.requires c.search.ensures

pub returns : goal.returns
returns c = solved c.stated.ensures c.search.ensures
