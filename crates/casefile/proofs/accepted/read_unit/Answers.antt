-- An accepted body lies in the file.
use Rattle.casefile.proofs.File.{accepted-inside}
use Rattle.casefile.proofs.accepted.read_unit.Goals as goal

pub body_of-requires : goal.body_of-requires
body_of-requires c = accepted-inside c.args.file.now c.requires.file_value c.args.i c.requires.i_bound
