-- How many more regions may be split off.
use Rattle.refining.proofs.visiting.+visit.Given as goal

abbrev pub decreases-visit : goal.decreases-visit
decreases-visit l = l.left
