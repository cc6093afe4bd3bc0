-- The measure of `stabbing_query::descend` is the number of heads not yet visited. Assumes nothing.
use Rattle.stabbing_query.proofs.Walking.{unvisited}
use Rattle.stabbing_query.proofs.+descend.Given as goal

abbrev pub decreases-descend : goal.decreases-descend
decreases-descend l = unvisited l.index.now l.w
