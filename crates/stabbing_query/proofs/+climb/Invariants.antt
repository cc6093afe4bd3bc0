-- The measure of `stabbing_query::climb` is the mark. Assumes nothing.
use Rattle.stabbing_query.proofs.+climb.Given as goal

abbrev pub decreases-climb : goal.decreases-climb
decreases-climb l = l.m
