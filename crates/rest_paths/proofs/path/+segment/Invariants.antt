use Rattle.rest_paths.proofs.path.+segment.Given as goal

abbrev pub decreases-segment : goal.decreases-segment
decreases-segment l = l.place
