use Rattle.std.proofs.Common.{◌≡◌, length}
use denote.Text.{Utf8}
use denote.Shadow.{shadow}
use Rattle.roster_texts.specs.Trim.{without_end}
use Rattle.roster_texts.proofs.trim.drop_end.Given as goal

abbrev pub invariant-loop-shorter : goal.invariant-loop-shorter
invariant-loop-shorter l = record {
  text : shadow (Utf8 l.rest);
  same : without_end l.text ≡ without_end l.rest;
}

abbrev pub decreases-loop-shorter : goal.decreases-loop-shorter
decreases-loop-shorter l = length l.rest
