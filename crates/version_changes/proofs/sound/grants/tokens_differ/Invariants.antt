use Rattle.std.proofs.Common.{drop, map}
use Rattle.std.specs.Prelude.{bytes_eq}
use Rattle.std.specs.List.{IsDistinct}
use Rattle.version_core.specs.Grants.{token_of}
use Rattle.version_changes.proofs.sound.grants.tokens_differ.Given as goal

-- no two have one token where no two of those that are left have
abbrev pub invariant-loop-place : goal.invariant-loop-place
invariant-loop-place l = IsDistinct bytes_eq (map token_of (drop l.place l.grants)) → IsDistinct bytes_eq (map token_of l.grants)
