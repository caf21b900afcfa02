-- Runs, line by line.
use Rattle.std.proofs.Common.{◌≡◌, ◌<◌, ◌+◌, ℕ, List, [], ◌∷◌, ◌++◌, Option, Result, Ok, Err, IsErr, add-one}
use Rattle.std.proofs.Common.{append-nil, get_or, length, refl, subst, sym, take, ap, ◌∙◌, arith}
use Rattle.std.proofs.Math.Seq.{take-suc}
use Rattle.std.proofs.lemmas.Grind.{flat_map-append}
use Rattle.std.specs.Io.KnownBytes.{Appends}
use Rattle.keeper_memory.specs.Calls.{calls_stay}
use Rattle.keeper_memory.specs.Failures.{planned}
use Rattle.keeper_memory.specs.copy.HeldCopy.{empty_copy}
use Rattle.outside_ports.proofs.Appending.{appends_both, appends_none, part_behind}
use Rattle.outside_ports.specs.Files.{Stored}
use Rattle.outside_ports.specs.Written.{AppendsPart}
use Rattle.outside_ports.specs.Written as written
use Rattle.outside_ports.specs.declared.failed.Failed.{Failed}
use Rattle.script_runs.specs.Plays.{LineStep, Sound}
use Rattle.script_runs.specs.Runs.{IsRun, Opens, RunsFirst, Stage, Writes, end_of, first_moment, keep_in, printed}
use Rattle.script_runs.specs.declared.play.Play.{Play}
use Rattle.script_runs.specs.declared.run.ScriptEnd.TheVariants as end
use Rattle.script_runs.specs.declared.sources.Stop.{Stop}
use Rattle.script_runs.specs.declared.sources.Stop.TheVariants as stop
use Rattle.sync_world.specs.Links.{fresh_link}
use Rattle.sync_world.specs.Worlds.{all_of}
use Rattle.version_core.specs.Version.{empty_version}
use Rattle.world_scripts.specs.declared.script.Line.{Line}

-- the world behind the last of some stages
abbrev behind : Play → List Stage → Play
behind world [] = world
behind world (stage ∷ stages) = behind stage.world stages

module _ (files : Option (List Stored)) where
  -- a run goes on by one line
  run_on : (world : Play) (lines : List Line) (stages : List Stage) (l : Line) (stage : Stage) → IsRun files world lines stages
      → LineStep files l (behind world stages) stage.world stage.text → Sound stage.world → IsRun files world (lines ++ l ∷ []) (stages ++ stage ∷ [])
  run_on world [] [] l stage run step sound = (step, sound, tt)
  run_on world [] (one ∷ stages) l stage run step sound = absurd run
  run_on world (one ∷ lines) [] l stage run step sound = absurd run
  run_on world (one ∷ lines) (first ∷ stages) l stage run step sound = (run.0, run.1, run_on first.world lines stages l stage run.2 step sound)

take_next : (lines : List Line) (i : ℕ) (d : Line) → i < length lines → take (i + 1) lines ≡ take i lines ++ get_or lines i d ∷ []
take_next lines i d within = rw add-one (take-suc lines i d within)

behind_on : (world : Play) (stages : List Stage) (stage : Stage) → behind world (stages ++ stage ∷ []) ≡ stage.world
behind_on world [] stage = refl
behind_on world (one ∷ stages) stage = behind_on one.world stages stage

printed_on : (stages : List Stage) (stage : Stage) → printed (stages ++ stage ∷ []) ≡ printed stages ++ stage.text
printed_on stages stage = flat_map-append (λ (s : Stage). s.text) stages (stage ∷ []) ∙ ap (λ (t : List ℕ). printed stages ++ t) (append-nil stage.text)

-- so many lines were gone through, up to this world, and what they print was written
pub record Gone (files : Option (List Stored)) (lines : List Line) (i : ℕ) (world : Play) (old new : Option (List ℕ)) : Type 0 where
  pub first : RunsFirst files lines i
  pub at : behind first.begin first.stages ≡ world
  pub sound : Sound world
  pub wrote : Appends old new (printed first.stages)

pub gone_none : (files : Option (List Stored)) (lines : List Line) (world : Play) (old : Option (List ℕ)) → Opens (keep_in lines) world → Sound world → Gone files lines 0 world old old
gone_none files lines world old opens sound = record { first = record { begin = world; opens = opens; stages = []; run = tt }; at = refl; sound = sound; wrote = appends_none old }

-- one line more makes this of the world, and prints that
module _ {files : Option (List Stored)} {lines : List Line} {i : ℕ} {world new : Play} {old mid : Option (List ℕ)} {l : Line} (d : Line) (text : List ℕ) (gone : Gone files lines i world old mid) (within : i < length lines)
    (is : l ≡ get_or lines i d) (sound : Sound new) (step : LineStep files l world new text) where
  abbrev next : Stage
  next = record { world = new; text = text }

  -- the run over one line more
  pub run_more : RunsFirst files lines (i + 1)
  run_more = record {
    begin = gone.first.begin;
    opens = gone.first.opens;
    stages = gone.first.stages ++ next ∷ [];
    run = subst (λ (ls : List Line). IsRun files gone.first.begin ls (gone.first.stages ++ next ∷ [])) (ap (λ (x : Line). take i lines ++ x ∷ []) is ∙ sym (take_next lines i d within))
        (run_on files gone.first.begin (take i lines) gone.first.stages l next gone.first.run (subst (λ (w : Play). LineStep files l w new text) (sym gone.at) step) sound);
  }

  -- what it prints
  pub printed_more : printed run_more.stages ≡ printed gone.first.stages ++ text
  unfolding run_more
  printed_more = printed_on gone.first.stages next

  pub gone_on : (now : Option (List ℕ)) → Appends mid now text → Gone files lines (i + 1) new old now
  unfolding run_more
  gone_on now wrote = record {
    first = run_more;
    sound = sound;
    at = behind_on gone.first.begin gone.first.stages next;
    wrote = rw printed_more (appends_both old mid now (printed gone.first.stages) text gone.wrote wrote);
  }

  -- a part of what it prints
  pub part_on : (now : Option (List ℕ)) → AppendsPart mid now text → Writes files lines old now end.Sink
  part_on now part = (i + 1, omega (arith, within), run_more, rw printed_more (part_behind old mid now (printed gone.first.stages) text gone.wrote part))

-- the line behind those that were gone through ends the script
pub gone_stops : (files : Option (List Stored)) (lines : List Line) (i : ℕ) (world : Play) (old now : Option (List ℕ)) (stop : Stop) → i < length lines → Gone files lines i world old now
    → Writes files lines old now (end_of stop)
gone_stops files lines i world old now stop.Folder within gone = (i, within, gone.first, gone.wrote)
gone_stops files lines i world old now stop.NoMemory within gone = (i, omega (arith, within), gone.first, gone.wrote)

-- all lines were gone through
pub gone_all : (files : Option (List Stored)) (lines : List Line) (i : ℕ) (world : Play) (old now : Option (List ℕ)) → i ≡ length lines → Gone files lines i world old now → Writes files lines old now end.Done
gone_all files lines i world old now all gone = subst (λ n. (run : RunsFirst files lines n) × Appends old now (printed run.stages)) all (gone.first, gone.wrote)

-- no line was gone through
pub gone_nowhere : (files : Option (List Stored)) (lines : List Line) (old : Option (List ℕ)) → Writes files lines old old end.NoMemory
gone_nowhere files lines old = (
  0,
  omega arith,
  record {
    begin = record {
      link = fresh_link first_moment (all_of (record { keep = keep_in lines; versions = empty_version ∷ []; marks = [] })) 0 (planned [] [] []);
      copy = record { copy = empty_copy; plan = planned [] [] [] };
    };
    opens = record { link = refl; calls = calls_stay (planned [] [] []); copy = refl };
    stages = [];
    run = tt;
  },
  appends_none old,
)

pub part_of : (mid now : Option (List ℕ)) (text : List ℕ) (r : Result (Unit {0}) Failed) → IsErr r → written.Writes mid now text r → AppendsPart mid now text
part_of mid now text (Ok x) err wrote = cc err
part_of mid now text (Err e) err wrote = wrote

pub whole_of : (mid now : Option (List ℕ)) (text : List ℕ) (r : Result (Unit {0}) Failed) → ¬ (IsErr r) → written.Writes mid now text r → Appends mid now text
whole_of mid now text (Ok x) ok wrote = wrote
whole_of mid now text (Err e) ok wrote = absurd (ok refl)
