-- What is written where memory runs out.
use Rattle.std.proofs.Common.{◌≡◌, ◌≢◌, ℕ, List, Option, Result, Ok, Err, refl, sym, subst}
use Rattle.std.specs.Io.KnownBytes.{Appends}
use Rattle.hub_cli.specs.Below.Lines.{no_memory}
use Rattle.hub_words.specs.declared.words.ServeWords.{ServeWords}
use Rattle.outside_ports.specs.Written.{AppendsPart}
use Rattle.real_run.specs.RealServes.{Serves, serve_text}
use Rattle.roster_base.specs.Faults.{Rose}
use Rattle.hub_words.specs.Statuses.{no_memory_status, output_failed_status}

-- all that `print` tells of such an end: its status is that of no memory or of a failed output
module _ (old new : Option (List ℕ)) (before now status : ℕ)
    (done : status ≢ output_failed_status → (status ≡ no_memory_status) × Appends old new no_memory × (now ≡ before))
    (failed : status ≡ output_failed_status → Rose before now × AppendsPart old new no_memory) where
  -- behind bad words
  pub bad_without_memory : (place : ℕ) (parsed : Result ServeWords ℕ) → parsed ≡ Err place → Serves parsed status old new before now
  bad_without_memory place parsed bad = rw bad record {
    done = λ other. let d = done other in subst (λ (s : ℕ). Appends old new (serve_text (Err place) s)) (sym d.0) d.1;
    part = λ one. (no_memory_status, (failed one).1);
    words_are_bad = λ two. refl;
    bad_words = λ is other without. absurd (without (done other).0);
    sink_failed = λ one. (failed one).0;
    sink_stood = λ other. (done other).2;
  }

  -- behind good ones
  pub good_without_memory : (words : ServeWords) → Serves (Ok words) status old new before now
  good_without_memory words = record {
    done = λ other. let d = done other in subst (λ (s : ℕ). Appends old new (serve_text (Ok words) s)) (sym d.0) d.1;
    part = λ one. (no_memory_status, (failed one).1);
    words_are_bad = λ two. let is = (done (λ one. cc)).0 in cc;
    bad_words = λ is other without. absurd (without (done other).0);
    sink_failed = λ one. (failed one).0;
    sink_stood = λ other. (done other).2;
  }

  -- behind any
  pub without_memory : (parsed : Result ServeWords ℕ) → Serves parsed status old new before now
  without_memory (Ok words) = good_without_memory words
  without_memory (Err place) = bad_without_memory place (Err place) refl
