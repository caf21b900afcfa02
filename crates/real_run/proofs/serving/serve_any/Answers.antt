use Rattle.std.proofs.Common.{map, string_bytes}
use Rattle.hub_words.specs.Words.{split_serve}
use Rattle.real_run.proofs.ServeLemmas.{without_memory}
use Rattle.real_run.proofs.serving.serve_any.Goals as goal

pub returns-in-Err-NoMemory : goal.returns-in-Err-NoMemory
returns-in-Err-NoMemory g c = without_memory _ _ _ _ _ c.print.ensures.done c.print.ensures.fault (split_serve (map string_bytes c.args.words.now))
