-- The reply that says its cause and no more.
use Rattle.std.specs.Prelude.{Bool, false, [], Option, None}
use Rattle.status_info.specs.declared.cause.Cause.{Cause}
use Rattle.status_info.specs.declared.request.Echo.{Echo}
use Rattle.status_info.specs.declared.reply.Reply.{Reply}

abbrev pub failing : Cause → Option Echo → Bool → Reply
failing cause echo close = record {
  cause = cause;
  body = [];
  total = None;
  links = [];
  warnings = record { sort = false; selection = false };
  allow_write = false;
  version = None;
  oldest = None;
  mark = None;
  echo = echo;
  close = close;
  headless = false;
}
