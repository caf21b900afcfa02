use denote.Param.Send.{arg_send, param_send}
use Rattle.real_run.proofs.serving.serve_doors.Goals as goal
use Rattle.store_files.proofs.Sent.{file_items}

pub serve_items-requires-send-S : goal.serve_items-requires-send-S
serve_items-requires-send-S c κs = search (param_send, arg_send, file_items)
