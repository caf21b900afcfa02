use Rattle.hub_spec.specs.requests.Requests.{wanted_by}
use Rattle.keeper_memory.specs.Kept.{KeptState}
use Rattle.rest_provider.specs.Replies.{out_of_memory}
use Rattle.rest_provider.specs.Steps.{TakesRequest, error_reply}
use Rattle.status_info.specs.declared.reply.Reply.{Reply}
use Rattle.hub_core.specs.declared.hub_error.HubError.TheVariants as error
use Rattle.hub_shared.proofs.Calls.{receipt_says}
use Rattle.hub_shared.proofs.shared.SharedHub.write.Goals as goal

pub returns : goal.returns
returns g c = receipt_says (λ (reply : Reply) (before after : KeptState). TakesRequest c.args.request.now c.args.at reply before after 0) (error_reply (wanted_by c.args.request.now) error.Keeper) (out_of_memory (wanted_by c.args.request.now)) g.N.Naming.opening _ _ _ _ c.write.result.0 c.write.result.1 c.write.ensures.worked.2 c.write.ensures.receipt
