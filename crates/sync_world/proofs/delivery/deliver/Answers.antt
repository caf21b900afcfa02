use Rattle.std.proofs.Common.{◌≡◌, ℕ, List, [], subst, sym}
use Rattle.std.specs.Prelude.{IfOk}
use Rattle.exchange_link.specs.Exchanges.{IsLate, IsOwn}
use Rattle.http_wire.specs.Sending.{CanSend}
use Rattle.status_info.specs.declared.request.Request.{Request}
use Rattle.sync_world.specs.Deliveries.{Delivered, OnCome}
use Rattle.sync_world.specs.Given.{is_stale, requests_in}
use Rattle.sync_world.specs.Links.{world_state}
use Rattle.sync_world.specs.declared.past.Past.{Past}
use Rattle.sync_world.proofs.DeliveryLemmas.{is_delivered}
use Rattle.sync_world.proofs.ExchangeLemmas.{came_as, reply_late}
use Rattle.sync_world.proofs.delivery.deliver.Goals as goal

pub note-requires-clause-late : goal.note-requires-clause-late
note-requires-clause-late c =
    let (q, is) = c.requires.text in
    let can = subst (λ (r : Request). CanSend r) (sym (c.in_ok-request.ensures q is)) is.can in
    let same : c.as_slice.result.now ≡ c.reserve.new.self.items = cc in
    reply_late (λ v. v.items) c.reply_to-reply.result (is_stale c.args.fate) [] c.args.world.now c.reply_to-reply.new.world _ (requests_in c.reserve.new.self.items) can (λ e. c.reply_to-reply.ensures.own e [] [])
    (λ e. subst (λ (p : List Past). IfOk c.reply_to-reply.result (λ v. IsLate (requests_in p) v.items)) same (c.reply_to-reply.ensures.late e))

pub returns-clause-own : goal.returns-clause-own
returns-clause-own c e q is xs ys =
    came_as (λ v. v.items) (λ (t : List ℕ). IsOwn (world_state xs c.args.world.now) (world_state ys c.reply_to-reply.new.world) q t) c.note.result c.reply_to-reply.result c.note.ensures.same
    (subst (λ (r : Request). IfOk c.reply_to-reply.result (λ v. IsOwn (world_state xs c.args.world.now) (world_state ys c.reply_to-reply.new.world) r v.items)) (c.in_ok-request.ensures q is) (c.reply_to-reply.ensures.own e xs ys))

pub returns-clause-late : goal.returns-clause-late
returns-clause-late c e =
    let same : c.as_slice.result.now ≡ c.args.past.now.items = cc in
    came_as (λ v. v.items) (λ (t : List ℕ). IsLate (requests_in c.args.past.now.items) t) c.note.result c.reply_to-reply.result c.note.ensures.same
    (subst (λ (p : List Past). IfOk c.reply_to-reply.result (λ v. IsLate (requests_in p) v.items)) same (c.reply_to-reply.ensures.late e))

pub returns-clause-delivered : goal.returns-clause-delivered
returns-clause-delivered c q is =
    let replied : c.as_slice.result.now ≡ c.reserve.new.self.items = cc in
    let same : c.reserve.new.self.items ≡ c.args.past.now.items = cc in
    subst (λ (p : List Past). OnCome (λ v. v.items) (Delivered (record { number = c.args.exchange; at = c.args.at; fate = c.args.fate }) q p c.note.new.past.items c.args.world.now c.reply_to-reply.new.world) c.note.result) same
    (is_delivered (λ v. v.items) (λ v. v.items) c.note.result c.reply_to-reply.result c.args.fate c.args.exchange q _ c.args.at c.as_slice.result.now c.reserve.new.self.items c.note.new.past.items c.args.world.now c.reply_to-reply.new.world
    (c.in_ok-request.ensures q is) replied c.reply_to-reply.ensures.becomes c.note.ensures.noted)
