-- What the consumer sees of a reply, and which replies it reads.
use Rattle.std.specs.Prelude.{◌≤◌, ℕ, ◌+◌, length, All, IfSome}
use Rattle.status_info.specs.Causes.{status_of}
use Rattle.status_info.specs.declared.reply.LinkItem.{LinkItem}
use Rattle.status_info.specs.declared.reply.Reply.{Reply}
use Rattle.http_wire.specs.Answers.{max_reply_body, max_reply_head}
use Rattle.http_wire.specs.Replies.{body_text, reply_text}
use Rattle.http_wire.specs.Sending.{IsSentEcho}
use Rattle.http_wire.specs.Texts.{last_number}
use Rattle.http_wire.specs.declared.reply_reading.WireReply.{WireReply}

-- the reply as the consumer sees it
abbrev pub seen_of : Reply → WireReply
seen_of r = record {
  status = status_of r.cause;
  total = r.total;
  version = r.version;
  oldest = r.oldest;
  mark = r.mark;
  echo = r.echo;
  body = body_text r;
}

-- a visible character of ASCII
abbrev pub IsVisible : ℕ → Type 0
IsVisible b = (33 ≤ b) × (b ≤ 126)

abbrev pub IsVisibleLink : LinkItem → Type 0
IsVisibleLink link = All IsVisible link.target

-- a reply whose text is read: its head and its body are in their limits, and so are its numbers
pub record CanRead (r : Reply) : Type 0 where
  pub head : length (reply_text r) ≤ max_reply_head + length (body_text r)
  pub body : length (body_text r) ≤ max_reply_body
  pub total : IfSome r.total (λ n. n ≤ last_number)
  pub version : IfSome r.version (λ n. n ≤ last_number)
  pub oldest : IfSome r.oldest (λ n. n ≤ last_number)
  pub mark : IfSome r.mark (λ n. (1 ≤ n) × (n ≤ last_number))
  pub echo : IfSome r.echo IsSentEcho
  pub links : All IsVisibleLink r.links
