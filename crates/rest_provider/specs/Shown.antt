-- What the reply to a read that succeeds has, as the code makes it.
use Rattle.hub_spec.specs.rules.Reads as reads
use Rattle.rest_provider.specs.declared.contents.Contents.{Contents}

-- the contents that the code made, as the definition of a hub's reads names them
abbrev pub contents_shown : Contents → reads.Contents
contents_shown contents = record { body = contents.body; total = contents.total; links = contents.links }
