mod Changed
mod FolderLemmas
mod LeadLemmas
mod EarlierRows
mod Ordering
mod AnyResult
mod Telling
