use Rattle.hub_server.proofs.server.serve_task.Given as goal

abbrev pub ghosts-serve_opened : goal.ghosts-serve_opened
ghosts-serve_opened g a = record {
  book = a.opened.seen.book;
  opening = a.hub.kept;
  count = g.H.HubKeeper.fault_count a.keeper;
  stood = g.H.HubKeeper.stands_for a.keeper;
}
