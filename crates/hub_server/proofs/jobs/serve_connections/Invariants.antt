use Rattle.std.proofs.Common.{◌≡◌, ◌+◌}
use Rattle.hub_server.proofs.jobs.serve_connections.Given as goal

abbrev pub invariant-loop : goal.invariant-loop
invariant-loop g l = (g.A.Acceptor.given_count l.acceptor ≡ g.A.Acceptor.given_count l.fn.acceptor + l.counter) × (g.A.Acceptor.fault_count l.acceptor ≡ g.A.Acceptor.fault_count l.fn.acceptor)
