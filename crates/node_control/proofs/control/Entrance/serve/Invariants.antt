-- requests were asked one after another
use Rattle.std.proofs.Common.{◌≡◌, true}
use Rattle.node_control.specs.inner.Handling.{IsKept}
use Rattle.node_control.specs.inner.Runs.{AsksWithin}
use Rattle.node_control.specs.inner.Serving.{Serves}
use Rattle.node_control.proofs.control.Entrance.serve.Given as goal

abbrev pub invariant-loop-client : goal.invariant-loop-client
invariant-loop-client g l = record {
  asks : AsksWithin l.fn.service l.service;
  figures : l.fn.is_scraped ≡ true → l.service.handler ≡ l.fn.service.handler;
  kept : IsKept l.fn.service l.service;
  serves : Serves l.fn.service l.service;
  scraped : l.service.is_scraped ≡ l.fn.is_scraped;
}
