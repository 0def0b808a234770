-- a store that is adopted isn't refused to its owner
use Rattle.cli_node.proofs.Kept.{owned_store, owned_new}
use Rattle.cli_node.proofs.store.record_in.Goals as goal

pub returns-in-Store-clause-owned : goal.returns-in-Store-clause-owned
returns-in-Store-clause-owned g c =
    owned_store c.args.found c.args.identity c.args.conn c.reopen.result c.in-Store.is c.reopen.ensures.adopted

pub returns-in-Nothing-clause-owned : goal.returns-in-Nothing-clause-owned
returns-in-Nothing-clause-owned g c =
    owned_new c.args.found c.args.identity c.args.conn c.adopt.result c.in-Nothing.is c.adopt.ensures.adopted
