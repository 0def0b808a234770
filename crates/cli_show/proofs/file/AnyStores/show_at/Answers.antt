-- what is shown or refused, and what is closed
use Rattle.std.proofs.Common.{subst, inr}
use Rattle.sqlite.specs.Files.{file_state}
use Rattle.cli_show.proofs.file.AnyStores.show_at.Goals as goal

pub returns-in-Ok : goal.returns-in-Ok
returns-in-Ok g c = record {
  given = c.in_ok-conn.conn;
  back = c.in-Ok.records;
  owned = c.in-Ok.ensures.owned;
  shows = c.in-Ok.ensures.shown;
  leaves = record {
    held = c.in_ok-conn.ensures.opened;
    left = c.in-Ok.ensures.stop;
    shut = subst (λ h. g.D.Databases.closed c.args.self.now (file_state h)) c.release.ensures c.close.ensures;
  };
}

pub returns-in-Err : goal.returns-in-Err
returns-in-Err g c = inr (record {
  given = c.in_ok-conn.conn;
  back = c.in-Err.conn;
  why = c.in-Err.ensures.closed;
  leaves = record {
    held = c.in_ok-conn.ensures.opened;
    left = c.in-Err.ensures.left;
    shut = c.close-in-Err.ensures;
  };
})
