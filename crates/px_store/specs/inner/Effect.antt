-- What a call does to a connection.
use Rattle.std.specs.Prelude.{◌≡◌, ◌≢◌, ◌⊎◌, ℕ, pos, false, IsTrue, List, [], ◌∷◌, length}
use Rattle.std.specs.Prelude.{◌≤◌}
use Rattle.sqlite_value.specs.Order.{Row}
use Rattle.sqlite_trees.specs.Tree.{without_rowid}
use Rattle.sqlite.specs.Tree.{Trees}
use Rattle.sqlite.specs.State.{State}
use Rattle.px_store.specs.Tables.{schema_3}
use Rattle.px_store.specs.Seen.{seen}
use Rattle.px_store.specs.inner.Seen.{IsKeyed}

-- Under this key the tree shows this row, and nothing else differs, where the key had one row of its own or none.
pub record Puts (tree p : ℕ) (columns : List ℕ) (row : Row) (old new : Trees) : Type 0 where
  pub put : seen columns (new tree) p ≡ row ∷ []
  pub others : IsKeyed p (seen columns (old tree) p) →
      without_rowid (pos p) (new tree) ≡ without_rowid (pos p) (old tree)
  pub trees : (t : ℕ) → t ≢ tree → new t ≡ old t

-- committed and open, over the four tables
pub record IsSettled (new : State) : Type 0 where
  pub committed : new.committed ≡ new.now
  pub schema : new.now.schema ≡ schema_3
  pub auto : new.in_transaction ≡ false
  pub is_open : IsTrue new.is_open

-- open, with what it showed, all of it committed and outside a transaction
pub record IsStill (old new : State) : Type 0 where
  pub begun : old.now ≡ old.committed
  pub now : new.now ≡ old.now
  pub committed : new.committed ≡ old.committed
  pub auto : new.in_transaction ≡ false
  pub is_open : IsTrue new.is_open

-- the rows are as they were, or the connection is shut
pub record Stays (old new : State) : Type 0 where
  pub now : IsTrue new.is_open → new.now ≡ old.committed
  pub committed : IsTrue new.is_open → new.committed ≡ old.committed
  pub auto : new.in_transaction ≡ false
  pub was_open : IsTrue new.is_open → IsTrue old.is_open

-- the connection is open, and shows what it showed
pub record Serves (old new : State) : Type 0 where
  pub was_open : IsTrue old.is_open
  pub is_open : IsTrue new.is_open
  pub now : new.now ≡ old.now
  pub committed : new.committed ≡ old.committed
  pub auto : new.in_transaction ≡ old.in_transaction

-- the rows that a query answers are these in some order: the same where they are fewer than two
abbrev pub IsAlike : List Row → List Row → Type 0
IsAlike rows answer = (rows ≡ answer) ⊎ ((2 ≤ length rows) × (2 ≤ length answer))
