-- What the kept votes stand for: a ballot for each position and member.
use Rattle.std.specs.Prelude.{ℕ, ◌+◌, ◌*◌, ◌%◌, Bool, ◌&&◌, List, if◌then◌else◌, nat_le, nat_lt}
use Rattle.std.specs.Prelude.{nat_eq, slice_index_or}
use Rattle.px_core.specs.declared.votes.Cell.{Cell}

-- a cell without a vote
abbrev pub empty_cell : Cell
empty_cell = record { position = 0; ballot = 0 }

-- the cell of a position and a member: 15 in a row, in the row of the position's remainder by 64
abbrev pub cell_at : List Cell → ℕ → ℕ → Cell
cell_at cells p m = slice_index_or cells (p % 64 * 15 + m) empty_cell

-- a cell counts where it is for this position, which isn't below the front
abbrev pub counts : ℕ → ℕ → ℕ → Cell → Bool
counts front p m cell = (nat_le front p && nat_lt m 15) && nat_eq cell.position p

-- the ballot kept for a position and a member, 0 where the cell doesn't count
unfoldable pub kept_in : (front : ℕ) → List Cell → (position member : ℕ) → ℕ
kept_in front cells p m = if counts front p m (cell_at cells p m) then (cell_at cells p m).ballot else 0
