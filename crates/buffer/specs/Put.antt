-- What a function that puts bytes into a lent buffer asks and does. Assumes nothing.
use Rattle.std.specs.Prelude.{◌≡◌, List, ℕ, ◌+◌, ◌≤◌, length}
use Rattle.std.proofs.lemmas.List.Edits.{sets}
use Rattle.buffer.specs.declared.put.Cursor.{Cursor}

-- the bytes fit into the buffer from the cursor's place on
pub record Room (bytes : List ℕ) (cursor : Cursor) : Type 0 where
  pub fits : cursor.at + length bytes ≤ length cursor.bytes.now

-- the bytes stand in the buffer from the place of the cursor before, every other byte is as it was, and they end before the place of the cursor
-- after, which has the same buffer
pub record Put (bytes : List ℕ) (before after : Cursor) : Type 0 where
  pub same_buffer : after.bytes.ghost_name ≡ before.bytes.ghost_name
  pub ends : after.at ≡ before.at + length bytes
  pub left : after.bytes.now ≡ sets before.bytes.now before.at bytes
