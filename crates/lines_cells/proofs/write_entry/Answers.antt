use Rattle.std.proofs.Common.{sym, ◌∙◌}
use Rattle.lines.proofs.Putting.{entry_none, entry_room, entry_line}
use Rattle.lines_cells.proofs.Words.{freed_read}
use Rattle.lines_cells.proofs.write_entry.Goals as goal

pub returns-then-is_freed : goal.returns-then-is_freed
returns-then-is_freed c =
    entry_none _ _ _ _ (sym (freed_read _ _ _ c.is_freed.ensures c.four_at.ensures) ∙ c.if-is_freed.true) c.requires.2

pub write_cell-requires : goal.write_cell-requires
write_cell-requires c =
    (c.requires.0, c.requires.1, entry_room _ _ _ _ (sym (freed_read _ _ _ c.is_freed.ensures c.four_at.ensures) ∙ c.if-is_freed.false) c.requires.2)

pub returns-else-is_freed : goal.returns-else-is_freed
returns-else-is_freed c =
    entry_line _ _ _ _ (sym (freed_read _ _ _ c.is_freed.ensures c.four_at.ensures) ∙ c.if-is_freed.false) c.write_cell.ensures
