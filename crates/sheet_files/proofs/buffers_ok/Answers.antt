use Rattle.sheet_files.specs.SheetFiles.{line_buffers_ok}
use Rattle.sheet_files.proofs.buffers_ok.Goals as goal

pub returns : goal.returns
unfolding line_buffers_ok
returns c = rw c.room_for-room.ensures
