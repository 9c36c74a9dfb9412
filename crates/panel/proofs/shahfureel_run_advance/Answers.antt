-- `panel::shahfureel_run_advance`: the call, told to C.
use Rattle.answering.proofs.Told.{advance-short, advance-told}
use Rattle.panel.proofs.Answers.{no-room, room}
use Rattle.panel.proofs.shahfureel_run_advance.Goals as goal

pub returns-then-is_empty : goal.returns-then-is_empty
returns-then-is_empty c = advance-short _ _ _ _ (no-room _ c.is_empty.ensures c.if-is_empty.true) c.number.ensures

pub tell_advanced-requires : goal.tell_advanced-requires
tell_advanced-requires c = room _ c.is_empty.ensures c.if-is_empty.false

pub returns : goal.returns
returns c = advance-told _ _ _ _ (room _ c.is_empty.ensures c.if-is_empty.false) c.advance.ensures c.tell_advanced.ensures.0 c.tell_advanced.ensures.1
