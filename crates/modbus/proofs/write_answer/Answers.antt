-- An exception, or the values (`Answers`).
use Rattle.modbus.proofs.Answers.{reply-small, registers_there, inside-reply, exception_written, values-written}
use Rattle.modbus.proofs.write_answer.Goals as goal

pub write_values-requires : goal.write_values-requires
write_values-requires c =
    let form = c.requires.0 in
    ((registers_there _ form _ c.in-None.ensures).few, inside-reply _ form _ c.in-None.ensures, reply-small _ form, c.requires.1)

pub returns-in-Some : goal.returns-in-Some
returns-in-Some c = exception_written _ c.requires.0 _ c.in-Some.ensures c.write_exception.ensures

pub returns-in-None : goal.returns-in-None
returns-in-None c = values-written _ c.requires.0 _ c.in-None.ensures c.write_values.ensures
