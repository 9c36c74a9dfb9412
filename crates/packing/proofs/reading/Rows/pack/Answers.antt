-- Each return is one end of the definition (`Packed`).
use Rattle.std.proofs.Common.{sym, ◌∙◌, arith}
use Rattle.std.proofs.lemmas.Result.{err_from_is_err_and}
use Rattle.packing.proofs.Packed.{rows-sound, packed-rows, packed-demand, packed-row, packed-short, packed-written}
use Rattle.packing.proofs.reading.Rows.pack.Goals as goal

pub returns-then-invalid : goal.returns-then-invalid
returns-then-invalid c = packed-rows c.args.self.now c.args.demand c.args.file.now (sym c.invalid.ensures ∙ c.if-invalid.true)

pub returns-then-demand-gt320000 : goal.returns-then-demand-gt320000
returns-then-demand-gt320000 c = packed-demand c.args.self.now c.args.demand c.args.file.now (sym c.invalid.ensures ∙ c.if-invalid.false) (omega arith)

pub returns-in_err-check : goal.returns-in_err-check
returns-in_err-check c =
    let raised = err_from_is_err_and c.from_residual.result c.from_residual.ensures.1 in
    rw (raised.1, raised.2) (packed-row c.args.self.now c.args.demand c.args.file.now (sym c.invalid.ensures ∙ c.if-invalid.false) (omega arith) (sym c.in_err-check.ensures))

pub file_length-length-requires : goal.file_length-length-requires
file_length-length-requires c = rows-sound c.args.self.now (sym c.invalid.ensures ∙ c.if-invalid.false) (sym c.in_ok-check.ensures)

pub returns-then-short : goal.returns-then-short
returns-then-short c =
    packed-short c.args.self.now c.args.demand c.args.file.now (sym c.invalid.ensures ∙ c.if-invalid.false) (omega arith) (sym c.in_ok-check.ensures) (omega arith)

pub write_file-requires-clause-sound : goal.write_file-requires-clause-sound
write_file-requires-clause-sound c = rows-sound c.args.self.now (sym c.invalid.ensures ∙ c.if-invalid.false) (sym c.in_ok-check.ensures)

pub returns : goal.returns
returns c =
    packed-written c.args.self.now c.args.demand c.args.file.now (sym c.invalid.ensures ∙ c.if-invalid.false) (omega arith) (sym c.in_ok-check.ensures) (omega arith)
    ∙ rw (c.file_length-length.ensures, c.write_file.ensures)
