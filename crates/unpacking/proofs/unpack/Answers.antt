-- `unpacking::unpack` meets its contract, on every input.
use Rattle.std.proofs.Common.{arith, sym, ◌∙◌}
use Rattle.std.proofs.lemmas.Result.{err_from_is_err_and}
use Rattle.casefile.proofs.File.{accepted-head}
use Rattle.unpacking.proofs.Unpacked.{unpacked-short, unpacked-edition, unpacked-refused, unpacked-read}
use Rattle.unpacking.proofs.unpack.Goals as goal

pub returns-then-short : goal.returns-then-short
returns-then-short c = unpacked-short c.args.file.now c.args.rows.now (omega arith)

pub returns-in_err-check_edition : goal.returns-in_err-check_edition
returns-in_err-check_edition c =
    let told = err_from_is_err_and c.from_residual.result c.from_residual.ensures.1 in
    rw (told.1, told.2) (unpacked-edition c.args.file.now c.args.rows.now (omega arith) (sym c.in_err-check_edition.ensures))

pub returns-in_err-check : goal.returns-in_err-check
returns-in_err-check c =
    let told = err_from_is_err_and c.from_residual-in_err-check.result c.from_residual-in_err-check.ensures.1 in
    rw (told.1, told.2) (unpacked-refused c.args.file.now c.args.rows.now (omega arith) (sym c.in_ok-check_edition.ensures) (sym c.in_err-check.ensures))

pub count-n-requires : goal.count-n-requires
count-n-requires c = sym c.in_ok-check.ensures

pub write_rows-requires : goal.write_rows-requires
write_rows-requires c =
    let few = accepted-head c.args.file.now (sym c.in_ok-check.ensures) in
    record { file_value = sym c.in_ok-check.ensures; n_bound = (omega arith, omega (arith, few)) }

pub demand-requires : goal.demand-requires
demand-requires c = sym c.in_ok-check.ensures

pub overflow_cast-result : goal.overflow_cast-result
overflow_cast-result c = omega (arith, accepted-head c.args.file.now (sym c.in_ok-check.ensures))

pub returns : goal.returns
returns c =
    unpacked-read c.args.file.now c.args.rows.now (omega arith) (sym c.in_ok-check_edition.ensures) (sym c.in_ok-check.ensures)
    ∙ rw (c.write_rows.ensures, c.count-n.ensures, c.demand.ensures)
