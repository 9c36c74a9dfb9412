-- `site::decoding::decode` meets its contract, for a file of any bytes: head, contents, then the bodies.
use Rattle.std.proofs.Common.{sym, arith}
use Rattle.std.proofs.lemmas.Result.{err_from_is_err_and}
use Rattle.casefile.proofs.Head.{head_read}
use Rattle.site.proofs.Decodes.{head-refused, contents-refused}
use Rattle.site.proofs.decoding.decode.Goals as goal

pub returns-in_err-check_head : goal.returns-in_err-check_head
returns-in_err-check_head c =
    let told = err_from_is_err_and c.from_residual.result c.from_residual.ensures.1 in
    rw (told.1, told.2) (head-refused c.args.file.now (sym c.in_err-check_head.ensures))

pub read-edition-requires : goal.read-edition-requires
read-edition-requires c = omega (arith, head_read c.args.file.now (sym c.in_ok-check_head.ensures))

pub read-n-requires : goal.read-n-requires
read-n-requires c = omega (arith, head_read c.args.file.now (sym c.in_ok-check_head.ensures))

pub check_contents-requires : goal.check_contents-requires
check_contents-requires c =
    let head = head_read c.args.file.now (sym c.in_ok-check_head.ensures) in
    record { long = head.long; units = c.read-n.ensures; most = omega arith }

pub returns-in_err-check_contents : goal.returns-in_err-check_contents
returns-in_err-check_contents c =
    let told = err_from_is_err_and c.from_residual-in_err-check_contents.result c.from_residual-in_err-check_contents.ensures.1 in
    rw (told.1, told.2) (contents-refused c.args.file.now (sym c.in_ok-check_head.ensures) (sym c.in_err-check_contents.ensures))

pub decode_bodies-requires : goal.decode_bodies-requires
decode_bodies-requires c =
    record {
      head = sym c.in_ok-check_head.ensures;
      contents = sym c.in_ok-check_contents.ensures;
      edition = c.read-edition.ensures;
      units = c.read-n.ensures;
    }
