-- `panel::write_priced`: the call on slices, told to C (`Answers`).
use Rattle.std.proofs.lemmas.Result.{err_from_is_err_and}
use Rattle.std.proofs.Common.{rules, ◌≡◌, Bool, true, false, cond, pos, w64, to_z, of_z, refl, sym, ◌∙◌}
use mir.Val.{bool_byte}
use mir.Facts.{to_z-of_z}
use Rattle.panel.proofs.Answers.{two-written, multiplier-told, price-short, price-told}
use Rattle.panel.proofs.write_priced.Goals as goal

pub returns-then-m-gt65536 : goal.returns-then-m-gt65536
returns-then-m-gt65536 c = multiplier-told _ _ _ c.if-m-gt65536.true refl

pub returns-then-answers-lt2 : goal.returns-then-answers-lt2
returns-then-answers-lt2 c = price-short _ _ _ c.if-m-gt65536.false c.if-answers-lt2.true refl

pub returns-in_err-dual : goal.returns-in_err-dual
returns-in_err-dual c =
    let raised = err_from_is_err_and c.from_residual.result c.from_residual.ensures.1 in
    rw (raised.1, raised.2) (price-told _ _ _ c.if-m-gt65536.false c.if-answers-lt2.false (sym c.price.ensures ∙ c.in_err-dual.was) refl refl)

flag : (covers : Bool) → pos (bool_byte covers) ≡ cond covers (pos 1) (pos 0)
flag true = refl
flag false = refl

pub returns : goal.returns
returns c =
    let dual : to_z w64 (of_z w64 c.in_ok-dual.field-0.dual) ≡ c.in_ok-dual.field-0.dual = to_z-of_z {w = w64} (search rules) in
    let covered : to_z w64 (of_z w64 c.from.result) ≡ c.from.result = to_z-of_z {w = w64} (search rules) in
    price-told _ _ _ c.if-m-gt65536.false c.if-answers-lt2.false (sym c.price.ensures ∙ c.in_ok-dual.was) refl
    (rw (dual, covered, c.from.ensures ∙ flag c.in_ok-dual.field-0.covers) (two-written c.args.answers.now _ _ c.if-answers-lt2.false))
