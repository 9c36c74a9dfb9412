-- `day::verdict`: the checks in their order. (A fact named for a condition that an edit of must-fail changes is found by `omega`.)
use Rattle.std.proofs.Common.{◌≡◌, ◌*◌, ◌||◌, true, ltb, length, arith, refl, sym, ◌∙◌}
use mathlib.Core.Logic.{inl, inr}
use borrow.Author.Tests.{lt-ltb, le-ltb}
use Rattle.day.specs.Day.{day_verdict}
use Rattle.day.proofs.verdict.Goals as goal

pub returns-then-demands_invalid : goal.returns-then-demands_invalid
unfolding day_verdict
returns-then-demands_invalid c = rw (sym c.demands_invalid.ensures ∙ c.if-demands_invalid.true)

pub returns-then-room-demands : goal.returns-then-room-demands
unfolding day_verdict
returns-then-room-demands c =
    let short : (ltb c.args.room (18 * length c.args.demands.now) || ltb c.args.records 32) ≡ true =
    elim c.then-room-demands.either [ inl h ↦ rw (lt-ltb _ _ h) refl | inr h ↦ rw (le-ltb _ _ h.0, lt-ltb c.args.records 32 (omega arith)) refl ] in
    rw (sym c.demands_invalid.ensures ∙ c.if-demands_invalid.false, short)

pub returns : goal.returns
unfolding day_verdict
returns c =
    rw (sym c.demands_invalid.ensures ∙ c.if-demands_invalid.false, le-ltb _ _ c.if-room-demands.false, le-ltb c.args.records 32 (omega arith)) c.check.ensures
