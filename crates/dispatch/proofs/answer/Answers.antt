-- `dispatch::answer` meets its contract: a reply of dispatch is of 28 to 92 bytes, so its text is the definition's.
use Rattle.std.proofs.Common.{arith, ◌≡◌, ◌∙◌, ap}
use Rattle.rules.specs.Calls.{DispatchResult}
use Rattle.rules.proofs.Lengths.{replied-length}
use Rattle.text.specs.Text.{text_of, printed}
use Rattle.dispatch.proofs.answer.Goals as goal

pub write_text-requires : goal.write_text-requires
write_text-requires c =
    let d = c.dispatch-answered in
    (omega arith, λ n e. let l = replied-length _ _ n (ap (λ (r : DispatchResult). r.answer) d.ensures.outcome ∙ e) in omega arith)

pub returns : goal.returns
unfolding printed
returns c =
    let d = c.dispatch-answered in
    let e : printed c.args.file.now ≡ text_of d.result d.new.reply = ap (λ (r : DispatchResult). text_of r.answer r.reply) d.ensures.outcome in
    rw e c.write_text.ensures
