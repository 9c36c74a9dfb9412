-- `casefile::checking::check` meets its contract, for a file of any bytes: head and contents are accepted, so the bodies decide.
use Rattle.std.proofs.Common.{ℕ, ap, sym, ◌∙◌}
use Rattle.rules.specs.Lists.{each}
use Rattle.rules.specs.Refusal.{in_order}
use Rattle.casefile.proofs.Body.{verdict_at}
use Rattle.casefile.proofs.File.{file-bodies}
use Rattle.casefile.proofs.checking.check.Goals as goal

pub returns : goal.returns
returns c =
    let file = c.args.file.now in
    c.check_bodies.ensures ∙ ap (λ (n : ℕ). in_order (each n (verdict_at file))) (c.from-n.ensures ∙ c.read.ensures) ∙ sym (file-bodies file (sym c.in_ok-check_head.ensures) (sym c.in_ok-check_contents.ensures))
