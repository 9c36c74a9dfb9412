-- `answering::write_outputs` meets its contract: the first i outputs are written (`Front`).
use Rattle.std.proofs.Common.{◌≡◌, ℕ, ◌+◌, List, [], ◌∷◌, ◌++◌, map, length, take, get_or, ap, ◌∙◌, subst, pos, w16, w64, Fits, add-one, arith, rules}
use mathlib.Core.List.{map-append}
use lib.Seq.{take-suc, take_all}
use mir.Facts.{to_z_pos}
use Rattle.rules.proofs.Encoding.Front.{Front, front-none, front-set, front-over}
use Rattle.answering.proofs.write_outputs.Goals as goal

pub loop-i-init : goal.loop-i-init
loop-i-init c = front-none c.args.list.now

pub loop-i-preserved : goal.loop-i-preserved
loop-i-preserved c =
    let l = c.loop-i in
    let outputs = c.args.outputs in
    let long : length outputs ≡ 32 = search rules in
    let v = get_or outputs l.i 0 in
    let fits : Fits w16 v = search rules in
    let more : map pos (take (l.i + 1) outputs) ≡ map pos (take l.i outputs) ++ (pos v ∷ []) = ap (λ (n : ℕ). map pos (take n outputs)) (add-one l.i) ∙ ap (map pos) (take-suc outputs l.i 0 (omega arith)) ∙ map-append pos (take l.i outputs) (v ∷ []) in
    rw (more, to_z_pos w64 {n = v} (omega (arith, fits.fits))) (front-set l.invariant (pos v) (omega (arith, c.requires)))

pub returns : goal.returns
returns c =
    let l = c.loop-i in
    let outputs = c.args.outputs in
    let long : length outputs ≡ 32 = search rules in
    let all : take l.i outputs ≡ outputs = take_all l.i outputs (omega (arith, c.loop-i-test.false)) in
    front-over (subst (λ (x : List ℕ). Front c.args.list.now (map pos x) l.list l.i) all l.invariant)
