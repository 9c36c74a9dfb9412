-- Word by word (`Taking`).
use Rattle.gencost.proofs.Taking.{if-none, if-some, head-none, head-no-startup, head-no-shutdown, head-no-fourth, head-ends}
use Rattle.gencost.proofs.after_head.Goals as goal

pub returns-in_err-rest-clause-none : goal.returns-in_err-rest-clause-none
returns-in_err-rest-clause-none c = rw c.from_residual.ensures (head-none _ c.in_err-rest.ensures.none)

pub returns-in_err-_startup-clause-none : goal.returns-in_err-_startup-clause-none
returns-in_err-_startup-clause-none c = rw c.from_residual-in_err-_startup.ensures (head-no-startup _ c.in_ok-rest.ensures.some c.in_err-_startup.ensures.none)

pub returns-in_err-_shutdown-clause-none : goal.returns-in_err-_shutdown-clause-none
returns-in_err-_shutdown-clause-none c = rw c.from_residual-in_err-_shutdown.ensures (head-no-shutdown _ c.in_ok-rest.ensures.some c.in_ok-_startup.ensures.some c.in_err-_shutdown.ensures.none)

pub returns-clause-none : goal.returns-clause-none
returns-clause-none c = if-none _ (head-no-fourth _ c.in_ok-rest.ensures.some c.in_ok-_startup.ensures.some c.in_ok-_shutdown.ensures.some) c.next_only-2.ensures.none

pub returns-clause-some : goal.returns-clause-some
returns-clause-some c = if-some _ (λ rest. head-ends _ c.in_ok-rest.ensures.some c.in_ok-_startup.ensures.some c.in_ok-_shutdown.ensures.some) c.next_only-2.ensures.some
