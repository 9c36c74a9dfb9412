-- A table of closed cases is a list of rows, in each a call and its result. It holds where what answers a call gives, for each row, the result that stands there.
use Rattle.std.specs.Prelude.{List, map, ◌≡◌}

pub record Row (Call Result : Type 0) : Type 0 where
  pub call : Call
  pub result : Result

abbrev pub Holds : {Call Result : Type 0} → (Call → Result) → List (Row Call Result) → Type 0
Holds answer rows = map (λ r. answer r.call) rows ≡ map (λ r. r.result) rows
