-- A unit's line put behind those before it.
use Prim.Native.Nat.{ℕ, ◌+◌, ◌*◌, ◌≤◌}
use native.Mathlib.Numerals.{add-one}
use mathlib.Core.Path.{◌≡◌}
use mathlib.Core.List.{List}
use lib.ListN.{length}
use Rattle.fields.specs.Field.{field}
use Rattle.text.specs.Text.{output_line, output_lines}
use Rattle.text.specs.Clauses.{Puts}
use Rattle.text.specs.declared.Writer.{Writer}
use Rattle.text.proofs.Putting.{puts_more}

pub puts_line : {a b c : Writer} (i p : ℕ) (reply : List ℕ) → a.at ≤ length a.text.now → p ≡ field reply (28 + 2 * i) 2 → Puts a (output_lines i reply) b → Puts b (output_line (i + 1) p) c → Puts a (output_lines (i + 1) reply) c
unfolding output_lines
puts_line i p reply room e h g = rw add-one (puts_more room h (rw (add-one, e) at g))
