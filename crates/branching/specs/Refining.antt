-- Rules 24.9 to 24.11 of docs/SPECIFICATION.md (since S-11): the call, on every input: its answer and the final contents of the reply; and its C form.
use Rattle.std.specs.Prelude.{ℕ, ◌+◌, ◌*◌, ◌||◌, List, ◌++◌, ltb, length, Ok, Err}
use Rattle.fields.specs.Field.{field, bytes, bytes_of_each}
use Rattle.rules.specs.Lists.{each, over}
use Rattle.rules.specs.Layout.{case_of}
use Rattle.rules.specs.Refusal.{◌refuses◌, ◌then◌}
use Rattle.rules.specs.Calls.{case_verdict, DispatchResult, PanelDispatchResult, number_of_dispatched}
use Rattle.rules.specs.declared.Refusal.TheVariants.{BufferTooShort, BudgetOutOfRange}
use Rattle.rules.specs.Refusal.{Verdict}
use Rattle.branching.specs.Nodes.{RefinedReply, refined_reply}

-- (rule 24.10) the reply: dispatch's (`Calls.reply_bytes`) with the nodes in 4 bytes instead of the evaluations in 2, so the outputs stand behind 30 bytes
unfoldable pub refined_bytes : RefinedReply → List ℕ
refined_bytes r =
    bytes 2 (length r.outputs) ++ bytes 4 r.nodes ++ bytes 8 r.cost ++ bytes 8 r.gap ++ bytes 8 r.surplus
    ++ bytes_of_each 2 r.outputs

-- the reply that bytes spell
unfoldable pub refined_in : List ℕ → RefinedReply
refined_in s =
    record {
      nodes = field s 2 4;
      cost = field s 6 8;
      gap = field s 14 8;
      surplus = field s 22 8;
      outputs = each (field s 0 2) (λ i. field s (30 + 2 * i) 2);
    }

-- (rule 24.9) the reply's room, the budget, then what dispatch asks of the file
unfoldable pub refine_verdict : List ℕ → ℕ → List ℕ → Verdict
refine_verdict file budget reply =
    ltb (length reply) 94 refuses BufferTooShort
    then (ltb budget 1 || ltb 100000 budget) refuses BudgetOutOfRange
    then case_verdict file

unfoldable pub refine_ends : Verdict → List ℕ → ℕ → List ℕ → DispatchResult
refine_ends (Err r) file budget reply = record { answer = Err r; reply = reply }
refine_ends (Ok _) file budget reply =
    let out = refined_bytes (refined_reply budget (case_of file)) in
    record { answer = Ok (length out); reply = over out reply }

unfoldable pub refined : List ℕ → ℕ → List ℕ → DispatchResult
refined file budget reply = refine_ends (refine_verdict file budget reply) file budget reply

-- (rule 24.11) in C: a length or a refusal's number, as of dispatch
unfoldable pub panel_refined : List ℕ → ℕ → List ℕ → PanelDispatchResult
panel_refined file budget reply =
    let r = refined file budget reply in
    record { number = number_of_dispatched r.answer; reply = r.reply }
