use Rattle.std.proofs.Common.{◌≡◌, ◌++◌, drop, string_bytes}
use Rattle.std.specs.List.{flat_map}
use Rattle.wb_aql_values.specs.TextForms.{next_form}
use Rattle.wb_aql_values.proofs.text_forms.push_rest.Given as goal

abbrev pub invariant-loop-x : goal.invariant-loop-x
invariant-loop-x l = string_bytes l.form ++ flat_map (next_form l.metamodel) (drop l.x-index l.xs) ≡ string_bytes l.fn.form ++ flat_map (next_form l.metamodel) l.xs
