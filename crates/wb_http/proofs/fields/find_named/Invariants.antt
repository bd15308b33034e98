-- What was found, and what is to be found, is all that is found.
use Rattle.std.proofs.Common.{◌≡◌, ◌++◌, length, drop, IfSome}
use Rattle.httparse.specs.Spans.{IsWithin}
use Rattle.wb_http.specs.Fields.{values, fields_at, value_at}
use Rattle.wb_http.proofs.fields.find_named.Given as goal

abbrev pub invariant-loop-field : goal.invariant-loop-field
invariant-loop-field l = record {
  found : value_at l.head l.found ++ values l.name (fields_at l.head (drop l.field-index l.fields)) ≡ values l.name (fields_at l.head l.fields);
  within : IfSome l.found (IsWithin (length l.head));
}
