-- No field so far says `close`.
use Rattle.std.proofs.Common.{◌≡◌, drop, codes}
use Rattle.std.specs.List.{list_any}
use Rattle.wb_http.specs.Fields.{values, fields_at, says_close}
use Rattle.wb_http.proofs.fields.closes_connection.Given as goal

abbrev pub invariant-loop-field : goal.invariant-loop-field
invariant-loop-field l = list_any says_close (values (codes "connection") (fields_at l.head (drop l.field-index l.fields))) ≡ list_any says_close (values (codes "connection") (fields_at l.head l.fields))
