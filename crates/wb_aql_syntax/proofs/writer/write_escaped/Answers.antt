use Rattle.std.proofs.Common.{flat_map, sym, ap, ◌∙◌, ◌++◌, map-id, string_bytes}
use Rattle.std.proofs.lemmas.Iterator.{YieldsList-from_chars}
use Rattle.std.proofs.lemmas.Iterator.Consumers.{YieldsList-end}
use Rattle.std.specs.Char.{encode_utf8}
use Rattle.wb_aql_syntax.specs.Printed.{escaped}
use Rattle.wb_aql_syntax.proofs.Escapes.{all_chars}
use Rattle.wb_aql_syntax.proofs.writer.write_escaped.Goals as goal

pub returns : goal.returns
returns c =
    let end = YieldsList-end (YieldsList-from_chars c.args.text.now c.utf8.text cc) c.loop-c.yielded _ c.loop-c.yielded_by _ _ c.in-None.is c.next.ensures.steps in
    c.loop-c.invariant ∙ ap (λ z. string_bytes c.args.out.now ++ z) (ap (flat_map (λ c. flat_map escaped (encode_utf8 c))) (sym (map-id c.loop-c.yielded) ∙ end.0) ∙ all_chars c.args.text.now c.utf8.text)
