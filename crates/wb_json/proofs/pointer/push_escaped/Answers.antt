use Rattle.std.proofs.Common.{◌++◌, ap, ◌∙◌, append_assoc, string_bytes, encode_utf8, encode_utf8_all}
use Rattle.std.specs.List.{flat_map}
use Rattle.wb_json.specs.Place.{escape}
use Rattle.wb_json.proofs.Escapes.{escaped_more}
use Rattle.wb_json.proofs.pointer.push_escaped.Goals as goal

pub loop-character-preserved : goal.loop-character-preserved
loop-character-preserved c =
    let last = flat_map escape (encode_utf8 c.in-Some.character) in
    let before = flat_map escape (encode_utf8_all c.loop-character.yielded) in
    rw (escaped_more c.loop-character.yielded c.in-Some.character)
    (c.in_ok-push_one.ensures ∙ ap (λ bytes. bytes ++ last) c.loop-character.invariant ∙ append_assoc (string_bytes c.args.whole.now) before last)
