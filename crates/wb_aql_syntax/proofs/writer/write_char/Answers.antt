use Rattle.std.proofs.Common.{rules, ◌≡◌, ◌∷◌, [], ◌∙◌, ap, flat_map}
use Rattle.std.specs.Char.{encode_utf8}
use Rattle.wb_aql_syntax.specs.Printed.{escaped}
use Rattle.wb_aql_syntax.proofs.Escapes.{backslash, quote, line_feed, tab, plain_char}
use Rattle.wb_aql_syntax.proofs.writer.write_char.Goals as goal

pub returns-then-c-eq92 : goal.returns-then-c-eq92
returns-then-c-eq92 c =
    let e : flat_map escaped (encode_utf8 c.args.c) ≡ 92 ∷ 92 ∷ [] = ap (λ d. flat_map escaped (encode_utf8 d)) c.if-c-eq92.true ∙ backslash in
    rw e (search rules)

pub returns-then-c-eq39 : goal.returns-then-c-eq39
returns-then-c-eq39 c =
    let e : flat_map escaped (encode_utf8 c.args.c) ≡ 92 ∷ 39 ∷ [] = ap (λ d. flat_map escaped (encode_utf8 d)) c.if-c-eq39.true ∙ quote in
    rw e (search rules)

pub returns-then-c-eq10 : goal.returns-then-c-eq10
returns-then-c-eq10 c =
    let e : flat_map escaped (encode_utf8 c.args.c) ≡ 92 ∷ 110 ∷ [] = ap (λ d. flat_map escaped (encode_utf8 d)) c.if-c-eq10.true ∙ line_feed in
    rw e (search rules)

pub returns-then-c-eq9 : goal.returns-then-c-eq9
returns-then-c-eq9 c =
    let e : flat_map escaped (encode_utf8 c.args.c) ≡ 92 ∷ 116 ∷ [] = ap (λ d. flat_map escaped (encode_utf8 d)) c.if-c-eq9.true ∙ tab in
    rw e (search rules)

pub returns : goal.returns
returns c =
    let e : flat_map escaped (encode_utf8 c.args.c) ≡ encode_utf8 c.args.c = plain_char c.args.c c.if-c-eq92.false c.if-c-eq39.false c.if-c-eq10.false c.if-c-eq9.false in
    rw e (search rules)
