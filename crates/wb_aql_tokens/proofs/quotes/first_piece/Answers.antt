use Rattle.std.proofs.Common.{◌∷◌, ap, ◌∙◌}
use Rattle.wb_aql_tokens.proofs.Pieces.{escape_piece, raw_piece}
use Rattle.wb_aql_tokens.proofs.quotes.first_piece.Goals as goal

pub returns-then-byte-eq92 : goal.returns-then-byte-eq92
returns-then-byte-eq92 c =
    escape_piece c.args.bytes.now c.in-Some.rest.now (c.in-Some.ensures ∙ ap (λ byte. byte ∷ c.in-Some.rest.now) c.if-byte-eq92.true) c.escaped.result c.escaped.ensures

pub returns-else-byte-eq39 : goal.returns-else-byte-eq39
returns-else-byte-eq39 c = raw_piece c.args.bytes.now c.in-Some.rest.now c.in-Some.byte c.in-Some.ensures c.if-byte-eq92.false c.if-byte-eq39.false
