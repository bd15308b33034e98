-- What is printed is read again.
use Rattle.std.proofs.Common.{◌≡◌, ℕ, List, true, subst}
use Rattle.wb_aql_grammar.specs.Tree.{Tree}
use Rattle.wb_aql_grammar.specs.Grammar.{Spells}
use Rattle.wb_aql_tokens.specs.Lexes.{Lexes}
use Rattle.wb_aql_grammar.specs.Expressions.{SpellsText, IsExpression}
use Rattle.wb_aql_syntax.specs.Canonical.{canon}
use Rattle.wb_aql_syntax.specs.Printed.{printed, is_writable}
use Rattle.wb_aql_tokens.specs.declared.token.Token.{Token}
use Rattle.wb_aql_syntax.proofs.Least.{least_bounds, same_tree}
use Rattle.wb_aql_syntax.proofs.CanonicalSpells.{spelled_within}
use Rattle.wb_aql_tokens.proofs.OneLexing.{one_text, all_within}
use Rattle.wb_aql_syntax.proofs.Readable.{printed_lexes}
use Rattle.wb_aql_syntax.proofs.Sound.{writable}

pub read_is_writable : (n l offset : ℕ) (text starts : List ℕ) (tokens : List Token) (x : Tree) → Lexes offset text tokens starts → Spells n l tokens x → is_writable x ≡ true
read_is_writable n l offset text starts tokens x d e = writable n l tokens x (all_within d) e

pub same_printed : (x y : Tree) → is_writable x ≡ true → is_writable y ≡ true → printed x ≡ printed y → x ≡ y
same_printed x y h k e =
    let u = printed_lexes x h in
    let v = printed_lexes y k in
    same_tree x y (one_text (subst (λ bytes. Lexes 0 bytes (canon x) u.0) e u.1) (canon y) v.0 v.1).0

-- what is printed of an expression spells it within the bounds of a text
pub read_back : (x : Tree) → IsExpression x → SpellsText (printed x) x
read_back x e =
    let d = e.spelled in
    let least = least_bounds 64 4 d.tokens x d.spells in
    let u = printed_lexes x (read_is_writable 64 4 0 e.text d.starts d.tokens x d.lexes d.spells) in
    record { tokens = canon x; starts = u.0; lexes = u.1; spells = spelled_within x 64 4 least.0 least.1 }
