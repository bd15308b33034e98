use Rattle.std.proofs.Common.{◌≡◌, List, [], ◌∷◌, sym}
use Rattle.wb_aql_tokens.specs.declared.token.Token.{Token}
use Rattle.wb_aql_grammar.proofs.Shorter.{runs_within}
use Rattle.wb_aql_grammar.proofs.Whole.{spelled, one_tree, no_tree_wrong, no_tree_deep, syntax_wrong, syntax_behind, too_deep_at}
use Rattle.wb_aql_grammar.proofs.spelled.parse_tokens.Goals as goal

pub tokens_before-requires : goal.tokens_before-requires
tokens_before-requires c = runs_within c.in-Ok.ensures

pub tokens_before-requires-in-Err-Wrong : goal.tokens_before-requires-in-Err-Wrong
tokens_before-requires-in-Err-Wrong c = runs_within (rw c.in-Err-Wrong.field-0-is at c.in-Err-Wrong.ensures)

pub tokens_before-requires-in-Err-Deep : goal.tokens_before-requires-in-Err-Deep
tokens_before-requires-in-Err-Deep c = runs_within (rw c.in-Err-Deep.field-0-is at c.in-Err-Deep.ensures)

pub returns-in-None-clause-found : goal.returns-in-None-clause-found
returns-in-None-clause-found c = spelled (rw c.in-None.ensures at c.in-Ok.ensures)

pub returns-in-None-clause-taken : goal.returns-in-None-clause-taken
returns-in-None-clause-taken c x spells = sym (one_tree c.in-Ok.ensures 64 4 x spells).1

not_behind : (rest behind : List Token) (a : Token) → rest ≡ a ∷ behind → rest ≡ [] → ⊥
not_behind rest behind a e f = cc

pub returns-in-Some-clause-taken : goal.returns-in-Some-clause-taken
returns-in-Some-clause-taken c x spells = absurd (not_behind _ _ _ c.in-Some.ensures (one_tree c.in-Ok.ensures 64 4 x spells).0)

pub returns-in-Some-clause-refused : goal.returns-in-Some-clause-refused
returns-in-Some-clause-refused c = syntax_behind _ _ _ _ _ (rw c.in-Some.ensures at c.in-Ok.ensures) (rw c.in-Some.ensures at c.tokens_before.ensures)

pub returns-in-Err-Wrong-clause-taken : goal.returns-in-Err-Wrong-clause-taken
returns-in-Err-Wrong-clause-taken c x spells = absurd (no_tree_wrong (rw c.in-Err-Wrong.field-0-is at c.in-Err-Wrong.ensures) 64 4 x spells)

pub returns-in-Err-Wrong-clause-refused : goal.returns-in-Err-Wrong-clause-refused
returns-in-Err-Wrong-clause-refused c =
    syntax_wrong _ _ _ (rw c.in-Err-Wrong.field-0-is at c.in-Err-Wrong.ensures) c.tokens_before-in-Err-Wrong.ensures

pub returns-in-Err-Deep-clause-taken : goal.returns-in-Err-Deep-clause-taken
returns-in-Err-Deep-clause-taken c x spells = absurd (no_tree_deep (rw c.in-Err-Deep.field-0-is at c.in-Err-Deep.ensures) x spells)

pub returns-in-Err-Deep-clause-refused : goal.returns-in-Err-Deep-clause-refused
returns-in-Err-Deep-clause-refused c =
    too_deep_at _ _ _ (rw c.in-Err-Deep.field-0-is at c.in-Err-Deep.ensures) c.tokens_before-in-Err-Deep.ensures
