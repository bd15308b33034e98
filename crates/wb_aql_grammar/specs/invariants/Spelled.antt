-- What the parser of tokens answers.
use Rattle.std.specs.Prelude.{◌≡◌, List, Result, MatchResult}
use Rattle.wb_aql_grammar.specs.Tree.{Tree}
use Rattle.wb_aql_grammar.specs.View.{tree_of}
use Rattle.wb_aql_grammar.specs.Places.{IsSyntax, IsTooDeep}
use Rattle.wb_aql_tokens.specs.declared.token.Token.{Token}
use Rattle.wb_aql_grammar.specs.declared.expr.Node.{Node}
use Rattle.wb_aql_grammar.specs.declared.spelled.TokenRefusal.{TokenRefusal}
use Rattle.wb_aql_grammar.specs.declared.spelled.TokenRefusal.TheVariants as r

-- the answer is this tree, or want of memory
abbrev pub IsReadAs : Tree → Result Node TokenRefusal → Type 0
IsReadAs x result = MatchResult result (λ node. tree_of node ≡ x) (λ e. e ≡ r.NoMemory)

-- the place of the refusal, within 64 openings and 4 lambdas; want of memory says nothing
abbrev pub RefusesTokens : List Token → TokenRefusal → Type 0
RefusesTokens tokens (r.Syntax place) = IsSyntax 64 4 tokens place
RefusesTokens tokens (r.TooDeep place) = IsTooDeep 64 4 tokens place
RefusesTokens tokens r.NoMemory = Unit {0}
