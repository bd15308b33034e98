-- How far a level stands above the unaries, for the measures of the parser's calls.
use Rattle.std.specs.Prelude.{ℕ, ◌+◌}
use Rattle.wb_aql_grammar.specs.declared.level.Level.{Level}
use Rattle.wb_aql_grammar.specs.declared.level.Level.TheVariants as v

abbrev pub operand_rank : Level → ℕ
operand_rank v.Implies = 17
operand_rank v.Or = 15
operand_rank v.Xor = 13
operand_rank v.And = 11
operand_rank v.Sum = 7
operand_rank v.Term = 5

abbrev pub level_rank : Level → ℕ
level_rank v = operand_rank v + 1
