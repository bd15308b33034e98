-- The expressions that viewpoints write: a prefix, what stands behind it, and the names that it uses.
use Rattle.std.specs.Prelude.{ℕ, List, [], Option, Some, None, Result, Ok, Err, bytes_eq, codes, decimal, take, drop, length, option_and_then, if◌then◌else◌}
use Rattle.std.specs.Option.{option_map_or}
use Rattle.wb_base.specs.Results.{◌>>=◌}
use Rattle.wb_metamodel.specs.Metamodel.{Metamodel}
use Rattle.wb_aql_tokens.specs.Lexes.{is_expression_name}
use Rattle.wb_aql_grammar.specs.Tree.{Tree}
use Rattle.wb_aql_grammar.specs.Tree as t
use Rattle.wb_aql_grammar.specs.declared.refusal.ParseRefusal.{ParseRefusal}
use Rattle.wb_aql_grammar.specs.declared.refusal.ParseRefusal.TheVariants as p
use Rattle.wb_aql_check.specs.Checked.{checked}
use Rattle.wb_aql_check.specs.declared.checked.Origin.{Origin}
use Rattle.wb_aql_check.specs.declared.refusal.CheckRefusal.{CheckRefusal}
use Rattle.wb_aql_check.specs.declared.refusal.CheckRefusal.TheVariants as n
use Rattle.wb_expressions.specs.Parsed.{parsed}
use Rattle.wb_expressions.specs.declared.problem.ProblemCode.{ProblemCode}
use Rattle.wb_expressions.specs.declared.problem.ProblemCode.TheVariants as c

-- ---- what is written

-- what stands behind the prefix of an expression
pub data Written : Type 0 where
  -- behind `aql:` any text
  aql : List ℕ → Written
  -- behind `feature:` a name, which means that feature of `self`
  feature : List ℕ → Written
  -- behind `var:` a name, which means that variable
  variable : List ℕ → Written
  -- nothing known
  unknown : Written

-- what follows the prefix, where the text begins with its bytes
abbrev pub behind : List ℕ → List ℕ → Option (List ℕ)
behind prefix text = if bytes_eq (take (length prefix) text) prefix then Some (drop (length prefix) text) else None

-- the name of the grammar that follows the prefix
abbrev pub name_behind : List ℕ → List ℕ → Option (List ℕ)
name_behind prefix text = option_and_then (λ name. if is_expression_name name then Some name else None) (behind prefix text)

unfoldable pub written : List ℕ → Written
written text =
    option_map_or aql (behind (codes "aql:") text)
    (option_map_or feature (name_behind (codes "feature:") text)
    (option_map_or variable (name_behind (codes "var:") text) unknown))

-- ---- its tree

-- the place, in decimal, at which a text of the grammar is refused; no refusal is want of memory
abbrev pub misspelled : ParseRefusal → ProblemCode × List ℕ
misspelled (p.Syntax offset) = (c.Syntax, decimal offset)
misspelled (p.TooDeep offset) = (c.TooDeep, decimal offset)
misspelled p.NoMemory = (c.Syntax, [])

-- the tree that the text behind `aql:` spells, or the place at which it is refused
abbrev pub spelled_tree : Result Tree ParseRefusal → Result Tree (ProblemCode × List ℕ)
spelled_tree (Ok x) = Ok x
spelled_tree (Err refusal) = Err (misspelled refusal)

abbrev pub written_tree : Written → Result Tree (ProblemCode × List ℕ)
written_tree (aql text) = spelled_tree (parsed text)
written_tree (feature name) = Ok (t.Feature (t.Variable (codes "self")) name)
written_tree (variable name) = Ok (t.Variable name)
written_tree unknown = Err (c.BadPrefix, [])

-- the tree of an expression, or what is wrong with its text
unfoldable pub tree_of : List ℕ → Result Tree (ProblemCode × List ℕ)
tree_of text = written_tree (written text)

-- ---- its names

-- the name that is not known; no refusal is want of memory
abbrev pub misnamed : CheckRefusal → ProblemCode × List ℕ
misnamed (n.UnknownVariable name) = (c.UnknownVariable, name)
misnamed (n.UnknownFeature name) = (c.UnknownFeature, name)
misnamed (n.UnknownService name) = (c.UnknownService, name)
misnamed (n.WrongArity name) = (c.WrongArity, name)
misnamed (n.UnknownType name) = (c.UnknownType, name)
misnamed n.NoMemory = (c.UnknownVariable, [])

abbrev pub known_tree : Result (Origin × List (List ℕ)) CheckRefusal → Result (Origin × List (List ℕ)) (ProblemCode × List ℕ)
known_tree (Ok known) = Ok known
known_tree (Err refusal) = Err (misnamed refusal)

-- the checked expression, or its first problem
unfoldable pub expression : Metamodel → List (List ℕ) → List ℕ → Result (Origin × List (List ℕ)) (ProblemCode × List ℕ)
expression mm scope text = tree_of text >>= λ x. known_tree (checked mm scope x)
