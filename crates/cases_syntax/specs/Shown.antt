-- What is printed of a text.
use Rattle.std.specs.Prelude.{◌≡◌, ℕ, List, codes}
use Rattle.wb_aql_grammar.specs.Tree.{Tree}
use Rattle.wb_aql_grammar.specs.Expressions.{SpellsText, Refuses}
use Rattle.wb_aql_grammar.specs.declared.refusal.ParseRefusal.TheVariants.{Syntax, TooDeep}
use Rattle.wb_aql_syntax.specs.Printed.{printed}

-- the canonical spelling of the tree that the text spells, or the word of its refusal
pub data Shows (text shown : List ℕ) : Type 0 where
  spelled : (x : Tree) → SpellsText text x → shown ≡ printed x → Shows text shown
  wrong : (offset : ℕ) → Refuses text (Syntax offset) → shown ≡ codes "Syntax" → Shows text shown
  deep : (offset : ℕ) → Refuses text (TooDeep offset) → shown ≡ codes "TooDeep" → Shows text shown
