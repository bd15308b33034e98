-- A text has one answer of the grammar at most.
use Rattle.std.proofs.Common.{◌≡◌, ℕ, List, Ok, Err, ap}
use Rattle.std.specs.Prelude.{Result}
use Rattle.wb_aql_grammar.specs.Tree.{Tree}
use Rattle.wb_aql_grammar.specs.declared.refusal.ParseRefusal.{ParseRefusal}
use Rattle.wb_aql_grammar.specs.declared.refusal.ParseRefusal.TheVariants.{Syntax, TooDeep, NoMemory}
use Rattle.wb_aql_grammar.proofs.Texts.{text_tree, text_syntax, text_depth, text_refusal, text_no_syntax, text_no_depth}
use Rattle.wb_expressions.specs.Parsed.{IsAnswer, parsed, parsed_answers}

pub same_answer : (text : List ℕ) (a b : Result Tree ParseRefusal) → IsAnswer text a → IsAnswer text b → a ≡ b
same_answer text (Ok x) (Ok y) h k = ap Ok (text_tree text x y h k)
same_answer text (Ok x) (Err (Syntax p)) h k = absurd (text_no_syntax text x p h k)
same_answer text (Ok x) (Err (TooDeep p)) h k = absurd (text_no_depth text x p h k)
same_answer text (Err (Syntax p)) (Ok x) h k = absurd (text_no_syntax text x p k h)
same_answer text (Err (Syntax p)) (Err (Syntax q)) h k = ap (λ z. Err (Syntax z)) (text_syntax text p q h k)
same_answer text (Err (Syntax p)) (Err (TooDeep q)) h k = absurd (text_refusal text p q h k)
same_answer text (Err (TooDeep p)) (Ok x) h k = absurd (text_no_depth text x p k h)
same_answer text (Err (TooDeep p)) (Err (Syntax q)) h k = absurd (text_refusal text q p k h)
same_answer text (Err (TooDeep p)) (Err (TooDeep q)) h k = ap (λ z. Err (TooDeep z)) (text_depth text p q h k)
same_answer text a (Err NoMemory) h k = absurd k
same_answer text (Err NoMemory) b h k = absurd h

-- an answer is that of the function
pub the_answer : (text : List ℕ) (answer : Result Tree ParseRefusal) → IsAnswer text answer → answer ≡ parsed text
the_answer text answer h = same_answer text answer (parsed text) h (parsed_answers text)
