-- The answer of the grammar for each text, its tree or its refusal: a function of the text.
use Rattle.std.specs.Prelude.{◌≡◌, ℕ, ◌+◌, ◌-◌, ◌≤◌, List, [], ◌∷◌, length, Result, Ok, Err, refl}
use Rattle.std.proofs.Common.{arith}
use Rattle.wb_aql_tokens.specs.declared.token.Token.{Token}
use Rattle.wb_aql_grammar.specs.Tree.{Tree}
use Rattle.wb_aql_grammar.specs.Grammar.{Expr, last}
use Rattle.wb_aql_grammar.specs.Places.{IsSyntax, IsTooDeep}
use Rattle.wb_aql_grammar.specs.Expressions.{SpellsText, Refuses, offset_at}
use Rattle.wb_aql_grammar.specs.invariants.Runs.{Outcome, Good, Wrong, Deep, Runs}
use Rattle.wb_aql_grammar.specs.declared.refusal.ParseRefusal.{ParseRefusal}
use Rattle.wb_aql_grammar.specs.declared.refusal.ParseRefusal.TheVariants as r
use Rattle.wb_aql_grammar.proofs.Shorter.{runs_within}
use Rattle.wb_aql_grammar.proofs.Total.{run_of}
use Rattle.wb_aql_grammar.proofs.Whole.{spelled, syntax_wrong, syntax_behind, too_deep_at}
use Rattle.wb_expressions.specs.Lexing.{Lexing, lexing_of}

-- the answer of the grammar for a text; want of memory is none
abbrev pub IsAnswer : List ℕ → Result Tree ParseRefusal → Type 0
IsAnswer text (Ok x) = SpellsText text x
IsAnswer text (Err (r.Syntax offset)) = Refuses text (r.Syntax offset)
IsAnswer text (Err (r.TooDeep offset)) = Refuses text (r.TooDeep offset)
IsAnswer text (Err r.NoMemory) = ⊥

-- ---- the answer, from what comes of reading the tokens of the text

abbrev Answer : List ℕ → Type 0
Answer text = (answer : Result Tree ParseRefusal) × IsAnswer text answer

-- how many tokens stand before the rest of them
place_of : List Token → List Token → ℕ
place_of tokens rest = length tokens - length rest

counted : (tokens rest : List Token) → length rest ≤ length tokens → place_of tokens rest + length rest ≡ length tokens
unfolding place_of
counted tokens rest short = omega (arith, short)

spells_at : {text : List ℕ} (l : Lexing text) (x : Tree) → Runs 64 4 (last Expr) l.tokens (Good x []) → Answer text
spells_at l x run = (Ok x, record { tokens = l.tokens; starts = l.starts; lexes = l.lexes; spells = spelled run })

syntax_at : {text : List ℕ} (l : Lexing text) (place : ℕ) → IsSyntax 64 4 l.tokens place → Answer text
syntax_at {text} l place is =
    (Err (r.Syntax (offset_at text l.starts place)), record { tokens = l.tokens; starts = l.starts; place = place; lexes = l.lexes; is = is; stands = refl })

deep_at : {text : List ℕ} (l : Lexing text) (place : ℕ) → IsTooDeep 64 4 l.tokens place → Answer text
deep_at {text} l place is =
    (Err (r.TooDeep (offset_at text l.starts place)), record { tokens = l.tokens; starts = l.starts; place = place; lexes = l.lexes; is = is; stands = refl })

comes_of : {text : List ℕ} (l : Lexing text) (o : Outcome) → Runs 64 4 (last Expr) l.tokens o → Answer text
comes_of l (Good x []) run = spells_at l x run
comes_of l (Good x (a ∷ rest)) run =
    let place = place_of l.tokens (a ∷ rest) in syntax_at l place (syntax_behind l.tokens a rest x place run (counted l.tokens (a ∷ rest) (runs_within run)))
comes_of l (Wrong rest) run =
    let place = place_of l.tokens rest in syntax_at l place (syntax_wrong l.tokens rest place run (counted l.tokens rest (runs_within run)))
comes_of l (Deep rest) run =
    let place = place_of l.tokens rest in deep_at l place (too_deep_at l.tokens rest place run (counted l.tokens rest (runs_within run)))

answer_of : (text : List ℕ) → Answer text
answer_of text = let l = lexing_of text in let run = run_of 64 4 l.tokens in comes_of l run.0 run.1

-- ---- each text has an answer

pub parsed : List ℕ → Result Tree ParseRefusal
parsed text = (answer_of text).0

pub parsed_answers : (text : List ℕ) → IsAnswer text (parsed text)
unfolding parsed
parsed_answers text = (answer_of text).1
