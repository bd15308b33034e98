-- What follows is no longer than what was read.
use Rattle.std.proofs.Common.{◌≡◌, ℕ, List, ◌∷◌, ◌≤◌, length, arith, ap}
use Rattle.std.specs.Prelude.{◌<◌}
use Rattle.wb_aql_grammar.specs.Tree.{Tree}
use Rattle.wb_aql_grammar.specs.Tree as t
use Rattle.wb_aql_grammar.specs.Grammar.{Bound, Rest, done}
use Rattle.wb_aql_grammar.specs.invariants.Runs.{Outcome, Good, Wrong, Deep, Runs}
use Rattle.wb_aql_grammar.specs.invariants.Runs as run
use Rattle.wb_aql_grammar.specs.invariants.Reading.{ReadsSign, ReadsName, Enters}
use Rattle.wb_aql_tokens.specs.declared.token.Token.{Token}
use Rattle.wb_aql_tokens.specs.declared.token.Token.TheVariants.{Name}

-- what follows
abbrev pub left : Outcome → List Token
left (Good x rest) = rest
left (Wrong rest) = rest
left (Deep rest) = rest

behind : (a : Token) (text : List Token) → length text ≤ length (a ∷ text)
behind a text = omega arith

pub runs_within : {n l : ℕ} {r : Rest} {text : List Token} {o : Outcome} → Runs n l r text o → length (left o) ≤ length text
runs_within run.runs_done = omega arith
runs_within (run.runs_sign {a = a} {text = text} d) = omega (arith, runs_within d, behind a text)
runs_within (run.runs_no_sign e) = omega arith
runs_within (run.runs_name {v = v} {text = text} d) = omega (arith, runs_within d, behind (Name v) text)
runs_within (run.runs_no_name e) = omega arith
runs_within (run.runs_phrase e d1 d2) = omega (arith, runs_within d1, runs_within d2)
runs_within (run.runs_phrase_stop e d s) = runs_within d
runs_within (run.runs_no_phrase e) = omega arith
runs_within (run.runs_opening {a = a} {text = text} takes d1 d2) = omega (arith, runs_within d1, runs_within d2, behind a text)
runs_within (run.runs_opening_stop {a = a} {text = text} takes d s) = omega (arith, runs_within d, behind a text)
runs_within (run.runs_no_opening e) = omega arith
runs_within (run.runs_too_deep s) = omega arith

any : Tree
any = t.Integer 0

pub sign_within : {a : Token} {text rest : List Token} → ReadsSign a text rest → length rest ≤ length text
sign_within {rest = rest} f = runs_within (f 0 0 (done any) (Good any rest) run.runs_done)

pub name_within : {v : List ℕ} {text rest : List Token} → ReadsName v text rest → length rest ≤ length text
name_within {rest = rest} f = runs_within (f 0 0 (λ w. done any) (Good any rest) run.runs_done)

pub enters_within : {b : Bound} {a : Token} {text rest : List Token} {n l m k : ℕ} → Enters b a text rest n l m k → length rest ≤ length text
enters_within {rest = rest} f = runs_within ((f (done any) done).1 any rest (Good any rest) run.runs_done run.runs_done)

pub behind_within : (a : Token) (text rest : List Token) → text ≡ a ∷ rest → length rest < length text
behind_within a text rest e = omega (arith, ap length e)
