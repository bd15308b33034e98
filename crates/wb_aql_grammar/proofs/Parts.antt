-- What comes of the parts of a line is what comes of the line.
use Rattle.std.proofs.Common.{◌≡◌, ℕ, List, sym, subst}
use Rattle.std.specs.Prelude.{Result, Ok, Err, MatchResult}
use Rattle.std.specs.Result.{IsErrAnd}
use Rattle.std.specs.Borrow.{Bor}
use Rattle.wb_aql_grammar.specs.Tree.{Tree, Arguments}
use Rattle.wb_aql_grammar.specs.Grammar.{Rest, Phrase, Expr, Bound, openings, done, phrase, opening, last, inside}
use Rattle.wb_aql_grammar.specs.invariants.Runs.{Outcome, Good, Runs}
use Rattle.wb_aql_grammar.specs.invariants.Runs as run
use Rattle.wb_aql_grammar.specs.invariants.Reading.{IsOutcome, Enters, Comes, ComesEnded, ComesLinked, ComesArgument}
use Rattle.wb_aql_grammar.specs.declared.expr.Node.{Node}
use Rattle.wb_aql_grammar.specs.declared.expr.Argument.{Argument}
use Rattle.wb_aql_grammar.specs.declared.expr.CallKind.{CallKind}
use Rattle.wb_aql_tokens.specs.declared.token.Token.{Token}
use Rattle.wb_aql_grammar.specs.declared.unread.Unread.{Unread}
use Rattle.wb_aql_grammar.proofs.Steps.{map_stops, join_stop, enclose}

-- an error is passed on
pub exit : {A : Type 0} (result : Result A Unread) (e : Unread) (P : A → Type 0) (Q : Unread → Type 0) → IsErrAnd result (λ y. y ≡ e) → Q e → MatchResult result P Q
exit (Ok x) e P Q h q = absurd h
exit (Err y) e P Q h q = subst Q (sym h) q

-- the tree that was made
pub as_tree : {n l : ℕ} {r : Rest} {text rest : List Token} {x y : Tree} → x ≡ y → Runs n l r text (Good y rest) → Runs n l r text (Good x rest)
as_tree {n = n} {l = l} {r = r} {text = text} {rest = rest} e d = subst (λ z. Runs n l r text (Good z rest)) (sym e) d

-- what comes of one rest of a line comes of another
abbrev pub Leads : ℕ → ℕ → Rest → List Token → Rest → List Token → Type 0
Leads n l r rest s text = (o : Outcome) → Runs n l r rest o → Runs n l s text o

-- an error there is one here
pub stop_by : {n l : ℕ} {r s : Rest} {rest text : List Token} (e : Unread) → Leads n l r rest s text → IsOutcome (Runs n l r rest) e → IsOutcome (Runs n l s text) e
stop_by e f d = map_stops e (λ o s d. f o d) d

pub stop_phrase : (n l : ℕ) (p : Phrase) (r : Tree → Rest) (text : List Token) (e : Unread) → IsOutcome (Runs n l (last p) text) e → IsOutcome (Runs n l (phrase p r) text) e
stop_phrase n l p r text e d = map_stops e (join_stop r) d

pub stop_inside : {b : Bound} {a : Token} {text inside : List Token} {n l m k : ℕ} (i : Rest) (r : Tree → Rest) (e : Unread) → Enters b a text inside n l m k →
    IsOutcome (Runs m k i inside) e → IsOutcome (Runs n l (opening b a i r) text) e
stop_inside i r e enters d = map_stops e (enters i r).0 d

-- what comes of a link, and of an argument, is what comes of a line that leads there
pub comes_linked : (n l : ℕ) (r s : Rest) (text rest : List Token) (result : Result (Node × Bor (List Token)) Unread) → Leads n l r rest s text →
    ComesLinked n l r rest result → ComesLinked n l s text result
comes_linked n l r s text rest (Ok u) f d = λ o e. f o (d o e)
comes_linked n l r s text rest (Err e) f d = stop_by e f d

pub comes_argument : (n l : ℕ) (r s : CallKind → Tree → List ℕ → Arguments → Rest) (text : List Token) (result : Result (Argument Node × Bor (List Token)) Unread) →
    ((k : CallKind) (x : Tree) (v : List ℕ) (xs : Arguments) → Leads n l (r k x v xs) text (s k x v xs) text) → ComesArgument n l r text result → ComesArgument n l s text result
comes_argument n l r s text (Ok u) f d = λ k x v xs o e. f k x v xs o (d k x v xs o e)
comes_argument n l r s text (Err e) f d = λ k x v xs. stop_by e (f k x v xs) (d k x v xs)

-- an expression in brackets
pub comes_enclosed : (n l m k : ℕ) (a close : Token) (text inner : List Token) (result : Result (Node × Bor (List Token)) Unread) → Enters openings a text inner n l m k →
    ComesEnded m k close inner result → Comes n l (opening openings a (inside Expr close) done) text result
comes_enclosed n l m k a close text inner (Ok u) enters d = enclose enters _ _ (d done _ run.runs_done)
comes_enclosed n l m k a close text inner (Err e) enters d = stop_inside _ _ e enters (d done)
