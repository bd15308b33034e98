-- What is printed of a text, by what was read of it.
use Rattle.std.specs.Prelude.{◌≡◌, ℕ, List, Result, Ok, Err, IfOk, codes}
use Rattle.std.proofs.Common.{subst}
use Rattle.wb_aql_grammar.specs.Tree.{Tree}
use Rattle.wb_aql_grammar.specs.Expressions.{SpellsText, Refuses}
use Rattle.wb_aql_grammar.specs.declared.refusal.ParseRefusal.{ParseRefusal}
use Rattle.wb_aql_grammar.specs.declared.refusal.ParseRefusal.TheVariants.{Syntax, TooDeep}
use Rattle.wb_aql_syntax.specs.Printed.{printed}
use Rattle.cases_syntax.specs.Shown.{Shows, spelled, wrong, deep}

pub shows_spelling : {E : Type 0} (text : List ℕ) (x : Tree) (answer : Result (List ℕ) E) → SpellsText text x → IfOk answer (λ shown. shown ≡ printed x) → IfOk answer (Shows text)
shows_spelling text x (Ok shown) s e = spelled x s e
shows_spelling text x (Err error) s e = tt

pub shows_wrong : {E : Type 0} (text : List ℕ) (refusal : ParseRefusal) (offset : ℕ) (answer : Result (List ℕ) E) → Refuses text refusal → refusal ≡ Syntax offset → IfOk answer (λ shown. shown ≡ codes "Syntax") → IfOk answer (Shows text)
shows_wrong text refusal offset (Ok shown) r is e = wrong offset (subst (Refuses text) is r) e
shows_wrong text refusal offset (Err error) r is e = tt

pub shows_deep : {E : Type 0} (text : List ℕ) (refusal : ParseRefusal) (offset : ℕ) (answer : Result (List ℕ) E) → Refuses text refusal → refusal ≡ TooDeep offset → IfOk answer (λ shown. shown ≡ codes "TooDeep") → IfOk answer (Shows text)
shows_deep text refusal offset (Ok shown) r is e = deep offset (subst (Refuses text) is r) e
shows_deep text refusal offset (Err error) r is e = tt

pub ruleset shown = (shows_spelling, shows_wrong, shows_deep)
