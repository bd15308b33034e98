-- The names of each scope.
use Rattle.std.proofs.Common.{rules, ◌≡◌, ℕ, List, ◌∷◌, Bor}
use Rattle.wb_aql_check.specs.Scopes.{names_of}
use Rattle.wb_aql_check.specs.declared.scope.Scope.{Scope, Outer, Inner, the_lemmas}

pub names_outer : (names : Bor (List (List ℕ))) → names_of (Outer names) ≡ names.now
unfolding names_of
names_outer names = search (rules, the_lemmas)

pub names_inner : (outer : Bor Scope) (name : Bor (List ℕ)) → names_of (Inner outer name) ≡ name.now ∷ names_of outer.now
unfolding names_of
names_inner outer name = search (rules, the_lemmas)
