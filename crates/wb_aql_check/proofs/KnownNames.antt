-- An expression knows its names exactly where none of them is wrong, and still knows them where more is in scope.
use Rattle.std.proofs.Common.{◌≡◌, ◌↔◌, ℕ, Bool, true, false, ◌&&◌, ◌||◌, List, ◌∷◌, Option, Some, None, refl, sym, ap, ap₂, ◌∙◌}
use Rattle.std.specs.Prelude.{is_none}
use Rattle.std.specs.Option.{option_or, option_map_or}
use Rattle.std.proofs.lemmas.Bool.{and_parts, and_from, false≢true}
use Rattle.wb_metamodel.specs.Metamodel.{Metamodel, same_name}
use Rattle.wb_aql_grammar.specs.Tree.{Tree, Trees, Arguments}
use Rattle.wb_aql_grammar.specs.Tree as t
use Rattle.wb_aql_check.specs.Checked.{KnownTo}
use Rattle.wb_aql_check.specs.declared.checked.Origin.{Origin}
use Rattle.wb_aql_check.specs.declared.checked.Origin.TheVariants as o
use Rattle.wb_aql_check.specs.Names.{knows, knows_elements, knows_arguments, first_wrong, first_wrong_element, first_wrong_argument, unless, wrong_service, IsWithin, is_in, is_literal, is_feature, is_class}
use Rattle.wb_aql_check.specs.Services.{service_named, fits}
use Rattle.wb_aql_check.specs.declared.services.Callee.{Callee}
use Rattle.wb_aql_check.specs.declared.services.Parameters.{Parameters}
use Rattle.wb_aql_check.specs.declared.refusal.CheckRefusal.{CheckRefusal}
use Rattle.wb_aql_check.specs.declared.refusal.CheckRefusal.TheVariants as r

-- ---- nothing is wrong

none_of_both : (a b : Option CheckRefusal) → is_none (option_or a b) ≡ (is_none a && is_none b)
none_of_both None b = refl
none_of_both (Some x) b = refl

none_unless : (test : Bool) (refusal : CheckRefusal) → is_none (unless test refusal) ≡ test
none_unless true refusal = refl
none_unless false refusal = refl

none_of_service : (name : List ℕ) (xs : Arguments) (found : Option (Callee × Parameters)) → is_none (wrong_service name xs found) ≡ option_map_or (λ (found : Callee × Parameters). fits found.1 xs) found false
none_of_service name xs None = refl
none_of_service name xs (Some found) = none_unless (fits found.1 xs) (r.WrongArity name)

module _ (mm : Metamodel) where
  both : (a b : Option CheckRefusal) (p q : Bool) → is_none a ≡ p → is_none b ≡ q → is_none (option_or a b) ≡ (p && q)
  both a b p q h k = none_of_both a b ∙ ap₂ (λ x y. x && y) h k

  mutual
    unfolding first_wrong knows

    pub none_wrong : (scope : List (List ℕ)) (x : Tree) → is_none (first_wrong mm scope x) ≡ knows mm scope x
    none_wrong scope (t.Integer n) = refl
    none_wrong scope (t.Text w) = refl
    none_wrong scope (t.Const c) = refl
    none_wrong scope (t.Variable name) = none_unless (is_in scope name) (r.UnknownVariable name)
    none_wrong scope (t.Literal p e l) = none_unless (is_literal mm p e l) (r.UnknownType e)
    none_wrong scope (t.Collection k xs) = none_wrong_element scope xs
    none_wrong scope (t.Unary o x) = none_wrong scope x
    none_wrong scope (t.Binary o x y) = both _ _ _ _ (none_wrong scope x) (none_wrong scope y)
    none_wrong scope (t.If x y z) = both _ _ _ _ (none_wrong scope x) (both _ _ _ _ (none_wrong scope y) (none_wrong scope z))
    none_wrong scope (t.Let name x y) = both _ _ _ _ (none_wrong scope x) (none_wrong (name ∷ scope) y)
    none_wrong scope (t.Feature x name) = both _ _ _ _ (none_wrong scope x) (none_unless (is_feature mm name) (r.UnknownFeature name))
    none_wrong scope (t.Call kind x name xs) =
        both _ _ _ _ (none_wrong scope x) (both _ _ _ _ (none_of_service name xs (service_named kind name)) (none_wrong_argument scope xs))

    none_wrong_element : (scope : List (List ℕ)) (xs : Trees) → is_none (first_wrong_element mm scope xs) ≡ knows_elements mm scope xs
    none_wrong_element scope t.no_trees = refl
    none_wrong_element scope (t.trees x xs) = both _ _ _ _ (none_wrong scope x) (none_wrong_element scope xs)

    none_wrong_argument : (scope : List (List ℕ)) (xs : Arguments) → is_none (first_wrong_argument mm scope xs) ≡ knows_arguments mm scope xs
    none_wrong_argument scope t.no_arguments = refl
    none_wrong_argument scope (t.lambda name x xs) = both _ _ _ _ (none_wrong (name ∷ scope) x) (none_wrong_argument scope xs)
    none_wrong_argument scope (t.type_named p c xs) = both _ _ _ _ (none_unless (is_class mm p c) (r.UnknownType c)) (none_wrong_argument scope xs)
    none_wrong_argument scope (t.expression x xs) = both _ _ _ _ (none_wrong scope x) (none_wrong_argument scope xs)

  is_none_none : (o : Option CheckRefusal) → is_none o ≡ true → o ≡ None
  is_none_none None h = refl
  is_none_none (Some x) h = absurd (false≢true h)

  -- every name is known exactly where no name is the first wrong one
  pub known_is_not_wrong : (scope : List (List ℕ)) (x : Tree) → (knows mm scope x ≡ true) ↔ (first_wrong mm scope x ≡ None)
  known_is_not_wrong scope x =
      (λ h. is_none_none (first_wrong mm scope x) (none_wrong scope x ∙ h), λ h. sym (none_wrong scope x) ∙ ap is_none h)

-- ---- a larger scope

inner : (scope larger : List (List ℕ)) (nearest : List ℕ) → IsWithin scope larger → IsWithin (nearest ∷ scope) (nearest ∷ larger)
inner scope larger nearest h name known = under (same_name nearest name) (is_in scope name) (is_in larger name) (h name) known
  where
    under : (p q s : Bool) → (q ≡ true → s ≡ true) → (p || q) ≡ true → (p || s) ≡ true
    under true q s h known = refl
    under false q s h known = h known

module _ (mm : Metamodel) where
  both_kept : (p q p' q' : Bool) → (p ≡ true → p' ≡ true) → (q ≡ true → q' ≡ true) → (p && q) ≡ true → (p' && q') ≡ true
  both_kept p q p' q' h k both = let parts = and_parts p q both in and_from p' q' (h parts.0) (k parts.1)

  mutual
    unfolding knows

    pub known_in_larger : (scope larger : List (List ℕ)) (x : Tree) → IsWithin scope larger → knows mm scope x ≡ true → knows mm larger x ≡ true
    known_in_larger scope larger (t.Integer n) h known = refl
    known_in_larger scope larger (t.Text w) h known = refl
    known_in_larger scope larger (t.Const c) h known = refl
    known_in_larger scope larger (t.Variable name) h known = h name known
    known_in_larger scope larger (t.Literal p e l) h known = known
    known_in_larger scope larger (t.Collection k xs) h known = elements_in_larger scope larger xs h known
    known_in_larger scope larger (t.Unary o x) h known = known_in_larger scope larger x h known
    known_in_larger scope larger (t.Binary o x y) h known = both_kept _ _ _ _ (known_in_larger scope larger x h) (known_in_larger scope larger y h) known
    known_in_larger scope larger (t.If x y z) h known =
        both_kept _ _ _ _ (known_in_larger scope larger x h) (both_kept _ _ _ _ (known_in_larger scope larger y h) (known_in_larger scope larger z h)) known
    known_in_larger scope larger (t.Let name x y) h known =
        both_kept _ _ _ _ (known_in_larger scope larger x h) (known_in_larger (name ∷ scope) (name ∷ larger) y (inner scope larger name h)) known
    known_in_larger scope larger (t.Feature x name) h known = both_kept _ _ _ _ (known_in_larger scope larger x h) (λ k. k) known
    known_in_larger scope larger (t.Call kind x name xs) h known =
        both_kept _ _ _ _ (known_in_larger scope larger x h) (both_kept _ _ _ _ (λ k. k) (arguments_in_larger scope larger xs h)) known

    elements_in_larger : (scope larger : List (List ℕ)) (xs : Trees) → IsWithin scope larger → knows_elements mm scope xs ≡ true → knows_elements mm larger xs ≡ true
    elements_in_larger scope larger t.no_trees h known = refl
    elements_in_larger scope larger (t.trees x xs) h known = both_kept _ _ _ _ (known_in_larger scope larger x h) (elements_in_larger scope larger xs h) known

    arguments_in_larger : (scope larger : List (List ℕ)) (xs : Arguments) → IsWithin scope larger → knows_arguments mm scope xs ≡ true → knows_arguments mm larger xs ≡ true
    arguments_in_larger scope larger t.no_arguments h known = refl
    arguments_in_larger scope larger (t.lambda name x xs) h known =
        both_kept _ _ _ _ (known_in_larger (name ∷ scope) (name ∷ larger) x (inner scope larger name h)) (arguments_in_larger scope larger xs h) known
    arguments_in_larger scope larger (t.type_named p c xs) h known = both_kept _ _ _ _ (λ k. k) (arguments_in_larger scope larger xs h) known
    arguments_in_larger scope larger (t.expression x xs) h known = both_kept _ _ _ _ (known_in_larger scope larger x h) (arguments_in_larger scope larger xs h) known

-- the same of what was checked
pub known_to_larger : (mm : Metamodel) (origin : Origin) (scope larger : List (List ℕ)) → IsWithin scope larger → KnownTo mm origin scope → KnownTo mm origin larger
known_to_larger mm (o.Expr x) scope larger h known = known_in_larger mm scope larger x h known
known_to_larger mm (o.Extent class) scope larger h known = known
