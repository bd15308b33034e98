-- Where no service has a name.
use Rattle.std.proofs.Common.{◌≡◌, ℕ, Bool, true, false, List, [], ◌∷◌, Option, Some, None, cond, refl, sym, ap, subst}
use Rattle.std.specs.Prelude.{find, nat_lt}
use Rattle.std.specs.List.{list_all}
use Rattle.std.specs.Option.{option_map}
use Rattle.std.specs.Str.{IsUtf8}
use Rattle.std.proofs.lemmas.Bool.{and_right, and_parts, ltb-true}
use Rattle.wb_aql_tokens.proofs.Runs.{ascii_text}
use Rattle.wb_aql_tokens.proofs.Words.{differs}
use Rattle.wb_aql_grammar.specs.declared.expr.CallKind.{CallKind}
use Rattle.wb_aql_check.specs.Services.{Row, services, service_named, is_named, same_kind}

-- the first row is not it, and none of the others is
pub missed : {A : Type 0} (b : Bool) (x : A) (rest : Option A) → b ≡ false → rest ≡ None → cond b (Some x) rest ≡ None
missed b x rest e r = subst (λ y. cond y (Some x) rest ≡ None) (sym e) r

none_named : (kind : CallKind) (name : List ℕ) (rows : List Row) → list_all (λ (row : Row). list_all (λ c. nat_lt c 128) row.name) rows ≡ true → ¬ (IsUtf8 name) → find (is_named kind name) rows ≡ None
none_named kind name [] all wrong = refl
none_named kind name (row ∷ rows) all wrong =
    let parts = and_parts _ _ all in
    missed (is_named kind name row) row (find (is_named kind name) rows)
    (and_right (same_kind row.kind kind) _ (differs (λ same. wrong (subst IsUtf8 (sym same) (ascii_text (λ c. nat_lt c 128) (λ c. ltb-true c 128) row.name parts.0)))))
    (none_named kind name rows parts.1 wrong)

-- every service's name is a text
pub no_text_is_none : (kind : CallKind) (name : List ℕ) → ¬ (IsUtf8 name) → service_named kind name ≡ None
unfolding service_named services
no_text_is_none kind name wrong = ap (option_map (λ (row : Row). (row.callee, row.parameters))) (none_named kind name services refl wrong)
