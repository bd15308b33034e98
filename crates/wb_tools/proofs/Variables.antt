-- Variables that are bound have the names of their scope.
use Rattle.std.proofs.Common.{◌≡◌, ℕ, suc, Bool, true, false, ◌||◌, List, [], ◌∷◌, ◌++◌, length, append-nil, refl, sym, ap, subst, ◌∙◌, codes, if◌then◌else◌, arith}
use Rattle.std.specs.List.{list_any, IsDistinct, AllByRecursion}
use Rattle.std.proofs.lemmas.List.Elements.{All-from_recursion, recursion_from_All}
use Rattle.std.proofs.lemmas.List.Folds.{list_any-append}
use Rattle.std.proofs.lemmas.Slice.Eq.{bytes_eq-Decides}
use Rattle.wb_base.specs.Names.{same_name}
use Rattle.wb_metamodel.specs.Metamodel.{Metamodel}
use Rattle.wb_store.specs.declared.scalars.Scalar.{Scalar}
use Rattle.wb_store.specs.declared.scalars.Scalar.TheVariants.{Object}
use Rattle.wb_aql_values.specs.Bounds.{IsBounded, is_bounded}
use Rattle.wb_aql_values.specs.declared.values.Value.{Value}
use Rattle.wb_aql_values.specs.declared.values.Value.TheVariants.{One}
use Rattle.wb_aql_eval.specs.Outcomes.{Binds}
use Rattle.wb_aql_eval.specs.declared.env.Env.{Env}
use Rattle.wb_tools.specs.Bindings.{bound, in_context, inside_with, joined, named, no_variables, others, with_variable}
use Rattle.wb_tools.specs.Readiness.{with_self, one_more}

abbrev self : List ℕ
self = codes "self"

-- is a name among these?
abbrev has : List ℕ → List (List ℕ) → Bool
has name names = list_any (same_name name) names

-- ---- those of another name

same_either : (q name n : List ℕ) (b : Bool) → name ≡ n → (same_name q name || b) ≡ (same_name q name || (same_name q n || b))
same_either q name n b is = subst (λ k. (same_name q name || b) ≡ (same_name q name || (same_name q k || b))) is (twice (same_name q name) b)
  where
    twice : (a b : Bool) → (a || b) ≡ (a || (a || b))
    twice true b = refl
    twice false b = refl

swapped : (a b c : Bool) → (a || (b || c)) ≡ (b || (a || c))
swapped true true c = refl
swapped true false c = refl
swapped false b c = refl

picked : (P : Env → Type 0) (b : Bool) (x y : Env) → (b ≡ true → P x) → (b ≡ false → P y) → P (if b then x else y)
picked P true x y f g = f refl
picked P false x y f g = g refl

nothing_joined : (env : Env) → env ≡ joined env no_variables
nothing_joined env = λ i. record { names = sym (append-nil env.names) i; values = sym (append-nil env.values) i }

pub no_names : (env : Env) (name : List ℕ) (ns : List (List ℕ)) (vs : List Value) → length ns ≡ 0 → env ≡ joined env (others name ns vs)
unfolding others
no_names env name [] vs h = nothing_joined env
no_names env name (n ∷ ns) vs h = absurd (omega (arith, h))

pub no_values : (env : Env) (name : List ℕ) (ns : List (List ℕ)) (vs : List Value) → length vs ≡ 0 → env ≡ joined env (others name ns vs)
unfolding others
no_values env name [] [] h = nothing_joined env
no_values env name (n ∷ ns) [] h = nothing_joined env
no_values env name [] (v ∷ vs) h = absurd (omega (arith, h))
no_values env name (n ∷ ns) (v ∷ vs) h = absurd (omega (arith, h))

module _ (name : List ℕ) where
  others_names : (ns : List (List ℕ)) (vs : List Value) (q : List ℕ) → length vs ≡ length ns → (same_name q name || has q (others name ns vs).names) ≡ (same_name q name || has q ns)
  unfolding others
  others_names [] vs q paired = refl
  others_names (n ∷ ns) [] q paired = absurd (omega (arith, paired))
  others_names (n ∷ ns) (v ∷ vs) q paired =
      let rest : (same_name q name || has q (others name ns vs).names) ≡ (same_name q name || has q ns) = others_names ns vs q (omega (arith, paired)) in
      picked (λ (env : Env). (same_name q name || has q env.names) ≡ (same_name q name || (same_name q n || has q ns))) (same_name name n) (others name ns vs) (with_variable n v (others name ns vs))
      (λ is. rest ∙ same_either q name n (has q ns) ((bytes_eq-Decides name n).0 is))
      (λ is. swapped (same_name q name) (same_name q n) (has q (others name ns vs).names) ∙ (ap (λ b. same_name q n || b) rest ∙ swapped (same_name q n) (same_name q name) (has q ns)))

  others_paired : (ns : List (List ℕ)) (vs : List Value) → length (others name ns vs).values ≡ length (others name ns vs).names
  unfolding others
  others_paired [] vs = refl
  others_paired (n ∷ ns) [] = refl
  others_paired (n ∷ ns) (v ∷ vs) =
      let rest : length (others name ns vs).values ≡ length (others name ns vs).names = others_paired ns vs in
      picked (λ (env : Env). length env.values ≡ length env.names) (same_name name n) (others name ns vs) (with_variable n v (others name ns vs)) (λ is. rest) (λ is. ap (λ k. suc k) rest)

  -- what is true of all names is true of these
  others_each : (P : List ℕ → Type 0) (ns : List (List ℕ)) (vs : List Value) → AllByRecursion P ns → AllByRecursion P (others name ns vs).names
  unfolding others
  others_each P [] vs h = tt
  others_each P (n ∷ ns) [] h = tt
  others_each P (n ∷ ns) (v ∷ vs) h =
      let rest : AllByRecursion P (others name ns vs).names = others_each P ns vs h.1 in
      picked (λ (env : Env). AllByRecursion P env.names) (same_name name n) (others name ns vs) (with_variable n v (others name ns vs)) (λ is. rest) (λ is. (h.0, rest))

  others_apart : (ns : List (List ℕ)) (vs : List Value) → AllByRecursion (λ n. same_name name n ≡ false) (others name ns vs).names
  unfolding others
  others_apart [] vs = tt
  others_apart (n ∷ ns) [] = tt
  others_apart (n ∷ ns) (v ∷ vs) =
      let rest : AllByRecursion (λ k. same_name name k ≡ false) (others name ns vs).names = others_apart ns vs in
      picked (λ (env : Env). AllByRecursion (λ k. same_name name k ≡ false) env.names) (same_name name n) (others name ns vs) (with_variable n v (others name ns vs)) (λ is. rest) (λ is. (is, rest))

  others_once : (ns : List (List ℕ)) (vs : List Value) → IsDistinct same_name ns → IsDistinct same_name (others name ns vs).names
  unfolding others IsDistinct
  others_once [] vs h = tt
  others_once (n ∷ ns) [] h = tt
  others_once (n ∷ ns) (v ∷ vs) h =
      let rest : IsDistinct same_name (others name ns vs).names = others_once ns vs h.1 in
      let apart : AllByRecursion (λ k. same_name n k ≡ false) (others name ns vs).names = others_each (λ k. same_name n k ≡ false) ns vs h.0 in
      picked (λ (env : Env). IsDistinct same_name env.names) (same_name name n) (others name ns vs) (with_variable n v (others name ns vs)) (λ is. rest) (λ is. (apart, rest))

  others_bounded : (mm : Metamodel) (ns : List (List ℕ)) (vs : List Value) → AllByRecursion (IsBounded mm) vs → AllByRecursion (IsBounded mm) (others name ns vs).values
  unfolding others
  others_bounded mm [] vs h = tt
  others_bounded mm (n ∷ ns) [] h = tt
  others_bounded mm (n ∷ ns) (v ∷ vs) h =
      let rest : AllByRecursion (IsBounded mm) (others name ns vs).values = others_bounded mm ns vs h.1 in
      picked (λ (env : Env). AllByRecursion (IsBounded mm) env.values) (same_name name n) (others name ns vs) (with_variable n v (others name ns vs)) (λ is. rest) (λ is. (h.0, rest))

-- ---- one variable more

module _ (mm : Metamodel) (name : List ℕ) (v : Value) (env : Env) where
  -- it binds what was bound, and the name
  pub binds_bound : (scope wider : List (List ℕ)) → Binds mm scope env → IsBounded mm v → ((q : List ℕ) → (same_name q name || has q scope) ≡ has q wider) → Binds mm wider (bound name v env)
  unfolding bound IsDistinct
  binds_bound scope wider h fits wide = record {
    names = λ q. others_names name env.names env.values q h.paired ∙ ap (λ b. same_name q name || b) (h.names q) ∙ wide q;
    once = (others_apart name env.names env.values, others_once name env.names env.values h.once);
    paired = ap (λ k. suc k) (others_paired name env.names env.values);
    bounded = All-from_recursion (IsBounded mm) (bound name v env).values (fits, others_bounded name mm env.names env.values (recursion_from_All (IsBounded mm) env.values h.bounded));
  }

again : (a b : Bool) → (a || (a || b)) ≡ (a || b)
again true b = refl
again false b = refl

-- `self` comes where it was not, or where it was
pub binds_first : (mm : Metamodel) (names : List (List ℕ)) (o : ℕ) (env : Env) → Binds mm names env → Binds mm (with_self names) (in_context o env)
binds_first mm names o env h = binds_bound mm self (One (Object o)) env names (with_self names) h refl (λ q. refl)

pub binds_self : (mm : Metamodel) (names : List (List ℕ)) (o : ℕ) (env : Env) → Binds mm (with_self names) env → Binds mm (with_self names) (in_context o env)
binds_self mm names o env h = binds_bound mm self (One (Object o)) env (with_self names) (with_self names) h refl (λ q. again (same_name q self) (has q names))

last_first : (a b : Bool) → (a || b) ≡ (b || (a || false))
last_first true true = refl
last_first true false = refl
last_first false true = refl
last_first false false = refl

wider_names : (name : List ℕ) (scope : List (List ℕ)) (q : List ℕ) → (same_name q name || has q scope) ≡ has q (one_more name scope)
wider_names name scope q = last_first (same_name q name) (has q scope) ∙ sym (list_any-append (same_name q) scope (name ∷ []))

self_within : (name : List ℕ) (names : List (List ℕ)) (q : List ℕ) → name ≡ self → has q (with_self names) ≡ has q (one_more name (with_self names))
self_within name names q same = sym (again (same_name q self) (has q names)) ∙ (ap (λ k. same_name q k || has q (with_self names)) (sym same) ∙ wider_names name (with_self names) q)

binds_named : (mm : Metamodel) (names : List (List ℕ)) (name : List ℕ) (x : Scalar) (env : Env) → Binds mm (with_self names) env → is_bounded mm x ≡ true → Binds mm (one_more name (with_self names)) (named name x env)
binds_named mm names name x env h fits =
    picked (λ (nearer : Env). Binds mm (one_more name (with_self names)) nearer) (same_name name self) env (bound name (One x) env)
    (λ is. record {
      names = λ q. h.names q ∙ self_within name names q ((bytes_eq-Decides name self).0 is);
      once = h.once;
      paired = h.paired;
      bounded = h.bounded;
    })
    (λ is. binds_bound mm name (One x) env (with_self names) (one_more name (with_self names)) h fits (wider_names name (with_self names)))

pub binds_inside : (mm : Metamodel) (names : List (List ℕ)) (name : List ℕ) (x : Scalar) (o : ℕ) (env : Env) → Binds mm (with_self names) env → is_bounded mm x ≡ true → Binds mm (with_self (names ++ name ∷ [])) (inside_with name x o env)
binds_inside mm names name x o env h fits = binds_named mm names name x (in_context o env) (binds_self mm names o env h) fits
