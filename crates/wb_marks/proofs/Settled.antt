-- Marks that are settled.
use Rattle.std.proofs.Common.{◌≡◌, Bool, true, false, cond, List, [], ◌∷◌, filter, Option, Some, None, refl, sym, ap, ◌∙◌, subst}
use Rattle.std.proofs.lemmas.Bool.{false≢true, and_parts, and_from}
use Rattle.std.specs.Cmp.{eq_by_cmp_equiv}
use Rattle.std.specs.FinMap.{get}
use Rattle.std.specs.List.{list_any, list_all}
use Rattle.std.specs.Ordering.{is_eq}
use Rattle.std.specs.Prelude.{IsSome}
use Rattle.std.specs.declared.cmp.Ordering.{Ordering}
use Rattle.std.specs.declared.cmp.Ordering.TheVariants as c
use Rattle.wb_diagram.specs.declared.keys.EdgeKey.{EdgeKey}
use Rattle.wb_diagram.specs.declared.keys.Key.{Key}
use Rattle.wb_layout.specs.Orders as orders
use Rattle.wb_layout.specs.Orders.{is_key, key_cmp}
use Rattle.wb_layout.specs.Positions.{Position, Positions, restricted}
use Rattle.wb_layout.proofs.Kept.{get-restricted, all_kept}
use Rattle.wb_layout.proofs.KeyOrder.{key_cmp_total, key_cmp-IsAntisymmetric}
use Rattle.wb_answers.specs.SameKeys.{among, same_key}
use Rattle.wb_answers.proofs.SameKeyLaws.{key_equiv, key_is}
use Rattle.wb_marks.specs.Marks.{AreOf, is_declared, settled}
use Rattle.wb_marks.specs.declared.marks.Marks.{Marks}

-- ---- lists

all_kept_pass : {X : Type 0} (p : X → Bool) (x : X) (xs : List X) (b : Bool) → p x ≡ b → list_all p xs ≡ true → list_all p (cond b (x ∷ xs) xs) ≡ true
all_kept_pass p x xs true is rest = and_from (p x) (list_all p xs) is rest
all_kept_pass p x xs false is rest = rest

pub filter_all : {X : Type 0} (p : X → Bool) (xs : List X) → list_all p (filter p xs) ≡ true
filter_all p [] = refl
filter_all p (x ∷ xs) = all_kept_pass p x (filter p xs) (p x) refl (filter_all p xs)

pub all_filter : {X : Type 0} (p : X → Bool) (xs : List X) → list_all p xs ≡ true → filter p xs ≡ xs
all_filter p [] all = refl
all_filter p (x ∷ xs) all =
    let parts = and_parts (p x) (list_all p xs) all in
    ap (λ b. cond b (x ∷ filter p xs) (filter p xs)) parts.0 ∙ ap (λ ys. x ∷ ys) (all_filter p xs parts.1)

-- ---- the two tests of keys are one

alike : (a b : Bool) → (a ≡ true → b ≡ true) → (b ≡ true → a ≡ true) → a ≡ b
alike true true f g = refl
alike true false f g = sym (f refl)
alike false true f g = g refl
alike false false f g = refl

equal_of : (r : Ordering) → is_eq r ≡ true → r ≡ c.Equal
equal_of c.Less e = absurd (false≢true e)
equal_of c.Equal e = refl
equal_of c.Greater e = absurd (false≢true e)

one_test : (x y : Key) → orders.same_key x y ≡ same_key x y
one_test x y =
    alike (orders.same_key x y) (same_key x y)
    (λ h. subst (λ z. same_key x z ≡ true) (key_cmp-IsAntisymmetric x y (equal_of (key_cmp x y) h)) (key_equiv.refl x))
    (λ h. subst (λ z. orders.same_key x z ≡ true) (key_is x y h) ((eq_by_cmp_equiv key_cmp_total).refl x))

pub is_key_among : (keys : List Key) (key : Key) → is_key keys key ≡ among keys key
is_key_among keys key = ap (λ (p : Key → Bool). list_any p keys) (λ i y. one_test key y i)

-- ---- positions

there : (b : Bool) (at : Option Position) → IsSome (cond b at None) → b ≡ true
there true at h = refl
there false at h = absurd (false≢true h)

pub restricted_among : (m : Positions) (nodes : List Key) (key : Key) → IsSome (get (restricted m nodes) key) → among nodes key ≡ true
restricted_among m nodes key h =
    there (among nodes key) (get m key) (subst (λ (o : Option Position). IsSome o) (get-restricted m nodes key ∙ ap (λ b. cond b (get m key) None) (is_key_among nodes key)) h)

stays_at : (b : Bool) (at : Option Position) → (IsSome at → b ≡ true) → at ≡ cond b at None
stays_at true at h = refl
stays_at false None h = refl
stays_at false (Some at) h = absurd (false≢true (h refl))

pub restricted_all : (m : Positions) (nodes : List Key) → ((key : Key) → IsSome (get m key) → among nodes key ≡ true) → restricted m nodes ≡ m
restricted_all m nodes all =
    sym (all_kept m m nodes (λ key. stays_at (among nodes key) (get m key) (all key) ∙ ap (λ b. cond b (get m key) None) (sym (is_key_among nodes key))))

-- ---- marks

pub settled_of : (nodes : List Key) (edges : List EdgeKey) (m : Marks) → AreOf nodes edges (settled nodes edges m)
settled_of nodes edges m = record {
  shown = filter_all (among nodes) m.shown;
  hidden = filter_all (is_declared nodes edges) m.hidden;
  placed = restricted_among m.layout nodes;
}

pub settled_stay : (nodes : List Key) (edges : List EdgeKey) (m : Marks) → AreOf nodes edges m → settled nodes edges m ≡ m
settled_stay nodes edges m of =
    let shown = all_filter (among nodes) m.shown of.shown in
    let hidden = all_filter (is_declared nodes edges) m.hidden of.hidden in
    let layout = restricted_all m.layout nodes of.placed in
    λ i. record { shown = shown i; hidden = hidden i; layout = layout i; layers = m.layers; filters = m.filters }

pub settled_once : (nodes : List Key) (edges : List EdgeKey) (m : Marks) → settled nodes edges (settled nodes edges m) ≡ settled nodes edges m
settled_once nodes edges m = settled_stay nodes edges (settled nodes edges m) (settled_of nodes edges m)
