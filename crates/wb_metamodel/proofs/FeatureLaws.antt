-- A class has each of its features once, and has those of the classes that it conforms to.
use Rattle.std.proofs.Common.{◌≡◌, ◌↔◌, ℕ, ◌<◌, true, false, eqb, List, [], ◌∷◌, ◌++◌, length, Some, zero, suc, refl, sym, ap, ◌∙◌, subst, inl, inr, ⊎_elim, arith}
use Rattle.std.specs.Prelude.{Contains}
use Rattle.std.proofs.lemmas.Bool.{false≢true, or_cases, or_left, or_right, eqb-true, eq-eqb}
use Rattle.std.proofs.lemmas.List.Folds.{list_any-append}
use Rattle.std.proofs.lemmas.Map.Views.{list_any-from_Contains, Contains-from_any}
use Rattle.std.proofs.lemmas.Option.{slice_get_within}
use Rattle.std.specs.Cmp.{nat_eq_equiv}
use Rattle.std.specs.List.{list_any, flat_map, slice_get, IsDistinct}
use Rattle.std.specs.Option.{option_map_or}
use Rattle.wb_base.specs.Paths.{Leads}
use Rattle.wb_base.specs.Paths.Leads.{directly, onward}
use Rattle.wb_base.proofs.Paths.{leads-over}
use Rattle.wb_base.proofs.ListLemmas.{filter-member, member-passes, member-filter, first_places-member, member-first_places, first_places-distinct}
use Rattle.wb_ecore.specs.declared.features.Feature.{Feature}
use Rattle.wb_metamodel.specs.Metamodel.{Metamodel, Conforms, numbers, supertypes_of, is_supertype, own_features, features_within, features_of, feature_at, first_places}
use Rattle.wb_metamodel.specs.WellFormed.{WellFormed}
use Rattle.wb_metamodel.proofs.Paths.{among_range, supertype-known}
use Rattle.wb_metamodel.proofs.Inherit.{is_owned, flat_map-member}
use Rattle.wb_metamodel.proofs.Ranks.{features_of-step}

within-distinct : (mm : Metamodel) (n c : ℕ) → IsDistinct eqb (features_within mm n c)
unfolding features_within IsDistinct
within-distinct mm zero c = tt
within-distinct mm (suc n) c = first_places-distinct (flat_map (features_within mm n) (supertypes_of mm c) ++ own_features mm c)

-- no feature stands twice
pub features-distinct : (mm : Metamodel) (c : ℕ) → IsDistinct eqb (features_of mm c)
unfolding features_of
features-distinct mm c = within-distinct mm (length mm.classes) c

-- those of the supertypes, and then the own, each at its first place
pub features-inherited : (mm : Metamodel) → WellFormed mm → (c : ℕ) → c < length mm.classes → features_of mm c ≡ first_places (flat_map (features_of mm) (supertypes_of mm c) ++ own_features mm c)
features-inherited mm well c h = features_of-step mm well.acyclic well.supertypes_known c h

-- ---- each feature's owner

owned-by : (mm : Metamodel) (c f : ℕ) (feature : Feature) → feature_at mm f ≡ Some feature → is_owned mm c f ≡ true → c ≡ feature.owner
owned-by mm c f feature e h = sym (eqb-true feature.owner c (sym (ap (λ o. option_map_or (λ (g : Feature). eqb g.owner c) o false) e) ∙ h))

conforms-over : (mm : Metamodel) (a k b : ℕ) → is_supertype mm a k ≡ true → Conforms mm k b → Conforms mm a b
conforms-over mm a k b h p =
    ⊎_elim
    (λ e. inr (subst (λ x. Leads (is_supertype mm) a x) e (directly h)))
    (λ q. inr (leads-over (is_supertype mm) a k b h q))
    p

within-conforms : (mm : Metamodel) (n c f : ℕ) (feature : Feature) → feature_at mm f ≡ Some feature → list_any (eqb f) (features_within mm n c) ≡ true → Conforms mm c feature.owner
unfolding features_within
within-conforms mm zero c f feature e h = absurd (false≢true h)
within-conforms mm (suc n) c f feature e h =
    ⊎_elim
    (λ a.
    let s = flat_map-member f (features_within mm n) (supertypes_of mm c) a in
    conforms-over mm c s.0 feature.owner s.1 (within-conforms mm n s.0 f feature e s.2))
    (λ b. inl (owned-by mm c f feature e (member-passes (is_owned mm c) f (numbers (length mm.features)) b)))
    (or_cases _ _ (sym (list_any-append (eqb f) (flat_map (features_within mm n) (supertypes_of mm c)) (own_features mm c)) ∙ first_places-member f _ h))

-- ---- a class that conforms to the owner has the feature

member-flat_map : (f : ℕ) (g : ℕ → List ℕ) (x : ℕ) (xs : List ℕ) → list_any (eqb x) xs ≡ true → list_any (eqb f) (g x) ≡ true → list_any (eqb f) (flat_map g xs) ≡ true
member-flat_map f g x [] m h = absurd (false≢true m)
member-flat_map f g x (y ∷ ys) m h =
    list_any-append (eqb f) (g y) (flat_map g ys)
    ∙ ⊎_elim
    (λ e. or_left _ _ (subst (λ z. list_any (eqb f) (g z) ≡ true) (eqb-true x y e) h))
    (λ later. or_right (list_any (eqb f) (g y)) _ (member-flat_map f g x ys later h))
    (or_cases (eqb x y) _ m)

own-has : (mm : Metamodel) → WellFormed mm → (f : ℕ) (feature : Feature) → feature_at mm f ≡ Some feature → list_any (eqb f) (features_of mm feature.owner) ≡ true
own-has mm well f feature e =
    let l = slice_get_within mm.features f feature e in
    let own = member-filter (is_owned mm feature.owner) f (numbers (length mm.features)) (ap (λ o. option_map_or (λ (g : Feature). eqb g.owner feature.owner) o false) e ∙ eq-eqb feature.owner feature.owner refl) (among_range f 0 (length mm.features) (omega arith) (omega arith)) in
    ap (list_any (eqb f)) (features-inherited mm well feature.owner (well.owners_known f feature e))
    ∙ member-first_places f _ (list_any-append (eqb f) (flat_map (features_of mm) (supertypes_of mm feature.owner)) (own_features mm feature.owner) ∙ or_right (list_any (eqb f) (flat_map (features_of mm) (supertypes_of mm feature.owner))) _ own)

over-has : (mm : Metamodel) → WellFormed mm → (a k f : ℕ) → is_supertype mm a k ≡ true → list_any (eqb f) (features_of mm k) ≡ true → list_any (eqb f) (features_of mm a) ≡ true
over-has mm well a k f h has =
    ap (list_any (eqb f)) (features-inherited mm well a (supertype-known mm a k h))
    ∙ member-first_places f _ (list_any-append (eqb f) (flat_map (features_of mm) (supertypes_of mm a)) (own_features mm a) ∙ or_left _ (list_any (eqb f) (own_features mm a)) (member-flat_map f (features_of mm) k (supertypes_of mm a) h has))

path-has : (mm : Metamodel) → WellFormed mm → (a b f : ℕ) → Leads (is_supertype mm) a b → list_any (eqb f) (features_of mm b) ≡ true → list_any (eqb f) (features_of mm a) ≡ true
path-has mm well a b f (directly h) has = over-has mm well a b f h has
path-has mm well a b f (onward {k = k} p h) has = path-has mm well a k f p (over-has mm well k b f h has)

-- a class conforms to the one that declares its feature
pub feature-conforms : (mm : Metamodel) (c f : ℕ) (feature : Feature) → feature_at mm f ≡ Some feature → list_any (eqb f) (features_of mm c) ≡ true → Conforms mm c feature.owner
unfolding features_of
feature-conforms mm c f feature e has = within-conforms mm (length mm.classes) c f feature e has

-- a class that conforms to it has the feature
pub conforms-feature : (mm : Metamodel) → WellFormed mm → (c f : ℕ) (feature : Feature) → feature_at mm f ≡ Some feature → Conforms mm c feature.owner → list_any (eqb f) (features_of mm c) ≡ true
conforms-feature mm well c f feature e p =
    let own = own-has mm well f feature e in
    ⊎_elim (λ same. subst (λ x. list_any (eqb f) (features_of mm x) ≡ true) (sym same) own) (λ q. path-has mm well c feature.owner f q own) p

-- a class has a feature exactly where it conforms to the one that declares it
pub features-declared : (mm : Metamodel) → WellFormed mm → (c f : ℕ) (feature : Feature) → feature_at mm f ≡ Some feature → Contains (features_of mm c) f ↔ Conforms mm c feature.owner
features-declared mm well c f feature e = (
  λ m. feature-conforms mm c f feature e (list_any-from_Contains nat_eq_equiv f (features_of mm c) m),
  λ p. Contains-from_any eqb-true f (features_of mm c) (conforms-feature mm well c f feature e p),
)
