-- A class has a feature exactly where it conforms to the feature's owner, as tests.
use Rattle.std.proofs.Common.{◌≡◌, ℕ, ◌||◌, true, eqb, List, [], ◌∷◌, Some, refl, sym, ap, ◌∙◌}
use Rattle.std.specs.Cmp.{nat_eq_equiv}
use Rattle.std.specs.List.{list_any}
use Rattle.wb_ecore.specs.declared.features.Feature.{Feature}
use Rattle.wb_metamodel.specs.Metamodel.{Metamodel, conforms, features_of, feature_at}
use Rattle.wb_metamodel.specs.WellFormed.{WellFormed}
use Rattle.wb_metamodel.proofs.Paths.{conforms-path, path-conforms}
use Rattle.wb_metamodel.proofs.FeatureLaws.{feature-conforms, conforms-feature}
use Rattle.wb_validity.specs.Valid.{has_feature}

turned : (f : ℕ) (xs : List ℕ) → list_any (λ g. eqb g f) xs ≡ list_any (eqb f) xs
turned f [] = refl
turned f (x ∷ xs) = ap (λ b. b || list_any (λ g. eqb g f) xs) (nat_eq_equiv.symm x f) ∙ ap (λ b. eqb f x || b) (turned f xs)

pub feature-owner : (mm : Metamodel) (c f : ℕ) (feature : Feature) → feature_at mm f ≡ Some feature → has_feature mm c f ≡ true → conforms mm c feature.owner ≡ true
feature-owner mm c f feature e h = path-conforms mm c feature.owner (feature-conforms mm c f feature e (sym (turned f (features_of mm c)) ∙ h))

pub owner-feature : (mm : Metamodel) → WellFormed mm → (c f : ℕ) (feature : Feature) → feature_at mm f ≡ Some feature → conforms mm c feature.owner ≡ true → has_feature mm c f ≡ true
owner-feature mm well c f feature e h = turned f (features_of mm c) ∙ conforms-feature mm well c f feature e (conforms-path mm c feature.owner h)
