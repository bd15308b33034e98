-- What is true of all units of looks and filters: the viewpoint has their expressions, and they name paths where the keys are paths.
use Rattle.std.proofs.Common.{◌≡◌, ℕ, Bool, true, false, List, [], ◌∷◌, Option, Some, None, refl, sym, ◌∙◌, if◌then◌else◌}
use Rattle.std.specs.Prelude.{⊤, All, IsSome, flat_map, option_map, slice_get}
use Rattle.std.proofs.lemmas.List.Elements.{All-append, All-cons, All-head, All-nil, All-tail}
use Rattle.wb_diagram.specs.Keys.{IsWritable}
use Rattle.wb_diagram.specs.Units.{NamesPaths}
use Rattle.wb_diagram.specs.declared.keys.AnyKey.{AnyKey}
use Rattle.wb_diagram.specs.declared.units.Unit.{Unit as Place}
use Rattle.wb_diagram.specs.declared.units.Unit.TheVariants.{Filter as FilterUnit}
use Rattle.wb_spec_check.specs.Checked.{Specification, IsGood}
use Rattle.wb_spec_check.specs.Units.{expression_of}
use Rattle.wb_spec_check.specs.declared.checked_filters.CheckedFilter.{CheckedFilter}
use Rattle.wb_answers.specs.Seen.{Told}
use Rattle.wb_looks.specs.Filters.{filter_numbers, filter_unit, filter_units, is_filtered}
use Rattle.wb_looks.specs.Looks.{HasExpression, HasMapping, look_units, looks_of}
use Rattle.wb_looks.proofs.Expressed.{all_expressed, units_all}
use Rattle.wb_looks.proofs.TellLaws.{none_filtered}

-- what is true of all that each item gives
all_flat : {X Y : Type 0} (P : X → Type 0) (Q : Y → Type 0) (f : X → List Y) (xs : List X) → ((x : X) → P x → All Q (f x)) → All P xs → All Q (flat_map f xs)
all_flat P Q f [] h all = All-nil Q
all_flat P Q f (x ∷ xs) h all = All-append Q (f x) (flat_map f xs) (h x (All-head P x xs all)) (all_flat P Q f xs h (All-tail P x xs all))

-- ---- the units of a look

-- the viewpoint has an expression for each unit that a look may ask
pub look_units_expressed : (spec : Specification) (key : AnyKey) → IsGood spec → HasMapping spec key → (told : Told) → All (HasExpression spec) (look_units spec told key)
look_units_expressed = all_expressed

-- each unit of the look of a path, or of an edge between paths, names paths
pub look_units_name_paths : (spec : Specification) (key : AnyKey) → IsWritable key → (told : Told) → All NamesPaths (look_units spec told key)
look_units_name_paths spec key path told = units_all NamesPaths (looks_of spec key) told key (λ i _. path) (λ n _ _. path)

-- ---- the units of filters

filter_units_all : (P : AnyKey → Type 0) (Q : Place → Type 0) (spec : Specification) (keys : List AnyKey) → ((f : ℕ) (key : AnyKey) → P key → is_filtered spec f key ≡ true → Q (FilterUnit f key)) → All P keys → All Q (filter_units spec keys)
unfolding filter_units
filter_units_all P Q spec keys h all = each_filter (filter_numbers spec)
  where
    unit : (f : ℕ) (key : AnyKey) → P key → (b : Bool) → is_filtered spec f key ≡ b → All Q (if b then FilterUnit f key ∷ [] else [])
    unit f key known true is = All-cons Q (FilterUnit f key) [] (h f key known is) (All-nil Q)
    unit f key known false is = All-nil Q

    each_filter : (fs : List ℕ) → All Q (flat_map (λ (f : ℕ). flat_map (filter_unit spec f) keys) fs)
    each_filter [] = All-nil Q
    each_filter (f ∷ fs) = All-append Q _ _ (all_flat P Q (filter_unit spec f) keys (λ key known. unit f key known (is_filtered spec f key) refl) all) (each_filter fs)

-- the viewpoint has an expression for each of them
pub filter_units_expressed : (spec : Specification) (keys : List AnyKey) → All (HasExpression spec) (filter_units spec keys)
unfolding expression_of
filter_units_expressed spec keys = filter_units_all (λ _. ⊤) (HasExpression spec) spec keys (λ f key _ is. expressed f key is) (λ n d _. tt)
  where
    found : (f : ℕ) (key : AnyKey) (filter : Option CheckedFilter) → slice_get spec.1.filters f ≡ filter → is_filtered spec f key ≡ true → IsSome (option_map (λ (it : CheckedFilter). it.hides) filter)
    found f key None none is = absurd (let no : false ≡ true = sym (none_filtered spec f key none) ∙ is in cc)
    found f key (Some it) one is = refl

    expressed : (f : ℕ) (key : AnyKey) → is_filtered spec f key ≡ true → HasExpression spec (FilterUnit f key)
    expressed f key is = found f key (slice_get spec.1.filters f) refl is

-- each of them names paths, where the keys are paths, and edges between paths
pub filter_units_name_paths : (spec : Specification) (keys : List AnyKey) → All IsWritable keys → All NamesPaths (filter_units spec keys)
filter_units_name_paths spec keys paths = filter_units_all IsWritable NamesPaths spec keys (λ f key path _. path) paths
