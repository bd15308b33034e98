-- What is recorded of an opened diagram tells whether a key would be declared.
use Rattle.std.proofs.Common.{◌≡◌, ℕ, Bool, true, false, ◌&&◌, ◌||◌, nat_eq, List, [], ◌∷◌, Option, Some, None, refl, sym, ap, subst, ◌∙◌, if◌then◌else◌}
use Rattle.std.specs.Prelude.{option_map}
use Rattle.std.specs.List.{flat_map, list_any}
use Rattle.std.specs.Option.{option_map_or}
use Rattle.std.specs.Cmp.{nat_eq_equiv}
use Rattle.std.proofs.lemmas.Bool.{and_from, eqb-true, or_left, or_right}
use Rattle.std.proofs.lemmas.List.Folds.{list_any-append}
use Rattle.wb_diagram.specs.declared.keys.Key.{Key}
use Rattle.wb_diagram.specs.declared.keys.Pair.{Pair}
use Rattle.wb_diagram.specs.declared.units.Unit.{Unit as Place}
use Rattle.wb_diagram.specs.declared.units.Unit.TheVariants.{Precondition}
use Rattle.wb_aql_values.specs.declared.values.Answer.{Answer}
use Rattle.wb_aql_eval.specs.declared.env.Outcome.{Outcome}
use Rattle.wb_spec_check.specs.declared.checked_mappings.CheckedNode.{CheckedNode}
use Rattle.wb_answers.specs.Meanings.{is_true, objects_of}
use Rattle.wb_answers.specs.SameKeys.{among, same_key}
use Rattle.wb_answers.specs.Seen.{Told}
use Rattle.wb_answers.proofs.SameKeyLaws.{key_equiv, key_is}
use Rattle.wb_nodes.specs.Nodes.{Scene, candidates_at, candidates_by, child_mappings, is_conditional, node_mapping, node_units, nodes, passes, precondition_at, units_by, units_under, units_with}
use Rattle.wb_refresh.specs.Diagrams.{units_of}
use Rattle.wb_refresh.specs.Openings.{IsOpened, Kept, all_units, answer_in, is_among}
use Rattle.wb_refresh.specs.Outcomes.{Gives, outcome, told}
use Rattle.wb_refresh.specs.SameUnits.{same_unit}
use Rattle.wb_refresh.specs.Subjects.{Setting, Subject, scene, subject_in}
use Rattle.wb_declared.specs.Declarations.{declared_nodes}
use Rattle.wb_declared.specs.Standing.{fits_under, gives_true, is_admitted, key_under, leads_to, may_stand, meets, would_stand}
use Rattle.wb_declared.proofs.Children.{among_candidates}
use Rattle.wb_declared.proofs.Lists.{any_flat, any_implied}
use Rattle.wb_declared.proofs.Marking.{AlsoMarks, admits, among_marked, may_be}
use Rattle.wb_declared.proofs.Tests.{and_same, if_same, some_same}

-- ---- units that are asked

candidates_self : (path : List Pair) (n : ℕ) → same_unit (candidates_at path n) (candidates_at path n) ≡ true
candidates_self [] n = and_from (nat_eq n n) true (nat_eq_equiv.refl n) refl
candidates_self (own ∷ path) n = and_from (nat_eq n n) (same_key (record { pairs = own ∷ path }) (record { pairs = own ∷ path })) (nat_eq_equiv.refl n) (key_equiv.refl (record { pairs = own ∷ path }))

module _ (s : Scene) (told : Told) (path : List Pair) (unit : Place) where
  of_elements : leads_to (nodes s told) path ≡ true → is_among (units_under s told path) unit ≡ true → is_among (node_units s told) unit ≡ true
  unfolding node_units
  of_elements stands within =
      list_any-append (same_unit unit) (units_under s told []) (flat_map (λ (key : Key). units_under s told key.pairs) (nodes s told)) ∙ by path stands within
    where
      by : (path : List Pair) → leads_to (nodes s told) path ≡ true → is_among (units_under s told path) unit ≡ true → (is_among (units_under s told []) unit || is_among (flat_map (λ (key : Key). units_under s told key.pairs) (nodes s told)) unit) ≡ true
      by [] stands within = or_left (is_among (units_under s told []) unit) (is_among (flat_map (λ (key : Key). units_under s told key.pairs) (nodes s told)) unit) within
      by (own ∷ rest) stands within =
          let top : Key = record { pairs = own ∷ rest } in
          or_right (is_among (units_under s told []) unit) (is_among (flat_map (λ (key : Key). units_under s told key.pairs) (nodes s told)) unit)
          (any_flat (same_unit unit) (λ (key : Key). units_under s told key.pairs) (nodes s told)
          ∙ any_implied (same_key top) (λ (key : Key). is_among (units_under s told key.pairs) unit) (λ key is. subst (λ (k : Key). is_among (units_under s told k.pairs) unit ≡ true) (key_is top key is) within) (nodes s told) stands)

  of_all : is_among (node_units s told) unit ≡ true → is_among (units_of s told) unit ≡ true
  unfolding units_of
  of_all within = list_any-append (same_unit unit) (node_units s told) _ ∙ or_left (is_among (node_units s told) unit) _ within

  of_mapping : (n : ℕ) → may_stand s.spec path n ≡ true → is_among (units_by s told path n) unit ≡ true → is_among (units_under s told path) unit ≡ true
  unfolding units_under
  of_mapping n stands within =
      any_flat (same_unit unit) (units_by s told path) (child_mappings s.spec path)
      ∙ any_implied (nat_eq n) (λ (k : ℕ). is_among (units_by s told path k) unit) (λ k is. subst (λ (j : ℕ). is_among (units_by s told path j) unit ≡ true) (eqb-true n k is) within) (child_mappings s.spec path) stands

  of_node : (n : ℕ) (node : CheckedNode) → node_mapping s.spec n ≡ Some node → is_among (units_with s told path n node) unit ≡ true → is_among (units_by s told path n) unit ≡ true
  unfolding units_by
  of_node n node known within = subst (λ (found : Option CheckedNode). is_among (option_map_or (units_with s told path n) found []) unit ≡ true) (sym known) within

  -- a unit of a mapping that may stand under a declared element or the diagram
  asked : (n : ℕ) (node : CheckedNode) → leads_to (nodes s told) path ≡ true → may_stand s.spec path n ≡ true → node_mapping s.spec n ≡ Some node → is_among (units_with s told path n node) unit ≡ true → is_among (units_of s told) unit ≡ true
  asked n node stands child known within = of_all (of_elements stands (of_mapping n child (of_node n node known within)))

module _ (s : Scene) (told : Told) (path : List Pair) (own : Pair) (node : CheckedNode) where
  candidates_asked : is_among (units_with s told path own.mapping node) (candidates_at path own.mapping) ≡ true
  candidates_asked = or_left (same_unit (candidates_at path own.mapping) (candidates_at path own.mapping)) (is_among (flat_map (precondition_at s own.mapping) (candidates_by s told path own.mapping node)) (candidates_at path own.mapping)) (candidates_self path own.mapping)

  abbrev unit : Place
  unit = Precondition (key_under path own)

  precondition_asked : is_conditional s.spec own.mapping ≡ true → among (candidates_by s told path own.mapping node) (key_under path own) ≡ true → is_among (units_with s told path own.mapping node) unit ≡ true
  precondition_asked conditional candidate =
      any_flat (same_unit unit) (precondition_at s own.mapping) (candidates_by s told path own.mapping node)
      ∙ any_implied (same_key (key_under path own)) (λ (key : Key). is_among (precondition_at s own.mapping key) unit) at (candidates_by s told path own.mapping node) candidate
    where
      at : (key : Key) → same_key (key_under path own) key ≡ true → is_among (precondition_at s own.mapping key) unit ≡ true
      at key is =
          subst (λ (b : Bool). is_among (if b then Precondition key ∷ [] else []) unit ≡ true) (sym conditional)
          (or_left (same_key (key_under path own) key) false is)

-- ---- recorded answers

module _ (gives : Gives) (s : Subject) (kept : Kept) (opened : IsOpened gives s kept) where
  abbrev answers : Told
  answers = told gives s.setting

  recorded : (unit : Place) → is_among (all_units gives s) unit ≡ true → answer_in kept unit ≡ Some (answers unit)
  recorded unit is = ap (option_map (λ (it : Outcome). it.answer)) (opened.outcomes unit ∙ ap (λ (b : Bool). if b then Some (outcome gives s.setting unit) else None) is)

  module _ (path : List Pair) (own : Pair) where
    abbrev candidates : Place
    candidates = candidates_at path own.mapping

    abbrev precondition : Place
    precondition = Precondition (key_under path own)

    same_meets : (node : CheckedNode) → leads_to (declared_nodes gives s) path ≡ true → may_stand s.setting.spec path own.mapping ≡ true → node_mapping s.setting.spec own.mapping ≡ Some node → fits_under s.setting.model path node own ≡ true → list_any (nat_eq own.object) (objects_of (answers candidates)) ≡ true
        → meets s.setting.spec kept own.mapping (key_under path own) ≡ passes (scene s) answers own.mapping (key_under path own)
    same_meets node stands child known fit object =
        if_same (is_conditional s.setting.spec own.mapping) (gives_true kept precondition) (is_true (answers precondition))
        (λ conditional. ap (λ (found : Option Answer). option_map_or is_true found false)
        (recorded precondition (asked (scene s) answers path precondition own.mapping node stands child known
        (precondition_asked (scene s) answers path own node conditional (among_candidates (scene s) answers path own node fit object)))))

    same_admitted : (node : CheckedNode) → leads_to (declared_nodes gives s) path ≡ true → may_stand s.setting.spec path own.mapping ≡ true → node_mapping s.setting.spec own.mapping ≡ Some node
        → is_admitted s.setting.spec s.setting.model kept path own node ≡ admits s.setting.spec s.setting.model answers path own node
    same_admitted node stands child known =
        let told_there = recorded candidates (asked (scene s) answers path candidates own.mapping node stands child known (candidates_asked (scene s) answers path own node)) in
        let object_there = ap (λ (found : Option Answer). option_map_or (λ (it : Answer). list_any (nat_eq own.object) (objects_of it)) found false) told_there in
        and_same (fits_under s.setting.model path node own) _ _
        (λ fit. ap (λ b. b && meets s.setting.spec kept own.mapping (key_under path own)) object_there
        ∙ and_same (list_any (nat_eq own.object) (objects_of (answers candidates))) _ _ (λ object. same_meets node stands child known fit object))

    -- the recorded answers tell what those of the evaluator do
    same_standing : would_stand s.setting.spec s.setting.model kept path own ≡ (leads_to (declared_nodes gives s) path && may_be s.setting.spec s.setting.model answers path own)
    same_standing =
        ap (λ (keys : List Key). leads_to keys path && (may_stand s.setting.spec path own.mapping && option_map_or (is_admitted s.setting.spec s.setting.model kept path own) (node_mapping s.setting.spec own.mapping) false)) opened.nodes
        ∙ and_same (leads_to (declared_nodes gives s) path) _ _
        (λ stands. and_same (may_stand s.setting.spec path own.mapping) _ _
        (λ child. some_same (node_mapping s.setting.spec own.mapping) _ _ (λ node known. same_admitted node stands child known)))

-- the key would be declared exactly where it is declared under any marks that also mark it
pub would_stand_is : (gives : Gives) (s : Setting) (a b : List Key) (kept : Kept) → IsOpened gives (subject_in s a) kept → (path : List Pair) (own : Pair) → AlsoMarks (key_under path own) a b → would_stand s.spec s.model kept path own ≡ among (declared_nodes gives (subject_in s b)) (key_under path own)
would_stand_is gives s a b kept opened path own marks =
    same_standing gives (subject_in s a) kept opened path own ∙ sym (among_marked s.spec s.model (told gives s) a b path own marks)
