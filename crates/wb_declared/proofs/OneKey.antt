-- What one key shows: whether it would be declared, and by whose mark it is.
use Rattle.std.proofs.Common.{◌≡◌, Bool, true, false, ◌&&◌, ◌||◌, nat_eq, List, [], ◌∷◌, ◌++◌, length, Option, Some, sym, ap, subst, ◌∙◌, arith}
use Rattle.std.specs.List.{list_any}
use Rattle.std.specs.Option.{option_map_or}
use Rattle.std.proofs.lemmas.Bool.{and_parts, false_from_ne_true}
use Rattle.std.proofs.lemmas.List.Elements.{All-weaker}
use Rattle.std.proofs.lemmas.List.Folds.{list_any_none}
use Rattle.wb_diagram.specs.Keys.{IsPath}
use Rattle.wb_diagram.specs.contracts.keys.KeyPartialEq.TheImpl.{eq-value}
use Rattle.wb_diagram.specs.declared.keys.Key.{Key}
use Rattle.wb_diagram.specs.declared.keys.Pair.{Pair}
use Rattle.wb_spec_check.specs.declared.checked_mappings.CheckedNode.{CheckedNode}
use Rattle.wb_answers.specs.Meanings.{objects_of}
use Rattle.wb_answers.specs.SameKeys.{among, same_key}
use Rattle.wb_answers.proofs.SameKeyLaws.{key_is, key_symm, same_keys}
use Rattle.wb_nodes.specs.Nodes.{candidates_at, children, fits, is_declared, is_shown, node_mapping, passes}
use Rattle.wb_nodes.proofs.NodeLaws.{nodes_are_paths}
use Rattle.wb_refresh.specs.Openings.{IsOpened, Kept}
use Rattle.wb_refresh.specs.Outcomes.{Gives, told}
use Rattle.wb_refresh.specs.Subjects.{Setting, Subject, scene, subject_in}
use Rattle.wb_declared.specs.Declarations.{declared_nodes}
use Rattle.wb_declared.specs.Standing.{key_under, leads_to, may_stand, would_stand}
use Rattle.wb_declared.proofs.Children.{among_children, declares}
use Rattle.wb_declared.proofs.Marking.{marks_one_more}
use Rattle.wb_declared.proofs.Paths.{among_key}
use Rattle.wb_declared.proofs.Recorded.{would_stand_is}

-- as the code looks for a key
pub found_among : (keys : List Key) (key : Key) → list_any (λ (k : Key). eq-value.it k key) keys ≡ among keys key
found_among keys key = ap (λ (p : Key → Bool). list_any p keys) (λ i k. (same_keys k key ∙ key_symm k key) i)

-- a key of no pairs is none of an element
pub none_without_pairs : (gives : Gives) (s : Subject) (key : Key) → length key.pairs ≡ 0 → false ≡ among (declared_nodes gives s) key
none_without_pairs gives s key none =
    sym (list_any_none (same_key key) (declared_nodes gives s) (All-weaker IsPath (λ (k : Key). same_key key k ≡ false) differ (declared_nodes gives s) (nodes_are_paths (scene s) (told gives s.setting))))
  where
    differ : (k : Key) → IsPath k → same_key key k ≡ false
    differ k path = false_from_ne_true (same_key key k) (λ same. let is = ap (λ (q : Key). length q.pairs) (key_is key k same) in let some = path.not_empty in absurd (omega (arith, is, some, none)))

-- a key that ends in a pair would be declared where that is declared under one mark more
pub one_mark_more : (gives : Gives) (s : Setting) (shown : List Key) (kept : Kept) → IsOpened gives (subject_in s shown) kept → (key : Key) (path : List Pair) (own : Pair) → key.pairs ≡ path ++ own ∷ []
    → would_stand s.spec s.model kept path own ≡ among (declared_nodes gives (subject_in s (shown ++ key ∷ []))) key
one_mark_more gives s shown kept opened key path own is =
    let same : key_under path own ≡ key = λ i. record { pairs = sym is i } in
    would_stand_is gives s shown (shown ++ key_under path own ∷ []) kept opened path own (marks_one_more (key_under path own) shown)
    ∙ ap (λ (k : Key). among (declared_nodes gives (subject_in s (shown ++ k ∷ []))) k) same

-- an element of an unsynchronised mapping is marked
pub marked_itself : (gives : Gives) (s : Subject) (path : List Pair) (own : Pair) (node : CheckedNode) → node_mapping s.setting.spec own.mapping ≡ Some node → node.synchronised ≡ false → among (declared_nodes gives s) (key_under path own) ≡ true → among s.shown (key_under path own) ≡ true
marked_itself gives s path own node known unsynchronised is =
    let answers = told gives s.setting in
    let key = key_under path own in
    let there = and_parts (leads_to (declared_nodes gives s) path) (among (children (scene s) answers path) key) (sym (among_key (scene s) answers path own) ∙ is) in
    let here = and_parts (may_stand s.setting.spec path own.mapping) (option_map_or (declares (scene s) answers path own) (node_mapping s.setting.spec own.mapping) false) (sym (among_children (scene s) answers path own) ∙ there.1) in
    let declared = subst (λ (found : Option CheckedNode). option_map_or (declares (scene s) answers path own) found false ≡ true) known here.1 in
    let candidate = and_parts (fits (scene s) path own.mapping node own.object) (list_any (nat_eq own.object) (objects_of (answers (candidates_at path own.mapping))) && is_declared (scene s) answers own.mapping node key) declared in
    let let_in = and_parts (list_any (nat_eq own.object) (objects_of (answers (candidates_at path own.mapping)))) (is_declared (scene s) answers own.mapping node key) candidate.1 in
    let shown = and_parts (passes (scene s) answers own.mapping key) (is_shown (scene s) node key) let_in.1 in
    subst (λ (b : Bool). (b || among s.shown key) ≡ true) unsynchronised shown.1
