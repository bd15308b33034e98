-- What is declared does not look at the number that the next object gets.
use Rattle.std.proofs.Common.{◌≡◌, ℕ, zero, suc, List, [], ◌∷◌, ◌++◌, refl, ap, ◌∙◌}
use Rattle.std.specs.List.{flat_map}
use Rattle.std.specs.Option.{option_map_or}
use Rattle.wb_store.specs.Cells.{cell, content, tree_within}
use Rattle.wb_store.specs.Contents.{Contents, with_next}
use Rattle.wb_store.specs.declared.scalars.Cell.{Cell}
use Rattle.wb_store.specs.declared.scalars.Cell.TheVariants.{Kind, Slot, Holder, Tree, Inverse, Extent, Roots}
use Rattle.wb_aql_eval.specs.ReadCells.{Alike}
use Rattle.wb_aql_eval.specs.declared.env.Env.{Env}
use Rattle.wb_diagram.specs.declared.keys.Key.{Key}
use Rattle.wb_diagram.specs.declared.keys.Pair.{Pair}
use Rattle.wb_diagram.specs.declared.units.Unit.{Unit as Place}
use Rattle.wb_spec_check.specs.Checked.{Specification}
use Rattle.wb_spec_check.specs.Units.{Expression, expression_of}
use Rattle.wb_answers.specs.Seen.{Told}
use Rattle.wb_nodes.specs.Nodes.{below, candidates_by, children, children_by, node_units, nodes, scene_of, units_by, units_under}
use Rattle.wb_edges.specs.Edges.{edge_units, edges, edges_at, edges_by, semantic, scene_of as among_nodes, units_at as edge_units_at, units_by as edge_units_by}
use Rattle.wb_refresh.specs.Diagrams.{edges_of, units_of}
use Rattle.wb_refresh.specs.Outcomes.{Gives, ended, nothing, outcome, outcome_by, told}
use Rattle.wb_refresh.specs.Subjects.{Setting, Subject, scene, setting}
use Rattle.wb_declared.specs.Declarations.{DeclaresAlike, renumbered}
use Rattle.wb_declared.proofs.Alike.{alike_parts, units_alike}

-- ---- cells

module _ (next : ℕ) (m : Contents) where
  same_tree : (levels o : ℕ) → tree_within m levels o ≡ tree_within (with_next next m) levels o
  unfolding tree_within
  same_tree zero o = refl
  same_tree (suc n) o = λ i. flat_map (λ (p : ℕ). p ∷ same_tree n p i) (content m o)

  same_cell : (c : Cell) → cell m c ≡ cell (with_next next m) c
  same_cell (Kind o) = refl
  same_cell (Slot o f) = refl
  same_cell (Holder o) = refl
  same_cell (Tree o) = same_tree _ o
  same_cell (Inverse o) = refl
  same_cell (Extent c) = refl
  same_cell Roots = refl

  -- a model is like itself under another number, whatever is read
  pub alike : (cells : List Cell) → Alike m (with_next next m) cells
  alike cells = record { metamodel = refl; same = λ k d within. same_cell _ }

-- ---- outcomes

-- models that are alike in what is read give the same
abbrev pub Decides : Gives → Type 0
Decides gives = (e : Expression) (env : Env) (a b : Contents) → Alike a b (gives e env a).reads → gives e env b ≡ gives e env a

module _ (gives : Gives) (decides : Decides gives) (next : ℕ) (s : Setting) where
  abbrev later : Setting
  later = setting s.spec (with_next next s.model) s.root

  same_outcome : (unit : Place) → outcome gives later unit ≡ outcome gives s unit
  unfolding outcome
  same_outcome unit = λ i. option_map_or (λ (e : Expression). step e i) (expression_of s.spec unit) nothing
    where
      step : (e : Expression) → outcome_by gives later unit e ≡ outcome_by gives s unit e
      step e = ap ended (decides e _ s.model (with_next next s.model) (alike next s.model _))

  same_outcomes : outcome gives later ≡ outcome gives s
  same_outcomes = λ i unit. same_outcome unit i

  same_told : told gives later ≡ told gives s
  same_told = λ i unit. (same_outcome unit i).answer

-- ---- elements and edges, whatever is told

module _ (spec : Specification) (m : Contents) (next : ℕ) (shown : List Key) (told : Told) where
  same_below : (levels : ℕ) (path : List Pair) → below levels (scene_of spec (with_next next m) shown) told path ≡ below levels (scene_of spec m shown) told path
  unfolding below children children_by candidates_by
  same_below zero path = refl
  same_below (suc n) path = λ i. flat_map (λ (key : Key). key ∷ same_below n key.pairs i) (children (scene_of spec m shown) told path)

  same_nodes : nodes (scene_of spec (with_next next m) shown) told ≡ nodes (scene_of spec m shown) told
  unfolding nodes
  same_nodes = same_below 32 []

  same_node_units : node_units (scene_of spec (with_next next m) shown) told ≡ node_units (scene_of spec m shown) told
  unfolding node_units units_under units_by candidates_by
  same_node_units = ap (λ (keys : List Key). units_under (scene_of spec m shown) told [] ++ flat_map (λ (key : Key). units_under (scene_of spec m shown) told key.pairs) keys) same_nodes

  same_edges_among : (keys : List Key) → edges (among_nodes spec (with_next next m) keys) told ≡ edges (among_nodes spec m keys) told
  unfolding edges edges_by semantic edges_at
  same_edges_among keys = refl

  same_edges : edges_of (scene_of spec (with_next next m) shown) told ≡ edges_of (scene_of spec m shown) told
  same_edges = same_edges_among _ ∙ ap (λ (keys : List Key). edges (among_nodes spec m keys) told) same_nodes

  same_edge_units : (keys : List Key) → edge_units (among_nodes spec (with_next next m) keys) told ≡ edge_units (among_nodes spec m keys) told
  unfolding edge_units edge_units_by semantic edge_units_at
  same_edge_units keys = refl

  same_units : units_of (scene_of spec (with_next next m) shown) told ≡ units_of (scene_of spec m shown) told
  unfolding units_of
  same_units = units_alike (scene_of spec (with_next next m) shown) (scene_of spec m shown) told refl same_node_units (same_edge_units _ ∙ ap (λ (keys : List Key). edge_units (among_nodes spec m keys) told) same_nodes) same_nodes same_edges

-- ---- the law

pub next_is_not_seen : (gives : Gives) → Decides gives → (s : Subject) (next : ℕ) → DeclaresAlike gives s (renumbered next s)
next_is_not_seen gives decides s next =
    let spec = s.setting.spec in
    let m = s.setting.model in
    let later = scene (renumbered next s) in
    let answers = same_told gives decides next s.setting in
    let all_told = told gives s.setting in
    alike_parts gives s (renumbered next s)
    (ap (nodes later) answers ∙ same_nodes spec m next s.shown all_told)
    (ap (edges_of later) answers ∙ same_edges spec m next s.shown all_told)
    (ap (units_of later) answers ∙ same_units spec m next s.shown all_told)
    (same_outcomes gives decides next s.setting)
