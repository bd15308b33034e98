-- Edges that are put one after the other, with room for so many.
use Rattle.std.specs.Prelude.{◌≡◌, ◌≤◌, ◌<◌, ℕ, List, [], ◌∷◌, ◌++◌, length, fold, Result, Ok, Err, if◌then◌else◌}
use Rattle.std.specs.List.{flat_map, list_any}
use Rattle.indexmap.specs.IndexMap.{IndexMap}
use Rattle.wb_diagram.specs.declared.keys.EdgeKey.{EdgeKey}
use Rattle.wb_diagram.specs.declared.keys.Key.{Key}
use Rattle.wb_diagram.specs.declared.keys.Pair.{Pair}
use Rattle.wb_answers.specs.declared.answers.Stop.{Stop}
use Rattle.wb_answers.specs.declared.answers.Stop.TheVariants.{TooLarge}
use Rattle.wb_edges.specs.Edges.{edge_between}
use Rattle.wb_answers.specs.SameKeys.{same_edge}
use Rattle.wb_edges.specs.Grounds.{elements_in}
use Rattle.wb_edges.specs.declared.ends.Ends.{Ends}

-- an edge goes last, unless it is there
abbrev pub put : List EdgeKey → EdgeKey → List EdgeKey
put edges e = if list_any (same_edge e) edges then edges else edges ++ e ∷ []

unfoldable pub put_all : List EdgeKey → List EdgeKey → List EdgeKey
put_all edges more = fold put edges more

-- the edges were put; `TooLarge` comes only where there are then more than there is room for
abbrev pub Puts : {A : Type 0} → (before more : List EdgeKey) → (room : ℕ) → Result A Stop → (now : List EdgeKey) → Type 0
Puts before more room (Ok _) now = (now ≡ put_all before more) × (length now ≤ room)
Puts before more room (Err stop) now = stop ≡ TooLarge → room < length (put_all before more)

-- ---- which edges are put

-- from an element to each of the targets
abbrev pub edges_from : Pair → (targets : List Key) → Key → List EdgeKey
edges_from pair targets source = flat_map (λ (target : Key). edge_between pair source target ∷ []) targets

-- from what a table has for an object to each of the targets
abbrev pub edges_from_object : {S : Type 0} → Pair → (targets : List Key) → IndexMap ℕ (List Key) S → ℕ → List EdgeKey
edges_from_object pair targets table o = flat_map (edges_from pair targets) (elements_in table o)

-- from what there is for the source objects to what there is for the target objects
abbrev pub edges_by_ends : Ends → Pair → (sources targets : List ℕ) → List EdgeKey
edges_by_ends ends pair sources targets = flat_map (edges_from_object pair (flat_map (elements_in ends.targets) targets) ends.sources) sources
