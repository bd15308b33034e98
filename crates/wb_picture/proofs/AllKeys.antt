-- What is true of the keys of elements and of edges is true of all keys.
use Rattle.std.proofs.Common.{◌≤◌, List, length, map, ap, arith, ◌∙◌}
use Rattle.std.specs.Prelude.{All, Contains}
use Rattle.std.proofs.lemmas.List.{get_or-map, length-map}
use Rattle.std.proofs.lemmas.List.Elements.{All-append, All-map, All-weaker, Contains-append_left}
use Rattle.wb_diagram.specs.declared.keys.AnyKey.{AnyKey}
use Rattle.wb_diagram.specs.declared.keys.AnyKey.TheVariants.{Node as NodeKey, Edge as EdgeKeyOf}
use Rattle.wb_diagram.specs.declared.keys.EdgeKey.{EdgeKey}
use Rattle.wb_diagram.specs.declared.keys.Key.{Key}
use Rattle.wb_answers.specs.Environments.{front}
use Rattle.wb_looks.specs.Visible.{HasGround}
use Rattle.wb_picture.specs.Picture.{all_keys}

pub of_all_keys : (P : AnyKey → Type 0) (nodes : List Key) (edges : List EdgeKey) → All (λ (key : Key). P (NodeKey key)) nodes → All (λ (key : EdgeKey). P (EdgeKeyOf key)) edges → All P (all_keys nodes edges)
of_all_keys P nodes edges of_nodes of_edges = All-append P (map NodeKey nodes) (map EdgeKeyOf edges) (All-map P NodeKey nodes of_nodes) (All-map P EdgeKeyOf edges of_edges)

contains_mapped : (nodes : List Key) (edges : List EdgeKey) (key : Key) → Contains nodes key → Contains (all_keys nodes edges) (NodeKey key)
contains_mapped nodes edges key within =
    Contains-append_left (map NodeKey nodes) (map EdgeKeyOf edges) (NodeKey key)
    (within.0, (let long = length-map nodes NodeKey in let inside = within.1 in omega (arith, long, inside)), get_or-map NodeKey nodes within.0 key (NodeKey key) within.1 ∙ ap NodeKey within.2)

-- where the parents of elements and the ends of edges are declared, what each key stands on is
pub are_grounded : (nodes : List Key) (edges : List EdgeKey) → All (λ (key : Key). 2 ≤ length key.pairs → Contains nodes (record { pairs = front key.pairs })) nodes → All (λ (key : EdgeKey). Contains nodes key.source × Contains nodes key.target) edges
    → All (HasGround (all_keys nodes edges)) (all_keys nodes edges)
are_grounded nodes edges parents ends =
    of_all_keys (HasGround (all_keys nodes edges)) nodes edges
    (All-weaker (λ (key : Key). 2 ≤ length key.pairs → Contains nodes (record { pairs = front key.pairs })) (λ (key : Key). HasGround (all_keys nodes edges) (NodeKey key))
    (λ key parent long. contains_mapped nodes edges (record { pairs = front key.pairs }) (parent long)) nodes parents)
    (All-weaker (λ (key : EdgeKey). Contains nodes key.source × Contains nodes key.target) (λ (key : EdgeKey). HasGround (all_keys nodes edges) (EdgeKeyOf key))
    (λ key both. (contains_mapped nodes edges key.source both.0, contains_mapped nodes edges key.target both.1)) edges ends)
