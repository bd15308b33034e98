-- What comes of the edges of all mappings, within the limit.
use Rattle.std.proofs.Common.{◌≡◌, ◌+◌, ◌-◌, ◌<◌, ◌≤◌, ◌⊎◌, ℕ, true, List, [], length, sym, ap, ◌∙◌, arith, append-nil, inl, inr, ⊎_elim}
use Rattle.std.specs.List.{flat_map}
use Rattle.std.specs.Prelude.{Result, Ok, Err, IsErr, IsErrAnd}
use Rattle.wb_base.specs.Lists.{numbers}
use Rattle.wb_diagram.specs.declared.units.Unit.{Unit as Place}
use Rattle.wb_diagram.specs.declared.keys.EdgeKey.{EdgeKey}
use Rattle.wb_answers.specs.Limits.{AsksUpTo, WithinLimit}
use Rattle.wb_answers.specs.Seen.{Seen}
use Rattle.wb_answers.specs.declared.answers.Stop.{Stop}
use Rattle.wb_answers.specs.declared.answers.Stop.TheVariants.{NoMemory}
use Rattle.wb_answers.proofs.LimitLaws.{up_to}
use Rattle.wb_answers.proofs.SeenLaws.{short}
use Rattle.wb_edges.specs.Draws.{Drawn, Undrawn}
use Rattle.wb_edges.specs.Edges.{Scene, edge_units, edges, edges_by, units_by}
use Rattle.wb_edges.specs.Puts.{put_all}
use Rattle.wb_edges.proofs.Once.{once}

module _ (here : Scene) (s now : Seen) (old : List EdgeKey) (none : old ≡ []) (few : length here.nodes ≤ 100000) where
  abbrev units : List Place
  units = flat_map (units_by here s.told) (numbers (length here.spec.1.mappings))

  abbrev more : List EdgeKey
  more = flat_map (edges_by here s.told) (numbers (length here.spec.1.mappings))

  abbrev room : ℕ
  room = 100000 - length here.nodes

  all_edges : put_all old more ≡ edges here s.told
  unfolding edges
  all_edges = ap (λ es. put_all es more) none ∙ once more

  pub ended_edges : (new : List EdgeKey) → Drawn s units old more room now new → new ≡ edges here s.told
  ended_edges new drawn = drawn.put ∙ all_edges

  pub ended : (new : List EdgeKey) → Drawn s units old more room now new → WithinLimit s (edge_units here s.told) (length here.nodes + length (edges here s.told)) now
  unfolding edge_units
  ended new drawn = record {
    asked = drawn.asked;
    few = let same = ap length (ended_edges new drawn) in let most = drawn.few in omega (arith, same, most, few);
  }

  pub ended_short : {A : Type 0} (new : List EdgeKey) (r : Result A Stop) → IsErr r × IsErrAnd r (λ e. e ≡ NoMemory) → Drawn s units old more room now new → AsksUpTo s (edge_units here s.told) (length here.nodes + length (edges here s.told)) r now
  unfolding edge_units
  ended_short new r err drawn = up_to s now units (length here.nodes + length (edges here s.told)) r (λ e. e ≡ NoMemory) err (short s now units [] units r err drawn.asked (append-nil units))

  pub ended_refused : {A : Type 0} (r : Result A Stop) (e : Stop) → IsErr r × IsErrAnd r (λ f. f ≡ e) → Undrawn s units old more room e now → AsksUpTo s (edge_units here s.told) (length here.nodes + length (edges here s.told)) r now
  unfolding edge_units
  ended_refused (Ok x) e err un = absurd err.1
  ended_refused (Err f) e err un = record {
    stopped = un.stopped;
    large = λ same. ⊎_elim {C = (now.over ≡ true) ⊎ (100000 < length here.nodes + length (edges here s.told))} (λ over. inl over)
        (λ many. inr (let all = ap length all_edges in omega (arith, many, all))) (un.large (sym err.1 ∙ same));
  }
