-- A diagram that was opened is that of the settled marks too.
use Rattle.std.proofs.Common.{◌≡◌, ◌∙◌, List, length, map, Some, None, if◌then◌else◌, sym, ap}
use Rattle.wb_diagram.specs.declared.keys.Key.{Key}
use Rattle.wb_diagram.specs.declared.units.Unit.{Unit as Place}
use Rattle.wb_looks.specs.Filters.{filtered}
use Rattle.wb_refresh.specs.Diagrams.{all_keys, looks_at}
use Rattle.wb_refresh.specs.Faults.{problems_of}
use Rattle.wb_refresh.specs.Openings.{IsOpened, Kept, all_units, is_among}
use Rattle.wb_refresh.specs.Outcomes.{Gives, outcome, row, told}
use Rattle.wb_refresh.specs.Subjects.{Setting, subject_in}
use Rattle.wb_declared.specs.Declarations.{declared_edges, declared_nodes}
use Rattle.wb_declared.specs.Marks.{settled}
use Rattle.wb_declared.proofs.MarkLaws.{same_units, settled_drops, settled_is_alike}

module _ (gives : Gives) (st : Setting) (shown : List Key) (kept : Kept) (h : IsOpened gives (subject_in st shown) kept) where
  abbrev left : List Key
  left = settled gives st shown

  nodes : declared_nodes gives (subject_in st left) ≡ declared_nodes gives (subject_in st shown)
  nodes = (settled_is_alike gives st shown).nodes

  edges : declared_edges gives (subject_in st left) ≡ declared_edges gives (subject_in st shown)
  edges = (settled_is_alike gives st shown).edges

  keys : all_keys (declared_nodes gives (subject_in st left)) (declared_edges gives (subject_in st left)) ≡ all_keys (declared_nodes gives (subject_in st shown)) (declared_edges gives (subject_in st shown))
  keys = ap (λ (ns : List Key). all_keys ns (declared_edges gives (subject_in st left))) nodes ∙ ap (all_keys (declared_nodes gives (subject_in st shown))) edges

  units : all_units gives (subject_in st left) ≡ all_units gives (subject_in st shown)
  units = same_units st.spec st.model (told gives st) shown left (settled_drops (declared_nodes gives (subject_in st shown)) shown).fewer nodes

  pub opened_stays : IsOpened gives (subject_in st left) kept
  opened_stays = record {
    nodes = h.nodes ∙ sym nodes;
    edges = h.edges ∙ sym edges;
    looks = h.looks ∙ sym (ap (looks_at st.spec st.model.metamodel (told gives st)) keys);
    filtered = h.filtered ∙ sym (ap (filtered st.spec (told gives st)) keys);
    problems = h.problems ∙ sym (ap (λ (us : List Place). problems_of st.model.metamodel (map (row gives st) us)) units);
    units = h.units ∙ sym (ap (λ (us : List Place). length us) units);
    outcomes = λ unit. h.outcomes unit ∙ sym (ap (λ (us : List Place). if is_among us unit then Some (outcome gives st unit) else None) units);
  }
