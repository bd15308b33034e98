-- What is declared part by part is declared as a whole.
use Rattle.std.proofs.Common.{◌≡◌, ◌+◌, ◌≤◌, ℕ, List, [], ◌∷◌, ◌++◌, length, refl, sym, ap, subst, ◌∙◌, arith, append-nil, append_assoc, inl, inr, ⊎_elim}
use Rattle.std.specs.Prelude.{Result, Ok, Err, IsErr, IsErrAnd}
use Rattle.wb_metamodel.specs.Metamodel.{Metamodel}
use Rattle.wb_diagram.specs.declared.keys.AnyKey.{AnyKey}
use Rattle.wb_diagram.specs.declared.keys.EdgeKey.{EdgeKey}
use Rattle.wb_diagram.specs.declared.keys.Key.{Key}
use Rattle.wb_diagram.specs.declared.units.Unit.{Unit as Place}
use Rattle.wb_answers.specs.Limits.{AsksUpTo, Limited, WithinLimit, limit}
use Rattle.wb_answers.specs.Seen.{Told, Seen, after, Refused}
use Rattle.wb_answers.specs.declared.answers.Stop.{Stop}
use Rattle.wb_answers.specs.declared.answers.Stop.TheVariants.{TooLarge}
use Rattle.wb_answers.proofs.SeenLaws.{after_none, later}
use Rattle.wb_answers.proofs.SeenLoops.{asked_both, told_of}
use Rattle.wb_nodes.specs.Nodes.{Scene, nodes, node_units}
use Rattle.wb_edges.specs.Edges.{edges, edge_units, scene_of as among}
use Rattle.wb_refresh.specs.Declarations.{AreShown}
use Rattle.wb_refresh.specs.Diagrams.{all_keys, edge_units_of, edges_of, keys_of, size_of, units_at, units_of}
use Rattle.wb_refresh.specs.declared.declared.Shown.{Shown}

-- a refusal comes after others were asked
pub limited_on : {A : Type 0} (s mid now : Seen) (us vs rest all : List Place) (m n : ℕ) (r : Result A Stop) (e : Stop) → IsErr r × IsErrAnd r (λ f. f ≡ e) → mid ≡ after s us → us ++ (vs ++ rest) ≡ all → m ≤ n → Limited mid vs m e now → AsksUpTo s all n r now
limited_on s mid now us vs rest all m n (Ok x) e h is split less limited = absurd h.1
limited_on s mid now us vs rest all m n (Err f) e h is split less limited = record {
  stopped = later s mid now us vs rest all is split limited.stopped;
  large = λ same. ⊎_elim (λ over. inl over) (λ many. inr (omega (arith, many, less))) (limited.large (sym h.1 ∙ same));
}

-- the same where nothing was asked before
pub limited_first : {A : Type 0} (s now : Seen) (vs rest all : List Place) (m n : ℕ) (r : Result A Stop) (e : Stop) → IsErr r × IsErrAnd r (λ f. f ≡ e) → vs ++ rest ≡ all → m ≤ n → Limited s vs m e now → AsksUpTo s all n r now
limited_first s now vs rest all m n r e h split less limited = limited_on s s now [] vs rest all m n r e h (sym (after_none s)) split less limited

-- ---- the parts of a diagram

-- units by these elements and edges, and how many these are
abbrev edges_by : Scene → List Key → Told → List EdgeKey
edges_by sc ns told = edges (among sc.spec sc.model ns) told

abbrev units_by : Scene → List Key → Told → List Place
units_by sc ns told = edge_units (among sc.spec sc.model ns) told

pub keys_declared : (sc : Scene) (told : Told) (ns : List Key) (es : List EdgeKey) → ns ≡ nodes sc told → es ≡ edges_of sc told → all_keys ns es ≡ keys_of sc told
keys_declared sc told ns es nodes_are edges_are = ap (λ ks. all_keys ks es) nodes_are ∙ ap (all_keys (nodes sc told)) edges_are

pub nodes_split : (sc : Scene) (told : Told) → node_units sc told ++ (edge_units_of sc told ++ units_at sc.spec told (keys_of sc told)) ≡ units_of sc told
unfolding units_of
nodes_split sc told = refl

module _ (sc : Scene) (s : Seen) where
  pub nodes_refused : {A : Type 0} (now : Seen) (r : Result A Stop) (e : Stop) → IsErr r × IsErrAnd r (λ f. f ≡ e) → Limited s (node_units sc s.told) (length (nodes sc s.told)) e now → AsksUpTo s (units_of sc s.told) (size_of sc s.told) r now
  nodes_refused now r e h limited =
      limited_first s now (node_units sc s.told) (edge_units_of sc s.told ++ units_at sc.spec s.told (keys_of sc s.told)) (units_of sc s.told) (length (nodes sc s.told)) (size_of sc s.told) r e h
      (nodes_split sc s.told) (omega arith) limited

  module _ (mid : Seen) (ns : List Key) (nodes_are : ns ≡ nodes sc s.told) (nodes_asked : mid ≡ after s (node_units sc s.told)) where
    told_mid : mid.told ≡ s.told
    told_mid = told_of s mid (node_units sc s.told) nodes_asked

    pub edges_refused : {A : Type 0} (now : Seen) (r : Result A Stop) (e : Stop) → IsErr r × IsErrAnd r (λ f. f ≡ e) → Limited mid (units_by sc ns mid.told) (length ns + length (edges_by sc ns mid.told)) e now → AsksUpTo s (units_of sc s.told) (size_of sc s.told) r now
    edges_refused now r e h limited =
        let P : List Key → Told → Type 0 = λ ks t. Limited mid (units_by sc ks t) (length ks + length (edges_by sc ks t)) e now in
        let own : Limited mid (edge_units_of sc s.told) (size_of sc s.told) e now = subst (λ t. P (nodes sc s.told) t) told_mid (subst (λ ks. P ks mid.told) nodes_are limited) in
        limited_on s mid now (node_units sc s.told) (edge_units_of sc s.told) (units_at sc.spec s.told (keys_of sc s.told)) (units_of sc s.told) (size_of sc s.told) (size_of sc s.told) r e h nodes_asked
        (nodes_split sc s.told) (omega arith) own

    module _ (last : Seen) (es : List EdgeKey) (edges_are : es ≡ edges_by sc ns mid.told) (within : WithinLimit mid (units_by sc ns mid.told) (length ns + length (edges_by sc ns mid.told)) last) where
      pub edges_declared : es ≡ edges_of sc s.told
      edges_declared =
          edges_are ∙ (ap (λ ks. edges_by sc ks mid.told) nodes_are ∙ ap (edges_by sc (nodes sc s.told)) told_mid)

      own_within : WithinLimit mid (edge_units_of sc s.told) (size_of sc s.told) last
      own_within =
          let P : List Key → Told → Type 0 = λ ks t. WithinLimit mid (units_by sc ks t) (length ks + length (edges_by sc ks t)) last in
          subst (λ t. P (nodes sc s.told) t) told_mid (subst (λ ks. P ks mid.told) nodes_are within)

      both_asked : last ≡ after s (node_units sc s.told ++ edge_units_of sc s.told)
      both_asked = asked_both s mid last (node_units sc s.told) (edge_units_of sc s.told) nodes_asked own_within.asked

      pub told_last : last.told ≡ s.told
      told_last = told_of s last (node_units sc s.told ++ edge_units_of sc s.told) both_asked

      pub shown_refused : {A : Type 0} (now : Seen) (keys : List AnyKey) (r : Result A Stop) (e : Stop) → keys ≡ keys_of sc s.told → IsErr r × IsErrAnd r (λ f. f ≡ e) → Refused last (units_at sc.spec last.told keys) e now → AsksUpTo s (units_of sc s.told) (size_of sc s.told) r now
      shown_refused now keys r e declared h refused =
          let P : List AnyKey → Told → Type 0 = λ ks t. Refused last (units_at sc.spec t ks) e now in
          let own : Refused last (units_at sc.spec s.told (keys_of sc s.told)) e now = subst (λ t. P (keys_of sc s.told) t) told_last (subst (λ ks. P ks last.told) declared refused) in
          let units = units_at sc.spec s.told (keys_of sc s.told) in
          limited_on s last now (node_units sc s.told ++ edge_units_of sc s.told) units [] (units_of sc s.told) 0 (size_of sc s.told) r e h both_asked
          (append_assoc (node_units sc s.told) (edge_units_of sc s.told) (units ++ []) ∙ (ap (λ us. node_units sc s.told ++ (edge_units_of sc s.told ++ us)) (append-nil units) ∙ nodes_split sc s.told))
          (omega arith)
          (record { stopped = own.stopped; large = λ same. inl (own.large same) })

      pub all_asked : (now : Seen) (keys : List AnyKey) → keys ≡ keys_of sc s.told → now ≡ after last (units_at sc.spec last.told keys) → WithinLimit s (units_of sc s.told) (size_of sc s.told) now
      all_asked now keys declared is =
          let units = units_at sc.spec s.told (keys_of sc s.told) in
          let own : now ≡ after last units = is ∙ (ap (λ ks. after last (units_at sc.spec last.told ks)) declared ∙ ap (λ t. after last (units_at sc.spec t (keys_of sc s.told))) told_last) in
          record {
            asked = asked_both s last now (node_units sc s.told ++ edge_units_of sc s.told) units both_asked own
                ∙ ap (after s) (append_assoc (node_units sc s.told) (edge_units_of sc s.told) units ∙ nodes_split sc s.told);
            few = own_within.few;
          }

      pub shown_are : (mm : Metamodel) (keys : List AnyKey) (shown : Shown) → keys ≡ keys_of sc s.told → AreShown sc.spec mm last.told keys shown → AreShown sc.spec mm s.told (keys_of sc s.told) shown
      shown_are mm keys shown declared are =
          let P : List AnyKey → Told → Type 0 = λ ks t. AreShown sc.spec mm t ks shown in
          subst (λ t. P (keys_of sc s.told) t) told_last (subst (λ ks. P ks last.told) declared are)
