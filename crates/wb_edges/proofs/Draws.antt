-- Edges that are put while their units are asked.
use Rattle.std.proofs.Common.{◌≡◌, ◌+◌, ◌<◌, ◌⊎◌, ℕ, true, List, [], ◌++◌, length, take, drop, get_or, sym, ap, subst, ◌∙◌, arith, append-nil, inl, inr, ⊎_elim}
use Rattle.std.specs.List.{flat_map}
use Rattle.std.specs.Prelude.{Result, Ok, Err, IsErr, IsErrAnd}
use Rattle.wb_diagram.specs.declared.units.Unit.{Unit as Place}
use Rattle.wb_diagram.specs.declared.keys.EdgeKey.{EdgeKey}
use Rattle.wb_answers.specs.declared.answers.Stop.{Stop}
use Rattle.wb_answers.specs.Seen.{Told, Seen, after, Asks}
use Rattle.wb_answers.proofs.SeenLaws.{later, stays}
use Rattle.wb_answers.proofs.SeenLoops.{told_of, goes_on, flat_map_split, asked_both}
use Rattle.wb_edges.specs.Puts.{put_all, Puts}
use Rattle.wb_edges.specs.Draws.{Drawn, Undrawn, Draws}
use Rattle.wb_edges.proofs.Putting.{put_goes_on, put_at_most}

-- a refusal by itself, before any edge is put
pub by_asking : {A : Type 0} (s now : Seen) (units : List Place) (edges more new : List EdgeKey) (room : ℕ) (r : Result A Stop) (P : Stop → Type 0) → IsErr r × IsErrAnd r P → Asks s units r now → Draws s units edges more room r now new
by_asking s now units edges more new room (Ok x) P h asks = absurd h.1
by_asking s now units edges more new room (Err e) P h asks = record { stopped = asks.stopped; large = λ same. inl (asks.large same) }

-- a refusal passed on
undrawn : {A : Type 0} (s now : Seen) (units : List Place) (edges more new : List EdgeKey) (room : ℕ) (r : Result A Stop) (e : Stop) → IsErr r × IsErrAnd r (λ f. f ≡ e) → Undrawn s units edges more room e now → Draws s units edges more room r now new
undrawn s now units edges more new room (Ok x) e h un = absurd h.1
undrawn s now units edges more new room (Err f) e h un =
    let P : Stop → Type 0 = λ stop. Undrawn s units edges more room stop now in
    subst P (sym h.1) un

-- ---- a loop that asks and puts at each item of a list

module _ {X : Type 0} (f : Told → X → List Place) (h : Told → X → List EdgeKey) (xs : List X) (i : ℕ) (d x : X) (s mid now : Seen) (edges old : List EdgeKey) (room : ℕ) (within : i < length xs) (at : x ≡ get_or xs i d)
    (so_far : mid ≡ after s (flat_map (f s.told) (take i xs))) (put_so_far : old ≡ put_all edges (flat_map (h s.told) (take i xs))) where
  same_told : mid.told ≡ s.told
  same_told = told_of s mid (flat_map (f s.told) (take i xs)) so_far

  pub drawn_on : (new : List EdgeKey) → Drawn mid (f mid.told x) old (h mid.told x) room now new → Drawn s (flat_map (f s.told) (take (i + 1) xs)) edges (flat_map (h s.told) (take (i + 1) xs)) room now new
  drawn_on new one = record {
    asked = goes_on f xs i d x s mid now within at so_far one.asked;
    put = put_goes_on (h s.told) xs i d x edges old within at put_so_far new (one.put ∙ ap (λ t. put_all old (h t x)) same_told);
    few = one.few;
  }

  pub undrawn_at : {A : Type 0} (new : List EdgeKey) (r : Result A Stop) (e : Stop) → IsErr r × IsErrAnd r (λ g. g ≡ e) → Undrawn mid (f mid.told x) old (h mid.told x) room e now → Draws s (flat_map (f s.told) xs) edges (flat_map (h s.told) xs) room r now new
  undrawn_at new r e err un =
      let P : Told → Type 0 = λ t. Undrawn mid (f t x) old (h t x) room e now in
      let here : Undrawn mid (f s.told x) old (h s.told x) room e now = subst P same_told un in
      undrawn s now (flat_map (f s.told) xs) edges (flat_map (h s.told) xs) new room r e err (record {
        stopped = later s mid now (flat_map (f s.told) (take i xs)) (f s.told x) (flat_map (f s.told) (drop (i + 1) xs)) (flat_map (f s.told) xs) so_far (flat_map_split (f s.told) xs i d x within at) here.stopped;
        large = λ same. ⊎_elim {C = (now.over ≡ true) ⊎ (room < length (put_all edges (flat_map (h s.told) xs)))} (λ over. inl over)
            (λ many. inr (let most = put_at_most (h s.told) xs i d x edges old within at put_so_far in omega (arith, many, most))) (here.large same);
      })

-- ---- one after the other

-- units are asked first, and then others while edges are put
pub draws_then : {A : Type 0} (s mid now : Seen) (us vs all : List Place) (edges more new : List EdgeKey) (room : ℕ) (r : Result A Stop) → mid ≡ after s us → us ++ vs ≡ all → Draws mid vs edges more room r now new → Draws s all edges more room r now new
draws_then s mid now us vs all edges more new room (Ok x) is split drawn = record { asked = asked_both s mid now us vs is drawn.asked ∙ ap (after s) split; put = drawn.put; few = drawn.few }
draws_then s mid now us vs all edges more new room (Err e) is split un = record { stopped = later s mid now us vs [] all is (ap (λ ws. us ++ ws) (append-nil vs) ∙ split) un.stopped; large = un.large }

-- all units were asked, and edges are put
pub draws_puts : {A : Type 0} (s now : Seen) (units : List Place) (edges more new : List EdgeKey) (room : ℕ) (r : Result A Stop) → now ≡ after s units → Puts edges more room r new → Draws s units edges more room r now new
draws_puts s now units edges more new room (Ok x) is puts = record { asked = is; put = puts.0; few = puts.1 }
draws_puts s now units edges more new room (Err e) is puts = record { stopped = stays s now units [] units is (append-nil units); large = λ same. inr (puts same) }
