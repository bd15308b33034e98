-- Connections, one after another.
use Rattle.std.proofs.Common.{◌≡◌, refl, ◌∙◌, sym, ap, subst, inl, ℕ, ◌+◌, ◌<◌, ◌≤◌, List, [], ◌∷◌, ◌++◌, length, map, Option, None, Some, IfSome, append_assoc, append-nil, length-append, arith}
use Rattle.std.proofs.lemmas.List.{map-append}
use Rattle.wb_outer.specs.Door.{Connection, DoorTold, ToCome, Comes, ComesFrom}
use Rattle.wb_outer.specs.Faults.{Rose}
use Rattle.wb_outer.specs.declared.door.Next.TheVariants as next
use Rattle.wb_serving.specs.declared.ends.End.{End}
use Rattle.wb_serving.specs.declared.ends.End.TheVariants as ends
use Rattle.wb_serving.specs.declared.ends.Ended.TheVariants.{Closed, Stopped, Fault, Spent}
use Rattle.wb_serving.specs.Machines.{Law, MachineTold, Keeps}
use Rattle.wb_serving.specs.Counts.{IsRiseOf}
use Rattle.wb_serving.specs.Connections.{Visit, IsVisit, unkept_at, IsAtHand, IsServed}
use Rattle.wb_serving.specs.Responses.{Leaves}
use Rattle.wb_serving.specs.Runs.{Walks, NoneStops, unkept_of, fault_of, faults_of, bytes_of, AreFrom, Run, Serves, IsServing}
use Rattle.wb_serving.proofs.Replying.{rise_of_one}
use Rattle.wb_serving.proofs.Going.{rises_on, rise_as, keeps_same, keeps_on}

-- ---- one connection more

walks_on : {S : Type 0} (law : Law S) (vs : List (Visit S)) (v : Visit S) (s s1 : S) → Walks law vs s s1 → IsVisit law s1 v → Walks law (vs ++ v ∷ []) s v.after
walks_on law [] v s s1 walks is = (subst (λ st. IsVisit law st v) walks is, refl)
walks_on law (u ∷ vs) v s s1 walks is = (walks.0, walks_on law vs v u.after s1 walks.1 is)

module _ {S : Type 0} where
  none_on : (vs : List (Visit S)) (v : Visit S) → NoneStops vs → (v.end ≡ ends.Stop → ⊥) → NoneStops (vs ++ v ∷ [])
  none_on [] v none goes = (goes, tt)
  none_on (u ∷ vs) v none goes = (none.0, none_on vs v none.1 goes)

  unkept_more : (vs : List (Visit S)) (v : Visit S) → unkept_of vs + unkept_at v ≡ unkept_of (vs ++ v ∷ [])
  unkept_more [] v = omega arith
  unkept_more (u ∷ vs) v = let rest = unkept_more vs v in omega (arith, rest)

  faults_more : (vs : List (Visit S)) (v : Visit S) → (faults_of vs + 0) + fault_of v.end ≡ faults_of (vs ++ v ∷ []) + 0
  faults_more [] v = omega arith
  faults_more (u ∷ vs) v = let rest = faults_more vs v in omega (arith, rest)

  -- the bytes of the connection were the first that waited
  from_on : (old mid came new : Option ToCome) (vs : List (Visit S)) (v : Visit S) → AreFrom old mid vs → IfSome mid (λ to_come. ComesFrom to_come came next.Line) → Leaves came new v.connection.bytes_read v.left → AreFrom old new (vs ++ v ∷ [])
  from_on None mid came new vs v from comes leaves = tt
  from_on (Some to_come) mid came new vs v from comes leaves =
      let one = subst (λ (o : Option ToCome). IfSome o (λ t. ComesFrom t came next.Line)) from.1 comes in
      let left = subst (λ (o : Option ToCome). Leaves o new v.connection.bytes_read v.left) one.3 leaves in (
        record { here = v.left; waiting = one.1 },
        left.1,
        from.2 ∙ ap (λ w. map bytes_of vs ++ w) (one.2 ∙ ap (λ b. b ∷ one.1) left.0) ∙ sym (append_assoc (map bytes_of vs) (bytes_of v ∷ []) one.1) ∙ ap (λ b. b ++ one.1) (sym (map-append bytes_of vs (v ∷ []))),
      )

  from_none : (old : Option ToCome) (visits : List (Visit S)) → visits ≡ [] → AreFrom old old visits
  from_none None visits none = tt
  from_none (Some to_come) visits none = (to_come, refl, ap (λ (vs : List (Visit S)). map bytes_of vs ++ to_come.waiting) (sym none))

  -- none came
  from_failed : (old mid new : Option ToCome) (vs : List (Visit S)) → AreFrom old mid vs → IfSome mid (λ to_come. ComesFrom to_come new next.Failed) → AreFrom old new vs
  from_failed None mid new vs from comes = tt
  from_failed (Some to_come) mid new vs from comes =
      let same = subst (λ (o : Option ToCome). IfSome o (λ t. ComesFrom t new next.Failed)) from.1 comes in
      (from.0, same, from.2)

  -- none was to come
  from_closed : (old mid new : Option ToCome) (vs : List (Visit S)) → AreFrom old mid vs → IfSome mid (λ to_come. ComesFrom to_come new next.Closed) → AreFrom old new vs × IfSome old (λ to_come. to_come.waiting ≡ map bytes_of vs)
  from_closed None mid new vs from comes = (tt, tt)
  from_closed (Some to_come) mid new vs from comes =
      let gone = subst (λ (o : Option ToCome). IfSome o (λ t. ComesFrom t new next.Closed)) from.1 comes in
      let all = from.2 ∙ ap (λ w. map bytes_of vs ++ w) gone.0 in
      ((record { here = []; waiting = [] }, gone.1, all), all ∙ append-nil (map bytes_of vs))

-- the end of a connection is counted
fault_counted : (end : End) (d0 d1 : ℕ) → d0 ≤ d1 → (end ≡ ends.Fault → Rose d0 d1) → IsRiseOf (fault_of end) d0 d1
fault_counted ends.Input d0 d1 le rose = inl (omega (arith, le))
fault_counted ends.Stop d0 d1 le rose = inl (omega (arith, le))
fault_counted ends.Spent d0 d1 le rose = inl (omega (arith, le))
fault_counted ends.Close d0 d1 le rose = inl (omega (arith, le))
fault_counted ends.Fault d0 d1 le rose = rise_of_one d0 d1 (rose refl)

module _ {S : Type 0} (law : Law S) (m m1 m2 : MachineTold S) (d d1 d2 d3 : DoorTold) where
  run_on : (end : End) (visits : List (Visit S)) → Run law m m1 d d1 visits 0 → Comes d1 d2 next.Line → IsServed law m1 m2 d2 d3 end → Keeps law m1 m2 → IsAtHand d2 d3 → (end ≡ ends.Fault → Rose d2.faults d3.faults) → (v : Visit S) × Run law m m2 d d3 (visits ++ v ∷ []) 0 × (v.end ≡ end)
  run_on end visits run comes served keeps at_hand fault =
      let one = served d1.taken comes.taken in
      let v = one.visit in
      let end_fault = fault_counted end d2.faults d3.faults at_hand.later fault in (
        v,
        record {
          walk = subst (λ s. Walks law (visits ++ v ∷ []) m.state s) one.after_is (walks_on law visits v m.state m1.state run.walk one.is_visit);
          taken = one.taken ∙ ap (λ (cs : List Connection). cs ++ v.connection ∷ []) run.taken ∙ append_assoc d.taken (map (λ (u : Visit S). u.connection) visits) (v.connection ∷ []) ∙ ap (λ (cs : List Connection). d.taken ++ cs) (sym (map-append (λ (u : Visit S). u.connection) visits (v ∷ [])));
          to_come = from_on d.to_come d1.to_come d2.to_come d3.to_come visits v run.to_come comes.to_come one.leaves;
          unkept = rise_as _ _ m.faults m2.faults (unkept_more visits v) (rises_on (unkept_of visits) (unkept_at v) m.faults m1.faults m2.faults run.unkept one.unkept keeps.later);
          faults = rise_as _ _ d.faults d3.faults (faults_more visits v)
              (rises_on (faults_of visits + 0) (fault_of v.end) d.faults d1.faults d3.faults run.faults (subst (λ (e : End). IsRiseOf (fault_of e) d1.faults d3.faults) (sym one.end_is) (rise_as _ _ d1.faults d3.faults (omega arith) (rises_on 0 (fault_of end) d1.faults d2.faults d3.faults (inl (omega (arith, comes.later))) end_fault at_hand.later))) (omega (arith, comes.later, at_hand.later)));
          keeps = keeps_on law m m1 m2 run.keeps keeps;
          later = omega (arith, run.later, comes.later, at_hand.later);
        },
        one.end_is,
      )

  pub serving_on : (end : End) (count : ℕ) → IsServing law m m1 d d1 count → Comes d1 d2 next.Line → IsServed law m1 m2 d2 d3 end → Keeps law m1 m2 → IsAtHand d2 d3 → (end ≡ ends.Fault → Rose d2.faults d3.faults) → (end ≡ ends.Stop → ⊥) → IsServing law m m2 d d3 (count + 1)
  serving_on end count serving comes served keeps at_hand fault goes =
      let more = run_on end serving.visits serving.run comes served keeps at_hand fault in
      let v = more.0 in
      record {
        visits = serving.visits ++ v ∷ [];
        run = more.1;
        none = none_on serving.visits v serving.none (λ is. goes (sym more.2 ∙ is));
        count_is = simp length-append (ap (λ n. n + 1) serving.count_is);
      }

  pub serves_stop : (end : End) (count limit : ℕ) → IsServing law m m1 d d1 count → Comes d1 d2 next.Line → IsServed law m1 m2 d2 d3 end → Keeps law m1 m2 → IsAtHand d2 d3 → (end ≡ ends.Fault → Rose d2.faults d3.faults) → end ≡ ends.Stop → count < limit → Serves law m m2 d d3 limit Stopped
  serves_stop end count limit serving comes served keeps at_hand fault stop within =
      let more = run_on end serving.visits serving.run comes served keeps at_hand fault in
      let v = more.0 in
      let length_is : length (serving.visits ++ v ∷ []) ≡ count + 1 = simp length-append (ap (λ n. n + 1) serving.count_is) in
      record {
        visits = serving.visits ++ v ∷ [];
        run = more.1;
        stops = (record { earlier = serving.visits; last = v; parts = refl; none = serving.none; stop = more.2 ∙ stop }, omega (arith, length_is, within));
        closed = λ is. cc;
      }

module _ {S : Type 0} (law : Law S) (m m1 : MachineTold S) (d d1 d2 : DoorTold) (count limit : ℕ) (serving : IsServing law m m1 d d1 count) (within : count < limit) where
  pub serves_closed : Comes d1 d2 next.Closed → Serves law m m1 d d2 limit Closed
  serves_closed comes =
      let run = serving.run in
      let gone = from_closed d.to_come d1.to_come d2.to_come serving.visits run.to_come comes.to_come in
      record {
        visits = serving.visits;
        run = record {
          walk = run.walk;
          taken = comes.taken ∙ run.taken;
          to_come = gone.0;
          unkept = run.unkept;
          faults = rise_as _ _ d.faults d2.faults (omega arith) (rises_on (faults_of serving.visits + 0) 0 d.faults d1.faults d2.faults run.faults (inl (omega (arith, comes.later))) comes.later);
          keeps = run.keeps;
          later = omega (arith, run.later, comes.later);
        };
        stops = (comes.last, serving.none, omega (arith, serving.count_is, within));
        closed = λ is. gone.1;
      }

  pub serves_fault : Comes d1 d2 next.Failed → Serves law m m1 d d2 limit Fault
  serves_fault comes =
      let run = serving.run in
      record {
        visits = serving.visits;
        run = record {
          walk = run.walk;
          taken = comes.taken ∙ run.taken;
          to_come = from_failed d.to_come d1.to_come d2.to_come serving.visits run.to_come comes.to_come;
          unkept = run.unkept;
          faults = rise_as _ _ d.faults d2.faults (omega arith) (rises_on (faults_of serving.visits + 0) 1 d.faults d1.faults d2.faults run.faults (rise_of_one d1.faults d2.faults (comes.failed refl)) comes.later);
          keeps = run.keeps;
          later = omega (arith, run.later, comes.later);
        };
        stops = (comes.last, serving.none, omega (arith, serving.count_is, within));
        closed = λ is. cc;
      }

module _ {S : Type 0} (law : Law S) (m m1 : MachineTold S) (d d1 : DoorTold) where
  pub serving_none : IsServing law m m d d 0
  serving_none = record {
    visits = [];
    run = record { walk = refl; taken = sym (append-nil d.taken); to_come = from_none {S = S} d.to_come [] refl; unkept = inl (omega arith); faults = inl (omega arith); keeps = keeps_same law m; later = omega arith };
    none = tt;
    count_is = refl;
  }

  pub serves_spent : (limit : ℕ) → IsServing law m m1 d d1 limit → Serves law m m1 d d1 limit Spent
  serves_spent limit serving = record { visits = serving.visits; run = serving.run; stops = (serving.none, serving.count_is); closed = λ is. cc }
