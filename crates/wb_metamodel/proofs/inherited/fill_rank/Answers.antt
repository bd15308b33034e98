use Rattle.std.proofs.Common.{◌≡◌, ◌<◌, ◌+◌, ℕ, [], length, get_or, eqb, true, sym, ap, ◌∙◌, subst, arith}
use Rattle.std.specs.List.{list_any}
use Rattle.std.proofs.lemmas.List.FromFn.{length-map-range_with_len, get_or-map-range_with_len}
use Rattle.wb_metamodel.specs.Metamodel.{features_of, first_places}
use Rattle.wb_metamodel.specs.invariants.Tables.{rank_of}
use Rattle.wb_metamodel.specs.invariants.Inherited.{FilledTo, all_features}
use Rattle.wb_metamodel.proofs.Inherit.{all-features-known, class-filled, fill-step, fill-skip, fill-end}
use Rattle.wb_metamodel.proofs.inherited.fill_rank.Goals as goal
use Rattle.wb_metamodel.proofs.inherited.fill_rank.Goals.{then-ranks-class+in_ok-features, else-ranks-class}

pub overflow_cast-class : goal.overflow_cast-class
overflow_cast-class c =
    let n = ap length c.requires.ranks ∙ length-map-range_with_len (rank_of c.args.elements.now) 0 (length c.args.elements.now.classes) in
    omega (arith, c.requires.hierarchy.few_classes)

pub features_of-requires-clause-class : goal.features_of-requires-clause-class
features_of-requires-clause-class c =
    let n = ap length c.requires.ranks ∙ length-map-range_with_len (rank_of c.args.elements.now) 0 (length c.args.elements.now.classes) in
    omega arith

pub features_of-requires-clause-known : goal.features_of-requires-clause-known
features_of-requires-clause-known c =
    let mm = c.args.elements.now in
    let k = c.loop-class.class in
    let n = ap length c.requires.ranks ∙ length-map-range_with_len (rank_of mm) 0 (length mm.classes) in
    let rank : rank_of mm k ≡ c.args.rank = sym (ap (λ rs. get_or rs k 0) c.requires.ranks ∙ get_or-map-range_with_len (rank_of mm) 0 (length mm.classes) k k 0 (omega arith) (omega arith)) ∙ c.if-ranks-class.true in
    subst (λ t. (f : ℕ) → list_any (eqb f) (all_features mm t k) ≡ true → f < length mm.features) (sym c.as_slice.ensures.value)
    (all-features-known mm c.loop-class.table.items c.args.rank k c.requires.hierarchy c.loop-class.invariant.0 rank)

pub index_mut-requires : goal.index_mut-requires
index_mut-requires c =
    let n = ap length c.requires.ranks ∙ length-map-range_with_len (rank_of c.args.elements.now) 0 (length c.args.elements.now.classes) in
    omega (arith, c.loop-class.invariant.0.lengths, c.loop-class.table.ok.0)

pub loop-class-preserved : goal.loop-class-preserved
loop-class-preserved c =
    let mm = c.args.elements.now in
    let k = c.loop-class.class in
    let r = c.args.rank in
    let table = c.loop-class.table.items in
    let n = ap length c.requires.ranks ∙ length-map-range_with_len (rank_of mm) 0 (length mm.classes) in
    let l : k < length mm.classes = omega arith in
    let read : get_or c.args.ranks.now k 0 ≡ rank_of mm k = ap (λ rs. get_or rs k 0) c.requires.ranks ∙ get_or-map-range_with_len (rank_of mm) 0 (length mm.classes) k k 0 l (omega arith) in
    elim c.if-ranks-class.branch [
      | then-ranks-class+in_ok-features w ↦
          let rank : rank_of mm k ≡ r = sym read ∙ w.if-ranks-class.true in
          let are : w.in_ok-features.features ≡ features_of mm k =
          w.in_ok-features.ensures ∙ ap (λ t. first_places (all_features mm t k)) w.as_slice.ensures.value ∙ class-filled mm table r k c.requires.hierarchy c.loop-class.invariant.0 rank l in
          subst (λ t. FilledTo mm t r × ((c' : ℕ) → c' < k + 1 → rank_of mm c' ≡ r → get_or t c' [] ≡ features_of mm c')) (sym (ap (λ v. v.items) w.table-is))
          (fill-step mm table r k w.in_ok-features.features c.loop-class.invariant.0 c.loop-class.invariant.1 l rank are)
      | else-ranks-class w ↦
          subst (λ v. FilledTo mm v.items r × ((c' : ℕ) → c' < k + 1 → rank_of mm c' ≡ r → get_or v.items c' [] ≡ features_of mm c')) (sym w.table-is)
          (fill-skip mm table r k c.loop-class.invariant.0 c.loop-class.invariant.1 (λ e. w.if-ranks-class.false (read ∙ e)))
    ]

pub returns : goal.returns
returns c =
    let mm = c.args.elements.now in
    let n = ap length c.requires.ranks ∙ length-map-range_with_len (rank_of mm) 0 (length mm.classes) in
    fill-end mm c.loop-class.table.items c.args.rank c.loop-class.class c.loop-class.invariant.0 c.loop-class.invariant.1 (omega arith)
