use Rattle.std.proofs.Common.{◌≡◌, ◌<◌, ◌≤◌, sym, ℕ, List, Bool, subst, length, get_or, take}
use Rattle.std.proofs.lemmas.Bool.{false≢true}
use Rattle.wb_validity.specs.invariants.Roots.{AllSeen, IsUnseen}
use Rattle.wb_validity.specs.Valid.{RootsAreUncontained}
use Rattle.wb_validity.proofs.RootLemmas.{Seen, refused, rooted_all, unseen_one, decided, seen_next}
use Rattle.wb_validity.proofs.uncontained.roots_are_uncontained.Goals as goal

pub returns-then-not-take_root : goal.returns-then-not-take_root
returns-then-not-take_root c =
    let roots = c.roots-root-items.ensures in
    let state = subst (λ (os : List ℕ). Seen c.args.records.now c.args.holders.now (take c.loop-root.root-index os) c.loop-root.seen.items) roots c.loop-root.invariant in
    let within = subst (λ (os : List ℕ). c.loop-root.root-index < length os) roots c.loop-root-test.true in
    let read = subst (λ (os : List ℕ). c.root-item.result ≡ get_or os c.loop-root.root-index c.root-item.result) roots c.root-item.is in
    (λ e. absurd (false≢true e), λ rooted. absurd (refused c.args.store.now c.args.records.now c.requires.kept c.args.holders.now c.requires.knows c.loop-root.root-index c.root-item.result c.loop-root.seen.items state within read c.if-not-take_root.ensures.refused rooted))

pub loop-root-preserved : goal.loop-root-preserved
loop-root-preserved c =
    seen_next c.args.records.now c.requires.kept.plain.objects_rise c.args.holders.now c.roots-root-items.result.now c.loop-root.root-index c.root-item.result c.loop-root.seen.items c.take_root.new.seen.items
    c.loop-root-test.true c.root-item.is c.loop-root.invariant c.if-not-take_root.ensures.taken

pub returns : goal.returns
returns c =
    let roots = c.roots-root-items.ensures in
    let state = subst (λ (seen : List Bool). Seen c.args.records.now c.args.holders.now (take c.loop-root.root-index c.args.store.now.roots) seen) (sym c.as_slice.ensures.value)
    (subst (λ (os : List ℕ). Seen c.args.records.now c.args.holders.now (take c.loop-root.root-index os) c.loop-root.seen.items) roots c.loop-root.invariant) in
    let whole = subst (λ (os : List ℕ). length os ≤ c.loop-root.root-index) roots c.loop-root-test.false in
    decided c.all_seen.result (AllSeen c.args.holders.now c.as_slice.result.now) (IsUnseen c.args.holders.now c.as_slice.result.now) (RootsAreUncontained c.args.store.now) c.all_seen.ensures.all c.all_seen.ensures.one
    (rooted_all c.args.store.now c.args.records.now c.requires.kept c.args.holders.now c.requires.knows c.loop-root.root-index c.as_slice.result.now state whole)
    (unseen_one c.args.store.now c.args.records.now c.requires.kept c.args.holders.now c.requires.knows c.loop-root.root-index c.as_slice.result.now state whole)
