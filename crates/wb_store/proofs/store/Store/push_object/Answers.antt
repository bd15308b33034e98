use Rattle.std.proofs.Common.{◌≡◌, ℕ, ◌+◌, ◌<◌, sym, subst, arith, length, suc, List}
use Rattle.wb_store.specs.declared.records.Record.{Record}
use Rattle.wb_store.specs.Contents.{Contents}
use Rattle.wb_store.specs.Records.{contents_of, is_known_slot}
use Rattle.wb_store.specs.invariants.Plain.{IsPlain}
use Rattle.std.specs.List.{list_all}
use Rattle.wb_store.proofs.Growing.{grown_plain, grown, grows_is, fresh_inside}
use Rattle.wb_store.proofs.store.Store.push_object.Goals as goal

one_more : (n : ℕ) → suc n ≡ n + 1
one_more n = omega arith

pub invariant_of-self-2 : goal.invariant_of-self-2
invariant_of-self-2 c =
    let s = c.self.inside in
    let fresh = fresh_inside (contents_of s.metamodel s.next s.records.items s.roots) c.args.self.now c.self.view_is c.requires.fresh in
    subst (λ (records : List Record). IsPlain s.metamodel records) (sym c.in_ok-push.ensures.items)
    (grown_plain s.metamodel s.next s.records.items s.roots c.args.class c.args.slots c.self.invariant fresh
    (subst (λ (m : Contents). c.args.class < length m.metamodel.classes) (sym c.self.view_is) c.requires.class)
    (subst (λ (m : Contents). list_all (is_known_slot m.metamodel) c.args.slots ≡ Rattle.std.proofs.Common.true) (sym c.self.view_is) c.requires.known)
    c.requires.rise)

pub returns-clause-ok : goal.returns-clause-ok
returns-clause-ok c =
    let s = c.self.inside in
    let fresh = fresh_inside (contents_of s.metamodel s.next s.records.items s.roots) c.args.self.now c.self.view_is c.requires.fresh in
    let after = grown_plain s.metamodel s.next s.records.items s.roots c.args.class c.args.slots c.self.invariant fresh
    (subst (λ (m : Contents). c.args.class < length m.metamodel.classes) (sym c.self.view_is) c.requires.class)
    (subst (λ (m : Contents). list_all (is_known_slot m.metamodel) c.args.slots ≡ Rattle.std.proofs.Common.true) (sym c.self.view_is) c.requires.known)
    c.requires.rise in
    grows_is c.self.view_is (λ i. contents_of s.metamodel (one_more s.next i) (sym c.in_ok-push.ensures.items i) s.roots)
    (grown s.metamodel s.next s.records.items s.roots c.args.class c.args.slots c.self.invariant fresh after)
