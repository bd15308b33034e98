use Rattle.std.proofs.Common.{◌∙◌, ap, sym}
use Rattle.wb_metamodel.specs.Metamodel.{Metamodel}
use Rattle.wb_store.specs.declared.scalars.Scalar.TheVariants.{Object}
use Rattle.wb_store.specs.Contents.{Contents}
use Rattle.wb_store.specs.Relinking.{link, other_end}
use Rattle.wb_store.specs.LinkSteps.{with_link, without_link}
use Rattle.wb_model.proofs.Comings.{known_after, known_in, live_end, end_is, put_two, put_drop}
use Rattle.wb_store.proofs.RecordLemmas.{on_ok, on_err}
use Rattle.wb_model.proofs.edits.links.put_ends.Goals as goal
use Rattle.wb_store.proofs.Relinked.{metamodel-relink}

pub put_back-requires-clause-to : goal.put_back-requires-clause-to
put_back-requires-clause-to c =
    let l = link c.args.o c.args.f (Object c.args.p) in
    let k = link c.in-Some.end.0 c.in-Some.end.1 (Object c.args.o) in
    live_end c.args.store.now c.put_last.new.self c.args.o c.args.f c.args.p k c.in_ok-put_last.ensures.ok (ap (λ (metamodel : Metamodel). other_end metamodel l) (sym c.metamodel.ensures) ∙ c.in-Some.ensures.value) c.requires.to

pub put_back-requires-clause-known : goal.put_back-requires-clause-known
put_back-requires-clause-known c = known_after c.args.store.now c.put_last.new.self c.args.f (ap (λ (m : Contents). m.metamodel) c.in_ok-put_last.ensures.ok ∙ metamodel-relink _ _ c.args.store.now) c.requires.known

pub put_back-requires-clause-known_back : goal.put_back-requires-clause-known_back
put_back-requires-clause-known_back c =
    known_after c.args.store.now c.put_last.new.self c.in-Some.end.1 (ap (λ (m : Contents). m.metamodel) c.in_ok-put_last.ensures.ok ∙ metamodel-relink _ _ c.args.store.now)
    (known_in c.metamodel.result.now c.args.store.now.metamodel c.in-Some.end.1 c.metamodel.ensures c.in-Some.ensures.known)

pub returns-in-Some-clause-ok : goal.returns-in-Some-clause-ok
returns-in-Some-clause-ok c =
    let l = link c.args.o c.args.f (Object c.args.p) in
    let k = link c.in-Some.end.0 c.in-Some.end.1 (Object c.args.o) in
    let other = ap (λ (metamodel : Metamodel). other_end metamodel l) (sym c.metamodel.ensures) ∙ c.in-Some.ensures.value in
    on_ok c.put_back.result (λ e. e ∙ ap (with_link k) c.in_ok-put_last.ensures.ok ∙ put_two c.args.store.now l k other) c.put_back.ensures.ok

pub returns-in-Some-clause-err : goal.returns-in-Some-clause-err
returns-in-Some-clause-err c =
    let l = link c.args.o c.args.f (Object c.args.p) in
    let k = link c.in-Some.end.0 c.in-Some.end.1 (Object c.args.o) in
    let other = ap (λ (metamodel : Metamodel). other_end metamodel l) (sym c.metamodel.ensures) ∙ c.in-Some.ensures.value in
    let same = end_is c.args.store.now c.args.o c.args.f c.args.p k other in
    on_err c.put_back.result
    (λ e. e ∙ ap (λ p. without_link (link c.args.o c.args.f (Object p)) c.put_last.new.self) same ∙ ap (without_link l) c.in_ok-put_last.ensures.ok ∙ put_drop c.args.store.now l c.requires.fresh)
    c.put_back.ensures.err
