use Rattle.std.proofs.Common.{◌∙◌, ap}
use Rattle.wb_store.specs.Contents.{Contents, kind}
use Rattle.wb_store.specs.Relinking.{without_root}
use Rattle.wb_model.proofs.Creating.{live_after, root_undone, created_root}
use Rattle.wb_store.proofs.RecordLemmas.{on_ok, on_err}
use Rattle.wb_model.proofs.edits.creations.create_root.Goals as goal

pub push_object-pushed-requires-clause-fresh : goal.push_object-pushed-requires-clause-fresh
push_object-pushed-requires-clause-fresh c =
    live_after c.args.store.now c.push_root.new.self c.requires.valid (λ o. ap (λ (m : Contents). kind m o) c.in_ok-push_root.ensures.ok) (ap (λ (m : Contents). m.next) c.in_ok-push_root.ensures.ok)

pub returns-then-is_err-clause-err : goal.returns-then-is_err-clause-err
returns-then-is_err-clause-err c =
    on_err c.push_object-pushed.result
    (λ e. c.drop_root.ensures ∙ ap (without_root c.next.result) (e ∙ c.in_ok-push_root.ensures.ok) ∙ root_undone c.args.store.now c.requires.valid c.next.result c.next.ensures)
    c.push_object-pushed.ensures.err

pub returns-else-is_err-clause-ok : goal.returns-else-is_err-clause-ok
returns-else-is_err-clause-ok c =
    on_ok c.push_object-pushed.result
    (λ g. created_root c.args.store.now c.requires.valid c.push_root.new.self c.push_object-pushed.new.self c.args.class c.next.result c.new.result c.next.ensures c.in_ok-push_root.ensures.ok c.new.ensures g)
    c.push_object-pushed.ensures.ok
