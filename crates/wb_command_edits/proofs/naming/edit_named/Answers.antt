use Rattle.std.proofs.Common.{◌≡◌, Option, Result, sym, subst}
use Rattle.std.specs.Option.{option_transpose}
use Rattle.wb_base.specs.Answering.{AsDefined}
use Rattle.wb_store.specs.Contents.{Contents}
use Rattle.wb_model.specs.declared.edits.edit.Edit.{Edit}
use Rattle.wb_diagram.specs.declared.commands.Action.{Action}
use Rattle.wb_command_edits.specs.declared.refusal.NameRefusal.{NameRefusal}
use Rattle.wb_command_edits.specs.NamedEdits.{add_named, create_named, edit_named, move_named, named, remove_named, set_named, take_named, unset_named}
use Rattle.wb_command_edits.proofs.naming.edit_named.Goals as goal

of : (m : Contents) (action : Action) {form : Action} (result : Result (Option Edit) NameRefusal) → action ≡ form → AsDefined named (option_transpose (edit_named m form)) result → AsDefined named (option_transpose (edit_named m action)) result
of m action result is answered = subst (λ (a : Action). AsDefined named (option_transpose (edit_named m a)) result) (sym is) answered

pub returns-in-Create-clause-named : goal.returns-in-Create-clause-named
returns-in-Create-clause-named c =
    of c.args.model.now c.args.action.now c.asked.result c.in-Create.is (c.asked.ensures.named (create_named c.args.model.now c.in-Create.class c.in-Create.slot) c.create_named.ensures.named)

pub returns-in-Create-clause-known : goal.returns-in-Create-clause-known
returns-in-Create-clause-known c = c.asked.ensures.known c.args.model.now.metamodel c.create_named.ensures.known

pub returns-in-Set-clause-named : goal.returns-in-Set-clause-named
returns-in-Set-clause-named c =
    of c.args.model.now c.args.action.now c.asked-in-Set.result c.in-Set.is (c.asked-in-Set.ensures.named (set_named c.args.model.now c.in-Set.slot c.in-Set.value) c.set_named.ensures.named)

pub returns-in-Set-clause-known : goal.returns-in-Set-clause-known
returns-in-Set-clause-known c = c.asked-in-Set.ensures.known c.args.model.now.metamodel c.set_named.ensures.known

pub returns-in-Add-clause-named : goal.returns-in-Add-clause-named
returns-in-Add-clause-named c =
    of c.args.model.now c.args.action.now c.asked-in-Add.result c.in-Add.is (c.asked-in-Add.ensures.named (add_named c.args.model.now c.in-Add.slot c.in-Add.value) c.add_named.ensures.named)

pub returns-in-Add-clause-known : goal.returns-in-Add-clause-known
returns-in-Add-clause-known c = c.asked-in-Add.ensures.known c.args.model.now.metamodel c.add_named.ensures.known

pub returns-in-Take-clause-named : goal.returns-in-Take-clause-named
returns-in-Take-clause-named c =
    of c.args.model.now c.args.action.now c.asked-in-Take.result c.in-Take.is (c.asked-in-Take.ensures.named (take_named c.args.model.now c.in-Take.slot c.in-Take.value) c.take_named.ensures.named)

pub returns-in-Take-clause-known : goal.returns-in-Take-clause-known
returns-in-Take-clause-known c = c.asked-in-Take.ensures.known c.args.model.now.metamodel c.take_named.ensures.known

pub returns-in-Unset-clause-named : goal.returns-in-Unset-clause-named
returns-in-Unset-clause-named c =
    of c.args.model.now c.args.action.now c.asked-in-Unset.result c.in-Unset.is (c.asked-in-Unset.ensures.named (unset_named c.args.model.now c.in-Unset.slot) c.unset_named.ensures.named)

pub returns-in-Unset-clause-known : goal.returns-in-Unset-clause-known
returns-in-Unset-clause-known c = c.asked-in-Unset.ensures.known c.args.model.now.metamodel c.unset_named.ensures.known

pub returns-in-MoveTo-clause-named : goal.returns-in-MoveTo-clause-named
returns-in-MoveTo-clause-named c =
    of c.args.model.now c.args.action.now c.asked-in-MoveTo.result c.in-MoveTo.is (c.asked-in-MoveTo.ensures.named (move_named c.args.model.now c.in-MoveTo.object c.in-MoveTo.slot) c.move_named.ensures.named)

pub returns-in-MoveTo-clause-known : goal.returns-in-MoveTo-clause-known
returns-in-MoveTo-clause-known c = c.asked-in-MoveTo.ensures.known c.args.model.now.metamodel c.move_named.ensures.known

pub returns-in-Remove-clause-named : goal.returns-in-Remove-clause-named
returns-in-Remove-clause-named c =
    of c.args.model.now c.args.action.now c.asked-in-Remove.result c.in-Remove.is (c.asked-in-Remove.ensures.named (remove_named c.args.model.now c.in-Remove.object) c.remove_named.ensures.named)

pub returns-in-Remove-clause-known : goal.returns-in-Remove-clause-known
returns-in-Remove-clause-known c = c.asked-in-Remove.ensures.known c.args.model.now.metamodel c.remove_named.ensures.known
