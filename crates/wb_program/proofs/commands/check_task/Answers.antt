use Rattle.std.proofs.Common.{◌∙◌, ap₂, map, codes}
use Rattle.clap.specs.Words.{app_of, found_of}
use Rattle.wb_program.specs.Words as asked
use Rattle.wb_program.specs.Words.{word}
use Rattle.wb_program.specs.Commands.{check_command}
use Rattle.wb_program.proofs.Taken.{takes_check, taken_by, rows_by, is_found, is_text}
use Rattle.wb_program.proofs.commands.check_task.Goals as goal

pub matches_of-requires : goal.matches_of-requires
matches_of-requires c =
    let ws = map (λ w. w.now) c.args.words.now in
    taken_by (app_of c.in_ok-check_command.field-0) check_command ws c.in_ok-check_command.ensures (takes_check ws c.requires).taken

pub text_of-requires : goal.text_of-requires
text_of-requires c =
    let ws = map (λ w. w.now) c.args.words.now in
    let f = found_of c.in_ok-matches.matches in
    let rows = rows_by f (app_of c.in_ok-check_command.field-0) check_command ws c.in_ok-check_command.ensures c.in_ok-matches.ensures in
    is_found f check_command ws (codes "metamodel") (word ws 1) rows (takes_check ws c.requires).metamodel

pub text_of-requires-2 : goal.text_of-requires-2
text_of-requires-2 c =
    let ws = map (λ w. w.now) c.args.words.now in
    let f = found_of c.in_ok-matches.matches in
    let rows = rows_by f (app_of c.in_ok-check_command.field-0) check_command ws c.in_ok-check_command.ensures c.in_ok-matches.ensures in
    is_found f check_command ws (codes "viewpoint") (word ws 2) rows (takes_check ws c.requires).viewpoint

pub returns : goal.returns
returns c =
    let ws = map (λ w. w.now) c.args.words.now in
    let f = found_of c.in_ok-matches.matches in
    let rows = rows_by f (app_of c.in_ok-check_command.field-0) check_command ws c.in_ok-check_command.ensures c.in_ok-matches.ensures in
    let takes = takes_check ws c.requires in
    ap₂ asked.check
    (c.as_bytes.ensures.value ∙ is_text f check_command ws (codes "metamodel") (word ws 1) c.text_of.result.now rows takes.metamodel c.text_of.ensures)
    (c.as_bytes-2.ensures.value ∙ is_text f check_command ws (codes "viewpoint") (word ws 2) c.text_of-2.result.now rows takes.viewpoint c.text_of-2.ensures)
