use Rattle.std.proofs.Common.{◌∙◌, sym, ap, map, codes, subst}
use Rattle.clap.specs.Words.{app_of, found_of}
use Rattle.wb_program.specs.Words as asked
use Rattle.wb_program.specs.Words.{word}
use Rattle.wb_program.specs.Commands.{big_command}
use Rattle.std.specs.Str.Parse.{digits_value}
use Rattle.std.proofs.Common.{true, ◌≡◌}
use Rattle.wb_program.specs.Words.{is_number}
use Rattle.clap.specs.Words.{Text}
use Rattle.wb_program.proofs.Taken.{takes_big, taken_by, rows_by, is_found, is_text}
use Rattle.wb_program.proofs.Numerals.{is_fewer}
use Rattle.wb_program.proofs.commands.big_task.Goals as goal

pub matches_of-requires : goal.matches_of-requires
matches_of-requires c =
    let ws = map (λ w. w.now) c.args.words.now in
    taken_by (app_of c.in_ok-big_command.field-0) big_command ws c.in_ok-big_command.ensures (takes_big ws c.requires).taken

pub text_of-requires : goal.text_of-requires
text_of-requires c =
    let ws = map (λ w. w.now) c.args.words.now in
    let f = found_of c.in_ok-matches.matches in
    let rows = rows_by f (app_of c.in_ok-big_command.field-0) big_command ws c.in_ok-big_command.ensures c.in_ok-matches.ensures in
    is_found f big_command ws (codes "number") (word ws 1) rows (takes_big ws c.requires).found

pub number_in-requires : goal.number_in-requires
number_in-requires c =
    let ws = map (λ w. w.now) c.args.words.now in
    let f = found_of c.in_ok-matches.matches in
    let rows = rows_by f (app_of c.in_ok-big_command.field-0) big_command ws c.in_ok-big_command.ensures c.in_ok-matches.ensures in
    let is = is_text f big_command ws (codes "number") (word ws 1) c.text_of.result.now rows (takes_big ws c.requires).found c.text_of.ensures in
    subst (λ (t : Text). is_number 1000000 t ≡ true) (sym is) (is_fewer (word ws 1) (takes_big ws c.requires).number)

pub returns : goal.returns
returns c =
    let ws = map (λ w. w.now) c.args.words.now in
    let f = found_of c.in_ok-matches.matches in
    let rows = rows_by f (app_of c.in_ok-big_command.field-0) big_command ws c.in_ok-big_command.ensures c.in_ok-matches.ensures in
    let is = is_text f big_command ws (codes "number") (word ws 1) c.text_of.result.now rows (takes_big ws c.requires).found c.text_of.ensures in
    ap asked.big (c.number_in.ensures ∙ ap (digits_value 10) is)
