use Rattle.std.proofs.Common.{◌∙◌, sym, ap, ap₂, map, codes, subst}
use Rattle.clap.specs.Words.{app_of, found_of}
use Rattle.wb_program.specs.Words as asked
use Rattle.wb_program.specs.Words.{word}
use Rattle.wb_program.specs.Commands.{limited_serve_command}
use Rattle.std.specs.Str.Parse.{digits_value}
use Rattle.std.proofs.Common.{true, ◌≡◌}
use Rattle.wb_program.specs.Words.{is_number}
use Rattle.clap.specs.Words.{Text}
use Rattle.wb_program.proofs.Taken.{takes_limited, taken_by, rows_by, is_found, is_text, are_sources_of}
use Rattle.wb_program.proofs.commands.limited_serve_task.Goals as goal

pub matches_of-requires : goal.matches_of-requires
matches_of-requires c =
    let ws = map (λ w. w.now) c.args.words.now in
    taken_by (app_of c.in_ok-limited_serve_command.field-0) limited_serve_command ws c.in_ok-limited_serve_command.ensures (takes_limited ws c.requires).taken

pub text_of-requires : goal.text_of-requires
text_of-requires c =
    let ws = map (λ w. w.now) c.args.words.now in
    let f = found_of c.in_ok-matches.matches in
    let rows = rows_by f (app_of c.in_ok-limited_serve_command.field-0) limited_serve_command ws c.in_ok-limited_serve_command.ensures c.in_ok-matches.ensures in
    is_found f limited_serve_command ws (codes "connections") (word ws 5) rows (takes_limited ws c.requires).connections

pub number_in-connections-requires : goal.number_in-connections-requires
number_in-connections-requires c =
    let ws = map (λ w. w.now) c.args.words.now in
    let f = found_of c.in_ok-matches.matches in
    let rows = rows_by f (app_of c.in_ok-limited_serve_command.field-0) limited_serve_command ws c.in_ok-limited_serve_command.ensures c.in_ok-matches.ensures in
    let is = is_text f limited_serve_command ws (codes "connections") (word ws 5) c.text_of.result.now rows (takes_limited ws c.requires).connections c.text_of.ensures in
    subst (λ (t : Text). is_number 1000000 t ≡ true) (sym is) (takes_limited ws c.requires).number

pub sources_of-requires-clause-metamodel : goal.sources_of-requires-clause-metamodel
sources_of-requires-clause-metamodel c =
    let ws = map (λ w. w.now) c.args.words.now in
    let f = found_of c.in_ok-matches.matches in
    let rows = rows_by f (app_of c.in_ok-limited_serve_command.field-0) limited_serve_command ws c.in_ok-limited_serve_command.ensures c.in_ok-matches.ensures in
    is_found f limited_serve_command ws (codes "metamodel") (word ws 1) rows (takes_limited ws c.requires).found.metamodel

pub sources_of-requires-clause-viewpoint : goal.sources_of-requires-clause-viewpoint
sources_of-requires-clause-viewpoint c =
    let ws = map (λ w. w.now) c.args.words.now in
    let f = found_of c.in_ok-matches.matches in
    let rows = rows_by f (app_of c.in_ok-limited_serve_command.field-0) limited_serve_command ws c.in_ok-limited_serve_command.ensures c.in_ok-matches.ensures in
    is_found f limited_serve_command ws (codes "viewpoint") (word ws 2) rows (takes_limited ws c.requires).found.viewpoint

pub sources_of-requires-clause-model : goal.sources_of-requires-clause-model
sources_of-requires-clause-model c =
    let ws = map (λ w. w.now) c.args.words.now in
    let f = found_of c.in_ok-matches.matches in
    let rows = rows_by f (app_of c.in_ok-limited_serve_command.field-0) limited_serve_command ws c.in_ok-limited_serve_command.ensures c.in_ok-matches.ensures in
    is_found f limited_serve_command ws (codes "model") (word ws 3) rows (takes_limited ws c.requires).found.model

pub returns : goal.returns
returns c =
    let ws = map (λ w. w.now) c.args.words.now in
    let f = found_of c.in_ok-matches.matches in
    let rows = rows_by f (app_of c.in_ok-limited_serve_command.field-0) limited_serve_command ws c.in_ok-limited_serve_command.ensures c.in_ok-matches.ensures in
    let given = c.sources_of.ensures in
    let is = is_text f limited_serve_command ws (codes "connections") (word ws 5) c.text_of.result.now rows (takes_limited ws c.requires).connections c.text_of.ensures in
    ap₂ asked.serve (are_sources_of f limited_serve_command ws _ _ _ rows (takes_limited ws c.requires).found given.metamodel given.viewpoint given.model)
    (c.number_in-connections.ensures ∙ ap (digits_value 10) is)
