use Rattle.std.proofs.Common.{map, codes}
use Rattle.clap.specs.Words.{app_of, found_of}
use Rattle.wb_program.specs.Words.{word}
use Rattle.wb_program.specs.Commands.{serve_command}
use Rattle.wb_program.proofs.Taken.{takes_serve, taken_by, rows_by, is_found, are_sources_of}
use Rattle.wb_program.proofs.commands.serve_sources.Goals as goal

pub matches_of-requires : goal.matches_of-requires
matches_of-requires c =
    let ws = map (λ w. w.now) c.args.words.now in
    taken_by (app_of c.in_ok-serve_command.field-0) serve_command ws c.in_ok-serve_command.ensures (takes_serve ws c.requires).taken

pub sources_of-requires-clause-metamodel : goal.sources_of-requires-clause-metamodel
sources_of-requires-clause-metamodel c =
    let ws = map (λ w. w.now) c.args.words.now in
    let f = found_of c.in_ok-matches.matches in
    let rows = rows_by f (app_of c.in_ok-serve_command.field-0) serve_command ws c.in_ok-serve_command.ensures c.in_ok-matches.ensures in
    is_found f serve_command ws (codes "metamodel") (word ws 1) rows (takes_serve ws c.requires).found.metamodel

pub sources_of-requires-clause-viewpoint : goal.sources_of-requires-clause-viewpoint
sources_of-requires-clause-viewpoint c =
    let ws = map (λ w. w.now) c.args.words.now in
    let f = found_of c.in_ok-matches.matches in
    let rows = rows_by f (app_of c.in_ok-serve_command.field-0) serve_command ws c.in_ok-serve_command.ensures c.in_ok-matches.ensures in
    is_found f serve_command ws (codes "viewpoint") (word ws 2) rows (takes_serve ws c.requires).found.viewpoint

pub sources_of-requires-clause-model : goal.sources_of-requires-clause-model
sources_of-requires-clause-model c =
    let ws = map (λ w. w.now) c.args.words.now in
    let f = found_of c.in_ok-matches.matches in
    let rows = rows_by f (app_of c.in_ok-serve_command.field-0) serve_command ws c.in_ok-serve_command.ensures c.in_ok-matches.ensures in
    is_found f serve_command ws (codes "model") (word ws 3) rows (takes_serve ws c.requires).found.model

pub returns : goal.returns
returns c =
    let ws = map (λ w. w.now) c.args.words.now in
    let f = found_of c.in_ok-matches.matches in
    let rows = rows_by f (app_of c.in_ok-serve_command.field-0) serve_command ws c.in_ok-serve_command.ensures c.in_ok-matches.ensures in
    let given = c.sources_of.ensures in
    are_sources_of f serve_command ws _ _ _ rows (takes_serve ws c.requires).found given.metamodel given.viewpoint given.model
