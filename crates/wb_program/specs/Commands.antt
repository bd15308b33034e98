-- The commands by which words of a form are taken apart: the first word stands as the program's name.
use Rattle.std.specs.Prelude.{true, Some, codes}
use Rattle.clap.specs.Words.{App, Rule, Text, new_app, new_rule, with_rule}
use Rattle.clap.specs.declared.builder.action.ArgAction.TheVariants.{Set}

-- a word that has to stand there
abbrev pub word_rule : Text → Rule
word_rule id = record (new_rule id) { required = true; action = Some Set }

-- `--connections` and a word
abbrev pub connections_rule : Rule
connections_rule = record (word_rule (codes "connections")) { long = Some (codes "connections") }

unfoldable pub check_command : App
check_command = with_rule (with_rule (new_app (codes "check")) (word_rule (codes "metamodel"))) (word_rule (codes "viewpoint"))

-- the files of a picture
abbrev pub picture_command : Text → App
picture_command name = with_rule (with_rule (with_rule (new_app name) (word_rule (codes "metamodel"))) (word_rule (codes "viewpoint"))) (word_rule (codes "model"))

unfoldable pub draw_command : App
draw_command = picture_command (codes "draw")

unfoldable pub serve_command : App
serve_command = picture_command (codes "serve")

unfoldable pub limited_serve_command : App
limited_serve_command = with_rule (picture_command (codes "serve")) connections_rule

unfoldable pub big_command : App
big_command = with_rule (new_app (codes "big")) (word_rule (codes "number"))
