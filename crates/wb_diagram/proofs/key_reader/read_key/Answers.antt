use Rattle.wb_diagram.proofs.Spelling.{IsUtf8-any_key_text}
use Rattle.wb_diagram.proofs.key_reader.read_key.Goals as goal

pub returns-in_default-clause-none : goal.returns-in_default-clause-none
returns-in_default-clause-none c = λ none key spells. c.in_default.ensures.cases.0 (rw spells.written (IsUtf8-any_key_text key spells.numbered))
