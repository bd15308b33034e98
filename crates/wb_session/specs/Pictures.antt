-- What is served of a state.
use Rattle.std.specs.Prelude.{ℕ, List}
use Rattle.wb_diagram.specs.declared.diagrams.Diagram.{Diagram}
use Rattle.wb_refresh.specs.Faults.{problems_of}
use Rattle.wb_refresh.specs.Openings.{all_rows}
use Rattle.wb_refresh.specs.Outcomes.{Gives, told}
use Rattle.wb_refresh.specs.Subjects.{Subject}
use Rattle.wb_declared.specs.Declarations.{declared_edges, declared_nodes}
use Rattle.wb_looks.specs.Visible.{Switches}
use Rattle.wb_marks.specs.declared.marks.Marks.{Marks}
use Rattle.wb_picture.specs.Picture as pictures
use Rattle.wb_picture.specs.Picture.{Declarations, Scene}
use Rattle.wb_session.specs.States.{State, subject_of}

-- what is declared of a subject, and the problems of its units
abbrev pub declarations : Gives → Subject → Declarations
declarations gives s = record {
  nodes = declared_nodes gives s;
  edges = declared_edges gives s;
  problems = problems_of s.setting.model.metamodel (all_rows gives s);
}

abbrev pub switches_of : Marks → Switches
switches_of marks = record { layers = marks.layers; filters = marks.filters; hidden = marks.hidden }

-- what is seen of a subject under these marks
abbrev pub seen : Gives → Subject → Marks → Scene
seen gives s marks = record {
  spec = s.setting.spec;
  metamodel = s.setting.model.metamodel;
  told = told gives s.setting;
  switches = switches_of marks;
  placed = marks.layout;
}

-- the picture of a state
unfoldable pub picture : Gives → State → Diagram
picture gives s = pictures.picture (seen gives (subject_of s) s.body.marks) (declarations gives (subject_of s)) s.revision

-- its JSON text
unfoldable pub served : Gives → State → List ℕ
served gives s = pictures.served (seen gives (subject_of s) s.body.marks) (declarations gives (subject_of s)) s.revision
