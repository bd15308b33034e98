use Rattle.serde_json.specs.View.{view}
use Rattle.wb_viewpoint.specs.Reading.{content_of}
use Rattle.wb_viewpoint.proofs.reading.read_value.Goals as goal

pub returns : goal.returns
returns c = c.coded.ensures (content_of (view c.args.value.now)) c.read_content.ensures
