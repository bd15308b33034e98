use Rattle.wb_http.proofs.Exact.{exactly}
use Rattle.wb_http.proofs.requests.read_request.Goals as goal

pub returns-clause-exact : goal.returns-clause-exact
returns-clause-exact g c = exactly c.read_one.result c.args.held.now c.read_one.new.held (g.D.Door.told c.args.door.now) (g.D.Door.told c.read_one.new.door) c.read_one.ensures
