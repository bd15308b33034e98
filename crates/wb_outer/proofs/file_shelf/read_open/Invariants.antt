-- What was read so far is what the file gave, and is not too much.
use Rattle.std.proofs.Common.{◌≡◌, ◌≤◌, false, vec_len}
use Rattle.wb_outer.specs.Shelf.{file_limit}
use Rattle.wb_outer.proofs.file_shelf.read_open.Given as goal

abbrev pub invariant-reads : goal.invariant-reads
invariant-reads g l = record {
  opened : (g.F.Files.told l.files).opened ≡ (g.F.Files.told l.initial.files).opened;
  given : (g.F.Files.told l.files).given ≡ l.bytes.items;
  reads : (g.F.Files.told l.files).reads ≡ l._round;
  has_failed : (g.F.Files.told l.files).has_failed ≡ false;
  within : vec_len l.bytes ≤ file_limit;
}
