use Rattle.std.proofs.Common.{◌≡◌, ◌<◌, All, length, take}
use Rattle.wb_diagram.specs.Keys.{IsNumbered, key_text}
use Rattle.wb_diagram.specs.declared.keys.Key.{Key}
use Rattle.wb_diagram.proofs.key_reader.read_path.Given as goal

abbrev pub invariant-loop-part : goal.invariant-loop-part
invariant-loop-part l = record {
  read : (key : Key) → 0 < length key.pairs → All IsNumbered key.pairs → l.fn.text ≡ key_text key → l.pairs ≡ take l.part-index key.pairs;
  numbered : All IsNumbered l.pairs;
}
