use Rattle.std.proofs.Common.{◌≡◌, map, drop}
use Rattle.wb_json.specs.Form.{meaning_of}
use Rattle.wb_json.proofs.choices.meaning_of.Given as goal

-- no word so far is the text
abbrev pub invariant-loop-word : goal.invariant-loop-word
invariant-loop-word g l = meaning_of (map (λ w. (w.0.now, w.1)) l.words) l.text ≡ meaning_of (map (λ w. (w.0.now, w.1)) (drop l.word-index l.words)) l.text
