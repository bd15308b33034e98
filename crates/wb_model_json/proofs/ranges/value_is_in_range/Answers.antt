use Rattle.std.proofs.Common.{◌≡◌, true, List, ℕ, ap, ◌∙◌, subst}
use Rattle.std.proofs.lemmas.Str.{is_utf8-from_IsUtf8}
use Rattle.std.specs.Str.{is_utf8}
use Rattle.wb_validity.specs.Ranges.{is_in_range}
use Rattle.wb_model_json.proofs.ranges.value_is_in_range.Goals as goal

pub returns-in-Text : goal.returns-in-Text
returns-in-Text c = ap is_in_range c.in-Text.is ∙ subst (λ (t : List ℕ). is_utf8 t ≡ true) c.as_slice-text.ensures.same (is_utf8-from_IsUtf8 c.as_slice-text.result.now c.as_slice-text.ensures.utf8)
