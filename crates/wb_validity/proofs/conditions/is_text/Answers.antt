use Rattle.std.proofs.Common.{◌≡◌, ◌∙◌, ◌&&◌, true, List, ℕ, length, leb, sym, ap}
use Rattle.std.proofs.lemmas.Str.{is_utf8-from_IsUtf8}
use Rattle.std.specs.Str.{is_utf8}
use Rattle.wb_validity.specs.Valid.{is_text}
use Rattle.wb_validity.proofs.conditions.is_text.Goals as goal

pub returns-in-Text : goal.returns-in-Text
returns-in-Text c =
    let bytes : List ℕ = c.as_slice.result.now in
    let utf8 : is_utf8 bytes ≡ true = is_utf8-from_IsUtf8 bytes c.as_slice.ensures.utf8 in
    (λ i. sym utf8 i && leb (length bytes) 65536)
    ∙ ap (λ (t : List ℕ). is_utf8 t && leb (length t) 65536) c.as_slice.ensures.same
    ∙ sym (ap is_text c.in-Text.is)
