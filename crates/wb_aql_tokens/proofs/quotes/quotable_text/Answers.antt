use Rattle.std.proofs.Common.{◌≤◌, length, IsUtf8, vec_items, sym, subst, ap, ◌∙◌, arith, IsOk}
use Rattle.std.proofs.lemmas.Bool.{and_from, and_right, le-leb, false_from_ne_true, false≢true}
use Rattle.std.proofs.lemmas.Str.{IsUtf8-string_bytes, IsUtf8-from_is_utf8, is_utf8-from_IsUtf8}
use Rattle.wb_aql_tokens.specs.Lexes.{is_quotable}
use Rattle.wb_aql_tokens.proofs.quotes.quotable_text.Goals as goal

pub returns-in-Ok : goal.returns-in-Ok
unfolding is_quotable
returns-in-Ok c =
    let same = ap vec_items c.in-Ok.ensures.ok ∙ c.into_vec.ensures in
    let utf8 = subst IsUtf8 same (IsUtf8-string_bytes c.in-Ok.text) in
    let short : length c.args.value ≤ 65536 = omega arith in
    (c.from_string.ensures ∙ same, and_from _ _ (le-leb _ _ short) (is_utf8-from_IsUtf8 c.args.value utf8))

pub returns : goal.returns
unfolding is_quotable
returns c = and_right _ _ (false_from_ne_true _ (λ utf8. false≢true (
    subst IsOk c.in-Err.is (c.from_utf8.ensures.succeeds (subst IsUtf8 (sym c.into_vec.ensures) (IsUtf8-from_is_utf8 c.args.value utf8))))))
