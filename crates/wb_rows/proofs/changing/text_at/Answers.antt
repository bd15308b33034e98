use Rattle.std.proofs.Common.{◌≡◌, ℕ, Result, refl, rules, sym, subst}
use Rattle.std.proofs.lemmas.Fn.{answers_by}
use Rattle.std.specs.List.Sorted.{IsBinarySearchResult, IsSearchInRange}
use Rattle.std.specs.Prelude.{length}
use Rattle.wb_outer.specs.declared.keeper.Row.{Row}
use Rattle.wb_rows.specs.Texts.{key_cmp}
use Rattle.wb_rows.proofs.Searches.{found, missed}
use Rattle.wb_rows.proofs.changing.text_at.Goals as goal

pub returns-in-Ok : goal.returns-in-Ok
returns-in-Ok c =
    let rows = c.args.rows.now in
    let key = c.args.key.now in
    let facts = c.binary_search_by.ensures in
    let at = facts.position (λ (r : Row). key_cmp r.key key) (answers_by _ _ (λ f. f.0.now ≡ key) (λ f a r g called same. (search rules, search rules)) _ refl) in
    let place = subst (λ (r : Result ℕ ℕ). IsBinarySearchResult (λ (r : Row). key_cmp r.key key) rows r) c.in-Ok.is at in
    let within = subst (λ (r : Result ℕ ℕ). IsSearchInRange r (length rows)) c.in-Ok.is facts.bound in
    sym (found key rows c.requires c.in-Ok.place c.index-rows-place.result place within)

pub returns-in-Err : goal.returns-in-Err
returns-in-Err c =
    let rows = c.args.rows.now in
    let key = c.args.key.now in
    let at = c.binary_search_by.ensures.position (λ (r : Row). key_cmp r.key key) (answers_by _ _ (λ f. f.0.now ≡ key) (λ f a r g called same. (search rules, search rules)) _ refl) in
    sym (missed key rows c.requires c.in-Err.field-0 (subst (λ (r : Result ℕ ℕ). IsBinarySearchResult (λ (r : Row). key_cmp r.key key) rows r) c.in-Err.is at))
