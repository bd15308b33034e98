-- The names of child lists, as they are walked.
use Rattle.std.proofs.Common.{◌≡◌, ℕ, ◌+◌, ◌<◌, Bool, true, false, not, ◌||◌, ◌&&◌, List, [], ◌∷◌, ◌++◌, length, get_or, take, Some, None, Result, Ok, Err, refl, sym, ap, ◌∙◌, subst, eqb, append_assoc, if◌then◌else◌, arith}
use Rattle.std.specs.List.{list_any, flat_map, enumerate_from}
use Rattle.std.specs.Option.{is_some, option_or}
use Rattle.std.proofs.lemmas.Bool.{ne_eqb}
use Rattle.std.proofs.lemmas.Grind.{flat_map-append}
use Rattle.std.proofs.lemmas.List.{take_more, length-take-le, append-nil}
use Rattle.std.proofs.lemmas.List.Elements.{filter-append}
use Rattle.std.proofs.lemmas.List.Folds.{list_any-append}
use Rattle.wb_base.specs.Names.{same_name}
use Rattle.wb_base.specs.Results.{◌>>=◌}
use Rattle.wb_ecore.specs.declared.numbered_names.NumberedNames.{NumberedNames}
use Rattle.wb_ecore.specs.invariants.NumberedNames.{number_of, Holds, GainsName}
use Rattle.wb_ecore.proofs.Taken.{added, holds-push}
use Rattle.wb_expressions.specs.declared.problem.ProblemCode.{ProblemCode}
use Rattle.wb_expressions.specs.declared.problem.ProblemCode.TheVariants as c
use Rattle.wb_viewpoint.specs.declared.content.Content.{Content}
use Rattle.wb_viewpoint.specs.declared.mappings.Mapping.{Mapping}
use Rattle.wb_viewpoint.specs.declared.mappings.MappingForm.TheVariants.{Node as NodeForm}
use Rattle.wb_viewpoint.specs.declared.nodes.NodeMapping.{NodeMapping}
use Rattle.wb_spec_check.specs.ChildLists.{ChildList, child_found, children_list, fits_mapping, is_empty, is_own, is_reused, lists_before, lists_of_form, names_elsewhere}
use Rattle.wb_spec_check.specs.Findings.{mapping_found, problem_if}
use Rattle.wb_spec_check.specs.Validated.{Finding}
use Rattle.wb_spec_check.specs.declared.child_lists.Taken.{Taken}
use Rattle.wb_spec_check.specs.declared.roles.Role.{Role}
use Rattle.wb_spec_check.specs.declared.roles.Role.TheVariants as role
use Rattle.wb_spec_check.specs.invariants.Taken.{TakenBy, Takes}

pub none_there : {A : Type 0} (xs : List A) → is_empty xs ≡ eqb (length xs) 0
none_there [] = refl
none_there (x ∷ xs) = sym (ne_eqb (length (x ∷ xs)) 0 (omega arith))

or-assoc : (a b c : Bool) → ((a || b) || c) ≡ (a || (b || c))
or-assoc true b c = refl
or-assoc false b c = refl

or-none : (b : Bool) → b ≡ (b || false)
or-none true = refl
or-none false = refl

-- ---- names that are seen in a list

-- one name more of a list that is walked
pub seen_more : (xs : List (List ℕ)) (i : ℕ) (x bytes : List ℕ) (old new : NumberedNames) → Holds old (take i xs) → bytes ≡ x → ((other : List ℕ) → number_of new other ≡ option_or (number_of old other) (if same_name bytes other then Some 0 else None)) → i < length xs → x ≡ get_or xs i x → Holds new (take (i + 1) xs)
seen_more xs i x bytes old new held same adds inside here =
    let gains : GainsName old x new = subst (λ name. GainsName old name new) same (added old new bytes 0 adds) in
    let more : take (i + 1) xs ≡ take i xs ++ x ∷ [] = take_more xs i x inside ∙ ap (λ y. take i xs ++ y ∷ []) (sym here) in
    subst (Holds new) (sym more) (holds-push old new (take i xs) x held gains)

-- ---- names that are taken

pub takes_none : (taken : Taken) → Takes [] taken taken
takes_none taken = λ other. or-none (is_some (number_of taken.names other))

takes_both : (xs ys zs : List (List ℕ)) (old mid new : Taken) → zs ≡ xs ++ ys → Takes xs old mid → Takes ys mid new → Takes zs old new
takes_both xs ys zs old mid new is first second = λ other.
    second other
    ∙ ap (λ b. b || list_any (same_name other) ys) (first other)
    ∙ or-assoc (is_some (number_of old.names other)) (list_any (same_name other) xs) (list_any (same_name other) ys)
    ∙ ap (λ b. is_some (number_of old.names other) || b) (sym (ap (list_any (same_name other)) is ∙ list_any-append (same_name other) xs ys))

-- one name more of a list that is walked
pub takes_more : (content : Content) (place : Role) (xs : List (List ℕ)) (i : ℕ) (x : List ℕ) (old mid new : Taken) → Takes (names_elsewhere content (record { role = place; names = take i xs })) old mid → Takes (names_elsewhere content (record { role = place; names = x ∷ [] })) mid new → i < length xs → x ≡ get_or xs i x → Takes (names_elsewhere content (record { role = place; names = take (i + 1) xs })) old new
takes_more content place xs i x old mid new first second inside here =
    let all : List (List ℕ) → List (List ℕ) = λ names. names_elsewhere content (record { role = place; names = names }) in
    let more : take (i + 1) xs ≡ take i xs ++ x ∷ [] = take_more xs i x inside ∙ ap (λ y. take i xs ++ y ∷ []) (sym here) in
    takes_both (all (take i xs)) (all (x ∷ [])) (all (take (i + 1) xs)) old mid new (ap all more ∙ filter-append _ (take i xs) (x ∷ [])) first second

-- the children and the borders of a mapping are taken
pub taken_inside : (content : Content) (n : ℕ) (node : NodeMapping) (children borders : List (List ℕ)) (mid new : Taken) → children ≡ node.children → borders ≡ node.borders
    → TakenBy content (lists_before content n ++ record { role = role.Children n node.kind; names = children } ∷ []) mid
    → ((earlier : List ChildList) → TakenBy content earlier mid → TakenBy content (earlier ++ record { role = role.Borders; names = borders } ∷ []) new)
    → TakenBy content (lists_before content n ++ lists_of_form n (NodeForm node)) new
taken_inside content n node children borders mid new same alike first second =
    let list : List (List ℕ) → ChildList = λ names. record { role = role.Children n node.kind; names = names } in
    let border : List (List ℕ) → ChildList = λ names. record { role = role.Borders; names = names } in
    let both : TakenBy content ((lists_before content n ++ list children ∷ []) ++ border borders ∷ []) new = second (lists_before content n ++ list children ∷ []) first in
    let is : (lists_before content n ++ list children ∷ []) ++ border borders ∷ [] ≡ lists_before content n ++ lists_of_form n (NodeForm node) =
    append_assoc (lists_before content n) (list children ∷ []) (border borders ∷ [])
    ∙ ap (λ names. lists_before content n ++ list names ∷ border borders ∷ []) same
    ∙ ap (λ names. lists_before content n ++ children_list n node ∷ border names ∷ []) alike in
    subst (λ lists. TakenBy content lists new) is both

-- ---- the lists before a mapping

enumerate-push : {A : Type 0} (n : ℕ) (xs : List A) (x : A) → enumerate_from n (xs ++ x ∷ []) ≡ enumerate_from n xs ++ (n + length xs, x) ∷ []
enumerate-push n [] x = ap (λ k. (k, x) ∷ []) (let z : n ≡ n + 0 = omega arith in z)
enumerate-push n (y ∷ ys) x =
    ap (λ zs. (n, y) ∷ zs) (enumerate-push (n + 1) ys x ∙ ap (λ k. enumerate_from (n + 1) ys ++ (k, x) ∷ []) (let z : (n + 1) + length ys ≡ n + length (y ∷ ys) = omega arith in z))

-- after the mapping of this number also its own
pub lists_more : (content : Content) (n : ℕ) (mapping : Mapping) → n < length content.mappings → mapping ≡ get_or content.mappings n mapping → lists_before content (n + 1) ≡ lists_before content n ++ lists_of_form n mapping.form
lists_more content n mapping inside here =
    let own : ℕ × Mapping → List ChildList = λ i. lists_of_form i.0 i.1.form in
    let before : List Mapping = take n content.mappings in
    let more : take (n + 1) content.mappings ≡ before ++ mapping ∷ [] = take_more content.mappings n mapping inside ∙ ap (λ y. before ++ y ∷ []) (sym here) in
    let count : 0 + length before ≡ n = omega (arith, length-take-le n content.mappings) in
    let numbered : enumerate_from 0 (take (n + 1) content.mappings) ≡ enumerate_from 0 before ++ (n, mapping) ∷ [] =
    ap (enumerate_from 0) more ∙ enumerate-push 0 before mapping ∙ ap (λ k. enumerate_from 0 before ++ (k, mapping) ∷ []) count in
    let lists : flat_map own (enumerate_from 0 (take (n + 1) content.mappings)) ≡ flat_map own (enumerate_from 0 before) ++ lists_of_form n mapping.form =
    ap (flat_map own) numbered ∙ flat_map-append own (enumerate_from 0 before) ((n, mapping) ∷ []) ∙ ap (λ ls. flat_map own (enumerate_from 0 before) ++ ls) (append-nil (lists_of_form n mapping.form)) in
    ap (λ ls. lists_before content 0 ++ ls) lists

-- ---- one name of a list

abbrev after_name : Content → List ChildList → ChildList → ℕ → List ℕ → Result ℕ Finding → Result ℕ Finding
after_name content earlier list i name found = do
  k ← found
  _ ← problem_if (is_reused content earlier list i k name) c.MappingReused name
  _ ← problem_if (not (fits_mapping content list.role k)) c.BadChild name
  Ok k

pub child_unknown : (content : Content) (earlier : List ChildList) (list : ChildList) (i : ℕ) (text name : List ℕ) (code : ProblemCode) → text ≡ name → mapping_found content text ≡ Err (code, text) → child_found content earlier list i name ≡ Err (code, name)
unfolding child_found
child_unknown content earlier list i text name code same is =
    let unknown : mapping_found content name ≡ Err (code, name) = subst (λ n. mapping_found content n ≡ Err (code, n)) same is in
    ap (after_name content earlier list i name) unknown

known : (content : Content) (earlier : List ChildList) (list : ChildList) (i k : ℕ) (name : List ℕ) → mapping_found content name ≡ Ok k → child_found content earlier list i name ≡ after_name content earlier list i name (Ok k)
unfolding child_found
known content earlier list i k name is = ap (after_name content earlier list i name) is

-- it is known by the names that are taken and seen whether a name is reused
reused : (content : Content) (earlier : List ChildList) (place : Role) (list : List (List ℕ)) (i k : ℕ) (name : List ℕ) (taken : Taken) (seen : NumberedNames) → TakenBy content earlier taken → Holds seen (take i list)
    → is_reused content earlier (record { role = place; names = list }) i k name ≡ (is_some (number_of seen name) || (not (is_own place k) && is_some (number_of taken.names name)))
reused content earlier place list i k name taken seen took held =
    ap (λ b. b || (not (is_own place k) && list_any (same_name name) (flat_map (names_elsewhere content) earlier))) (sym (held name))
    ∙ ap (λ b. is_some (number_of seen name) || (not (is_own place k) && b)) (sym (took name))

-- a name that is reused
pub child_reused : (content : Content) (earlier : List ChildList) (place : Role) (list : List (List ℕ)) (i k : ℕ) (name : List ℕ) (taken : Taken) (seen : NumberedNames) → mapping_found content name ≡ Ok k → TakenBy content earlier taken → Holds seen (take i list)
    → true ≡ (is_some (number_of seen name) || (not (is_own place k) && is_some (number_of taken.names name)))
    → child_found content earlier (record { role = place; names = list }) i name ≡ Err (c.MappingReused, name)
child_reused content earlier place list i k name taken seen is took held again =
    known content earlier (record { role = place; names = list }) i k name is
    ∙ ap (λ b. problem_if b c.MappingReused name >>= (λ _. problem_if (not (fits_mapping content place k)) c.BadChild name >>= (λ _. Ok k))) (reused content earlier place list i k name taken seen took held ∙ sym again)

-- a name that is not
pub child_first : (content : Content) (earlier : List ChildList) (place : Role) (list : List (List ℕ)) (i k : ℕ) (name : List ℕ) (taken : Taken) (seen : NumberedNames) (fit : Bool) → mapping_found content name ≡ Ok k → TakenBy content earlier taken → Holds seen (take i list)
    → false ≡ (is_some (number_of seen name) || (not (is_own place k) && is_some (number_of taken.names name))) → fit ≡ fits_mapping content place k
    → child_found content earlier (record { role = place; names = list }) i name ≡ (problem_if (not fit) c.BadChild name >>= (λ _. Ok k))
child_first content earlier place list i k name taken seen fit is took held again fits =
    known content earlier (record { role = place; names = list }) i k name is
    ∙ ap (λ b. problem_if b c.MappingReused name >>= (λ _. problem_if (not (fits_mapping content place k)) c.BadChild name >>= (λ _. Ok k))) (reused content earlier place list i k name taken seen took held ∙ sym again)
    ∙ ap (λ b. problem_if (not b) c.BadChild name >>= (λ _. Ok k)) (sym fits)
