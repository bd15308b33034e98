-- The changes between ascending rows lead from the old rows to the new ones.
use Rattle.std.proofs.Common.{◌≡◌, ℕ, Bool, true, false, not, nat_eq, T, List, [], ◌∷◌, ◌++◌, cond, filter, map, Option, Some, None, is_some, is_none, refl, sym, ap, subst, ◌∙◌}
use Rattle.std.specs.declared.cmp.Ordering.{Ordering}
use Rattle.std.specs.declared.cmp.Ordering.TheVariants as c
use Rattle.std.specs.Option.{option_or, option_map_or}
use Rattle.std.specs.Ordering.{is_eq, is_lt, eq_by_cmp}
use Rattle.std.specs.Cmp.Lexicographic.{pointwise, texts_ties}
use Rattle.std.specs.FinMap.{find, is_sorted, put as put_entry}
use Rattle.std.specs.FinMap.Entries.{below_all, find-put, find-where_key, is_sorted-put, is_sorted-where_key, same_entries, where_key}
use Rattle.wb_outer.specs.Keeper.{changed, erased, inserted, put}
use Rattle.wb_outer.specs.declared.keeper.Row.{Row}
use Rattle.wb_outer.specs.declared.keeper.RowChange.{RowChange}
use Rattle.wb_outer.specs.declared.keeper.RowChange.TheVariants.{Put}
use Rattle.wb_rows.specs.Changes.{changes_between, erase, is_fresh, is_gone}
use Rattle.wb_rows.specs.Texts.{Ascend, entry_of, key_cmp, row, row_of, text_at}
use Rattle.wb_rows.proofs.Orders.{absent, first_below, key_total, left_of, one_key, pair_of, rest_ascend, right_of, rows_back, same_key_is, same_text, same_text_is}

-- ---- one row more or less

entries_erased : (key : List ℕ) (rows : List Row) → map entry_of (erased key rows) ≡ where_key key_cmp (λ x. not (pointwise nat_eq x key)) (map entry_of rows)
entries_erased key [] = refl
entries_erased key (r ∷ rows) =
    elim (pointwise nat_eq r.key key) as (λ b. map entry_of (cond (not b) (r ∷ erased key rows) (erased key rows)) ≡ cond (not b) (entry_of r ∷ where_key key_cmp (λ x. not (pointwise nat_eq x key)) (map entry_of rows)) (where_key key_cmp (λ x. not (pointwise nat_eq x key)) (map entry_of rows))) [
      | true ↦ entries_erased key rows
      | false ↦ ap (λ es. entry_of r ∷ es) (entries_erased key rows)
    ]

at_erased : (key : List ℕ) (rows : List Row) (q : List ℕ) → text_at (erased key rows) q ≡ cond (not (pointwise nat_eq q key)) (text_at rows q) None
at_erased key rows q =
    ap (find key_cmp q) (entries_erased key rows)
    ∙ find-where_key key_cmp (λ x. not (pointwise nat_eq x key)) q (λ x t. ap (λ y. not (pointwise nat_eq y key)) (sym (one_key q x t))) (map entry_of rows)

erased_ascend : (key : List ℕ) (rows : List Row) → Ascend rows → Ascend (erased key rows)
erased_ascend key rows up =
    subst (λ es. T (is_sorted key_cmp es)) (sym (entries_erased key rows)) (is_sorted-where_key key_cmp (λ x. not (pointwise nat_eq x key)) (map entry_of rows) up)

inserted_before : (r other : Row) (rows : List Row) (o : Ordering) → key_cmp r.key other.key ≡ o → text_at (other ∷ rows) r.key ≡ None
    → (text_at rows r.key ≡ None → map entry_of (inserted r rows) ≡ put_entry key_cmp r.key r.text (map entry_of rows))
    → map entry_of (inserted r (other ∷ rows)) ≡ put_entry key_cmp r.key r.text (map entry_of (other ∷ rows))
inserted_before r other rows c.Less is none rest = rw is refl
inserted_before r other rows c.Equal is none rest = absurd (let found : cond (is_eq c.Equal) (Some other.text) (text_at rows r.key) ≡ None = ap (λ o. cond (is_eq o) (Some other.text) (text_at rows r.key)) (sym is) ∙ none in cc)
inserted_before r other rows c.Greater is none rest =
    rw is (ap (λ es. entry_of other ∷ es) (rest (ap (λ o. cond (is_eq o) (Some other.text) (text_at rows r.key)) (sym is) ∙ none)))

entries_inserted : (r : Row) (rows : List Row) → text_at rows r.key ≡ None → map entry_of (inserted r rows) ≡ put_entry key_cmp r.key r.text (map entry_of rows)
entries_inserted r [] none = refl
entries_inserted r (other ∷ rows) none = inserted_before r other rows (key_cmp r.key other.key) refl none (entries_inserted r rows)

none_there : (r : Row) (rows : List Row) → text_at (erased r.key rows) r.key ≡ None
none_there r rows = at_erased r.key rows r.key ∙ ap (λ b. cond (not b) (text_at rows r.key) None) (same_text r.key)

entries_put : (r : Row) (rows : List Row) → map entry_of (put r rows) ≡ put_entry key_cmp r.key r.text (map entry_of (erased r.key rows))
entries_put r rows = entries_inserted r (erased r.key rows) (none_there r rows)

put_ascend : (r : Row) (rows : List Row) → Ascend rows → Ascend (put r rows)
put_ascend r rows up =
    subst (λ es. T (is_sorted key_cmp es)) (sym (entries_put r rows)) (is_sorted-put key_cmp key_total r.key r.text (map entry_of (erased r.key rows)) (erased_ascend r.key rows up))

over : (b d : Bool) (x y : Option (List ℕ)) → d ≡ b → cond b x (cond (not d) y None) ≡ cond b x y
over true d x y is = refl
over false d x y is = ap (λ e. cond (not e) y None) is

at_put : (r : Row) (rows : List Row) (q : List ℕ) → text_at (put r rows) q ≡ cond (eq_by_cmp key_cmp q r.key) (Some r.text) (text_at rows q)
at_put r rows q =
    ap (find key_cmp q) (entries_put r rows)
    ∙ find-put key_cmp key_total q r.key r.text (map entry_of (erased r.key rows))
    ∙ ap (cond (eq_by_cmp key_cmp q r.key) (Some r.text)) (at_erased r.key rows q)
    ∙ over (eq_by_cmp key_cmp q r.key) (pointwise nat_eq q r.key) (Some r.text) (text_at rows q) (texts_ties q r.key)

-- ---- all changes

changed_on : (xs ys : List RowChange) (rows : List Row) → changed (xs ++ ys) rows ≡ changed ys (changed xs rows)
changed_on [] ys rows = refl
changed_on (x ∷ xs) ys rows = changed_on xs ys _

erases_ascend : (gone rows : List Row) → Ascend rows → Ascend (changed (map erase gone) rows)
erases_ascend [] rows up = up
erases_ascend (g ∷ gone) rows up = erases_ascend gone (erased g.key rows) (erased_ascend g.key rows up)

puts_ascend : (fresh rows : List Row) → Ascend rows → Ascend (changed (map Put fresh) rows)
puts_ascend [] rows up = up
puts_ascend (f ∷ fresh) rows up = puts_ascend fresh (put f rows) (put_ascend f rows up)

less_one : (b d : Bool) (g : Option (List ℕ)) (x : List ℕ) (y : Option (List ℕ)) → (d ≡ b) → cond (is_some g) None (cond (not d) y None) ≡ cond (is_some (cond b (Some x) g)) None y
less_one true d None x y is = ap (λ e. cond (not e) y None) is
less_one true d (Some g) x y is = refl
less_one false d None x y is = ap (λ e. cond (not e) y None) is
less_one false d (Some g) x y is = refl

at_erases : (gone rows : List Row) (q : List ℕ) → text_at (changed (map erase gone) rows) q ≡ cond (is_some (text_at gone q)) None (text_at rows q)
at_erases [] rows q = refl
at_erases (g ∷ gone) rows q =
    at_erases gone (erased g.key rows) q
    ∙ ap (cond (is_some (text_at gone q)) None) (at_erased g.key rows q)
    ∙ less_one (eq_by_cmp key_cmp q g.key) (pointwise nat_eq q g.key) (text_at gone q) g.text (text_at rows q) (texts_ties q g.key)

more_one : (b : Bool) (f : Option (List ℕ)) (x : List ℕ) (y : Option (List ℕ)) → (b ≡ true → f ≡ None) → option_or f (cond b (Some x) y) ≡ option_or (cond b (Some x) f) y
more_one true f x y h = ap (λ o. option_or o (Some x)) (h refl)
more_one false f x y h = refl

at_puts : (fresh rows : List Row) (q : List ℕ) → Ascend fresh → text_at (changed (map Put fresh) rows) q ≡ option_or (text_at fresh q) (text_at rows q)
at_puts [] rows q up = refl
at_puts (f ∷ fresh) rows q up =
    at_puts fresh (put f rows) q (rest_ascend f fresh up)
    ∙ ap (option_or (text_at fresh q)) (at_put f rows q)
    ∙ more_one (eq_by_cmp key_cmp q f.key) (text_at fresh q) f.text (text_at rows q)
    (λ is. subst (λ k. text_at fresh k ≡ None) (sym (same_key_is q f.key is)) (absent f.key (map entry_of fresh) (first_below f fresh up)))

-- ---- some of the rows

-- what is found where those that do not pass are left out
abbrev kept : (Row → Bool) → List ℕ → Option (List ℕ) → Option (List ℕ)
kept p q None = None
kept p q (Some text) = cond (p (row q text)) (Some text) None

first_kept : (p : Row → Bool) (r : Row) (rest : Option (List ℕ)) (b d : Bool) (q : List ℕ) → (b ≡ true → q ≡ r.key) → p r ≡ d → (b ≡ true → rest ≡ None)
    → cond d (cond b (Some r.text) rest) rest ≡ cond b (cond (p (row q r.text)) (Some r.text) None) rest
first_kept p r rest true true q same is none = ap (λ e. cond e (Some r.text) None) (sym (ap (λ k. p (row k r.text)) (same refl) ∙ is))
first_kept p r rest true false q same is none = none refl ∙ ap (λ e. cond e (Some r.text) None) (sym (ap (λ k. p (row k r.text)) (same refl) ∙ is))
first_kept p r rest false true q same is none = refl
first_kept p r rest false false q same is none = refl

chosen : (b : Bool) (x y : List Row) (q : List ℕ) → text_at (cond b x y) q ≡ cond b (text_at x q) (text_at y q)
chosen true x y q = refl
chosen false x y q = refl

kept_first : (p : Row → Bool) (q : List ℕ) (b : Bool) (x : List ℕ) (y : Option (List ℕ)) → kept p q (cond b (Some x) y) ≡ cond b (cond (p (row q x)) (Some x) None) (kept p q y)
kept_first p q true x y = refl
kept_first p q false x y = refl

at_some : (p : Row → Bool) (rows : List Row) (q : List ℕ) → Ascend rows → text_at (filter p rows) q ≡ kept p q (text_at rows q)
at_some p [] q up = refl
at_some p (r ∷ rows) q up =
    let rest = at_some p rows q (rest_ascend r rows up) in
    let none = λ (is : eq_by_cmp key_cmp q r.key ≡ true). rest ∙ ap (kept p q) (subst (λ k. text_at rows k ≡ None) (sym (same_key_is q r.key is)) (absent r.key (map entry_of rows) (first_below r rows up))) in
    chosen (p r) (r ∷ filter p rows) (filter p rows) q
    ∙ first_kept p r (text_at (filter p rows) q) (eq_by_cmp key_cmp q r.key) (p r) q (same_key_is q r.key) refl none
    ∙ ap (cond (eq_by_cmp key_cmp q r.key) (cond (p (row q r.text)) (Some r.text) None)) rest
    ∙ sym (kept_first p q (eq_by_cmp key_cmp q r.key) r.text (text_at rows q))

some_below : (p : Row → Bool) (x : List ℕ) (rows : List Row) → T (below_all key_cmp x (map entry_of rows)) → T (below_all key_cmp x (map entry_of (filter p rows)))
some_below p x [] h = tt
some_below p x (r ∷ rows) h =
    let rest = some_below p x rows (right_of (is_lt (key_cmp x r.key)) (below_all key_cmp x (map entry_of rows)) h) in
    elim (p r) as (λ b. T (below_all key_cmp x (map entry_of (cond b (r ∷ filter p rows) (filter p rows))))) [
      | true ↦ pair_of (is_lt (key_cmp x r.key)) (below_all key_cmp x (map entry_of (filter p rows))) (left_of (is_lt (key_cmp x r.key)) (below_all key_cmp x (map entry_of rows)) h) rest
      | false ↦ rest
    ]

some_ascend : (p : Row → Bool) (rows : List Row) → Ascend rows → Ascend (filter p rows)
some_ascend p [] up = tt
some_ascend p (r ∷ rows) up =
    let rest = some_ascend p rows (rest_ascend r rows up) in
    elim (p r) as (λ b. Ascend (cond b (r ∷ filter p rows) (filter p rows))) [
      | true ↦ pair_of (below_all key_cmp r.key (map entry_of (filter p rows))) (is_sorted key_cmp (map entry_of (filter p rows))) (some_below p r.key rows (first_below r rows up)) rest
      | false ↦ rest
    ]

-- ---- the whole

same_or_put : (d : Bool) (v w : List ℕ) → (d ≡ true → v ≡ w) → option_or (cond (not d) (Some w) None) (Some v) ≡ Some w
same_or_put true v w same = ap Some (same refl)
same_or_put false v w same = refl

leads : (old new : List Row) (q : List ℕ) (before after : Option (List ℕ)) → text_at old q ≡ before → text_at new q ≡ after
    → option_or (kept (is_fresh old) q after) (cond (is_some (kept (is_gone new) q before)) None before) ≡ after
leads old new q None None was is = refl
leads old new q (Some v) None was is =
    ap (λ o. cond (is_some (cond (is_none o) (Some v) None)) None (Some v)) is
leads old new q None (Some w) was is =
    ap (λ o. option_or (cond (option_map_or (λ text. not (pointwise nat_eq text w)) o true) (Some w) None) None) was
leads old new q (Some v) (Some w) was is =
    ap (λ o. option_or (kept (is_fresh old) q (Some w)) (cond (is_some (cond (is_none o) (Some v) None)) None (Some v))) is
    ∙ ap (λ o. option_or (cond (option_map_or (λ text. not (pointwise nat_eq text w)) o true) (Some w) None) (Some v)) was
    ∙ same_or_put (pointwise nat_eq v w) v w (same_text_is v w)

module _ (old new : List Row) (was : Ascend old) (is : Ascend new) where
  at_changed : (q : List ℕ) → text_at (changed (changes_between old new) old) q ≡ text_at new q
  at_changed q =
      ap (λ rows. text_at rows q) (changed_on (map erase (filter (is_gone new) old)) (map Put (filter (is_fresh old) new)) old)
      ∙ at_puts (filter (is_fresh old) new) (changed (map erase (filter (is_gone new) old)) old) q (some_ascend (is_fresh old) new is)
      ∙ ap (option_or (text_at (filter (is_fresh old) new) q)) (at_erases (filter (is_gone new) old) old q)
      ∙ ap (λ o. option_or o (cond (is_some (text_at (filter (is_gone new) old) q)) None (text_at old q))) (at_some (is_fresh old) new q is)
      ∙ ap (λ o. option_or (kept (is_fresh old) q (text_at new q)) (cond (is_some o) None (text_at old q))) (at_some (is_gone new) old q was)
      ∙ leads old new q (text_at old q) (text_at new q) refl refl

  changed_ascend : Ascend (changed (changes_between old new) old)
  changed_ascend =
      subst Ascend (sym (changed_on (map erase (filter (is_gone new) old)) (map Put (filter (is_fresh old) new)) old))
      (puts_ascend (filter (is_fresh old) new) (changed (map erase (filter (is_gone new) old)) old) (erases_ascend (filter (is_gone new) old) old was))

  -- the changes make the new rows of the old ones
  pub leads_on : changed (changes_between old new) old ≡ new
  leads_on =
      let same = same_entries key_cmp key_total one_key (map entry_of (changed (changes_between old new) old)) (map entry_of new) changed_ascend is at_changed in
      sym (rows_back (changed (changes_between old new) old)) ∙ ap (map row_of) same ∙ rows_back new
