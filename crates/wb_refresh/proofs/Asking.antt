-- One unit more is asked by evaluating.
use Rattle.std.proofs.Common.{◌≡◌, ◌+◌, ◌≤◌, ℕ, Bool, true, false, List, [], ◌∷◌, ◌++◌, refl, sym, ap, subst, ◌∙◌, arith, append-nil, ⊎_elim}
use Rattle.std.specs.Borrow.{GName}
use Rattle.std.specs.Prelude.{Result, Ok, Err, IsErr, IsErrAnd}
use Rattle.std.specs.List.{sum_by}
use Rattle.std.proofs.lemmas.List.{map-append}
use Rattle.std.proofs.lemmas.List.Sums.{sum_by-cons}
use Rattle.wb_diagram.specs.declared.units.Unit.{Unit as Place}
use Rattle.wb_aql_eval.specs.declared.env.Outcome.{Outcome}
use Rattle.wb_answers.specs.Seen.{Seen, after, Refused, Asks}
use Rattle.wb_answers.specs.declared.answers.Stop.{Stop}
use Rattle.wb_answers.specs.declared.answers.Stop.TheVariants.{NoMemory, TooLarge}
use Rattle.wb_answers.specs.declared.rows.Row.{Row}
use Rattle.wb_refresh.specs.Outcomes.{Gives, cost, outcome, row, told}
use Rattle.wb_refresh.specs.Tables.{Evaluated, IsKept, Keeps, row_with, seen_by, units_in, with_row}
use Rattle.wb_refresh.specs.Weights.{is_over}

module _ (gives : Gives) (t : Evaluated) (u : Place) (count risen : ℕ) (names : List GName) where
  abbrev before : Seen
  before = seen_by gives t count names

  abbrev own_row : Row
  own_row = row gives t.setting u

  -- the same source, with these asked and kept
  abbrev seen_with : List Place → List Row → Bool → ℕ → Seen
  seen_with us rows over n = record {
    metamodel = t.setting.model.metamodel;
    told = told gives t.setting;
    asked = us;
    over = over;
    row = row gives t.setting;
    kept = rows;
    spent = n;
    cost = cost t.setting;
    lenders = names;
  }

  spent : risen ≡ count + cost t.setting u → risen ≡ count + sum_by (cost t.setting) (u ∷ [])
  spent rose = let one = sum_by-cons (cost t.setting) u [] in omega (arith, one, rose)

  at_most : risen ≤ count + cost t.setting u → risen ≤ count + sum_by (cost t.setting) (u ∷ [])
  at_most most = let one = sum_by-cons (cost t.setting) u [] in omega (arith, one, most)

  units_more : units_in (t.rows ++ own_row ∷ []) ≡ units_in t.rows ++ u ∷ []
  units_more = map-append (λ (r : Row). r.unit) t.rows (own_row ∷ [])

  asked : is_over (t.rows ++ own_row ∷ []) ≡ false → is_over t.rows ≡ false → risen ≡ count + cost t.setting u → seen_by gives (with_row t own_row) risen names ≡ after before (u ∷ [])
  unfolding after
  asked fine_now fine rose =
      let rows = t.rows ++ own_row ∷ [] in
      ap (λ us. seen_with us rows (is_over rows) risen) units_more
      ∙ (ap (λ b. seen_with (units_in t.rows ++ u ∷ []) rows b risen) (fine_now ∙ sym fine)
      ∙ ap (seen_with (units_in t.rows ++ u ∷ []) rows (is_over t.rows)) (spent rose))

  -- memory was wanting before the unit was kept
  pub not_asked : (now : Evaluated) (stop : Stop) → now ≡ t → stop ≡ NoMemory → risen ≤ count + cost t.setting u → Refused before (u ∷ []) stop (seen_by gives now risen names)
  not_asked now stop same none most =
      let P : Evaluated → Type 0 = λ n. Refused before (u ∷ []) stop (seen_by gives n risen names) in
      subst P (sym same) (record {
        stopped = record {
          front = [];
          rest = u ∷ [];
          is = refl;
          asked = sym (append-nil (units_in t.rows));
          kept = sym (append-nil t.rows);
          spent = at_most most;
          metamodel = refl;
          told = refl;
          row = refl;
          cost = refl;
          lenders = refl;
        };
        large = λ large. impossible (sym none ∙ large);
      })
    where
      impossible : NoMemory ≡ TooLarge → is_over t.rows ≡ true
      impossible h = cc

  -- the rows are over with the unit's
  over_now : (now : Evaluated) (stop : Stop) → now ≡ with_row t own_row → is_over now.rows ≡ true → risen ≤ count + cost t.setting u → Refused before (u ∷ []) stop (seen_by gives now risen names)
  over_now now stop is over most =
      let over_with : is_over (t.rows ++ own_row ∷ []) ≡ true = ap (λ (n : Evaluated). is_over n.rows) (sym is) ∙ over in
      let P : Evaluated → Type 0 = λ n. Refused before (u ∷ []) stop (seen_by gives n risen names) in
      subst P (sym is) (record {
        stopped = record {
          front = u ∷ [];
          rest = [];
          is = refl;
          asked = units_more;
          kept = refl;
          spent = at_most most;
          metamodel = refl;
          told = refl;
          row = refl;
          cost = refl;
          lenders = refl;
        };
        large = λ _. over_with;
      })

  -- the unit was evaluated, and its outcome is kept or not
  pub asks_by_keeping : {A : Type 0} (o : Outcome) (now : Evaluated) (r : Result A Stop) → o ≡ outcome gives t.setting u → is_over t.rows ≡ false → risen ≡ count + cost t.setting u → Keeps t (row_with (u, o)) r now → Asks before (u ∷ []) r (seen_by gives now risen names)
  asks_by_keeping o now (Ok x) given fine rose kept =
      let is : now ≡ with_row t own_row = kept.last ∙ ap (λ (x : Outcome). with_row t (row_with (u, x))) given in
      ap (λ (n : Evaluated). seen_by gives n risen names) is ∙ asked (ap (λ (n : Evaluated). is_over n.rows) (sym is) ∙ kept.fine) fine rose
  asks_by_keeping o now (Err stop) given fine rose refused =
      let most : risen ≤ count + cost t.setting u = omega (arith, rose) in
      ⊎_elim {C = Refused before (u ∷ []) stop (seen_by gives now risen names)} (λ not. not_asked now stop not.0 not.1 most)
      (λ over. over_now now stop (over.0 ∙ ap (λ (x : Outcome). with_row t (row_with (u, x))) given) over.1 most)
      refused

  -- memory was wanting for the evaluation
  pub asks_without_memory : {A : Type 0} (now : Evaluated) (r : Result A Stop) → now ≡ t → IsErr r × IsErrAnd r (λ e. e ≡ NoMemory) → risen ≤ count + cost t.setting u → Asks before (u ∷ []) r (seen_by gives now risen names)
  asks_without_memory now (Ok x) same h most = absurd h.1
  asks_without_memory now (Err stop) same h most = not_asked now stop same h.1 most
