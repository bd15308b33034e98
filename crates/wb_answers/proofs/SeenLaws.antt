-- How asking goes on.
use Rattle.std.proofs.Common.{map, ◌≡◌, ◌+◌, ℕ, List, [], ◌++◌, refl, true, sym, ap, subst, ◌∙◌, arith, append-nil, append_assoc}
use Rattle.std.specs.List.{sum_by}
use Rattle.std.specs.Prelude.{Result, Ok, Err, IsErr, IsErrAnd}
use Rattle.std.proofs.lemmas.List.Sums.{sum_by-append}
use Rattle.std.proofs.lemmas.List.{map-append}
use Rattle.wb_answers.specs.declared.rows.Row.{Row}
use Rattle.wb_diagram.specs.declared.units.Unit.{Unit}
use Rattle.wb_answers.specs.declared.answers.Stop.{Stop}
use Rattle.wb_answers.specs.declared.answers.Stop.TheVariants.{NoMemory, TooLarge}
use Rattle.wb_answers.specs.Seen.{Seen, after, Stopped, Refused, Asks}

-- the same source, with these asked, kept and spent
abbrev seen_with : Seen → List Unit → List Row → ℕ → Seen
seen_with s us ks n = record { metamodel = s.metamodel; told = s.told; asked = us; over = s.over; row = s.row; kept = ks; spent = n; cost = s.cost; lenders = s.lenders }

pub after_none : (s : Seen) → after s [] ≡ s
unfolding after
after_none s =
    let a : List Unit → List Row → ℕ → Seen = seen_with s in
    ap (λ us. a us (s.kept ++ []) (s.spent + 0)) (append-nil s.asked) ∙ (ap (λ ks. a s.asked ks (s.spent + 0)) (append-nil s.kept) ∙ ap (a s.asked s.kept) (omega arith))

pub after_more : (s : Seen) (us vs : List Unit) → after (after s us) vs ≡ after s (us ++ vs)
unfolding after
after_more s us vs =
    let a : List Unit → List Row → ℕ → Seen = seen_with s in
    let sums = sum_by-append s.cost us vs in
    ap (λ ws. a ws ((s.kept ++ map s.row us) ++ map s.row vs) ((s.spent + sum_by s.cost us) + sum_by s.cost vs)) (append_assoc s.asked us vs)
    ∙ (ap (λ ks. a (s.asked ++ (us ++ vs)) ks ((s.spent + sum_by s.cost us) + sum_by s.cost vs)) (append_assoc s.kept (map s.row us) (map s.row vs) ∙ ap (λ ks. s.kept ++ ks) (sym (map-append s.row us vs)))
    ∙ ap (a (s.asked ++ (us ++ vs)) (s.kept ++ map s.row (us ++ vs))) (omega (arith, sums)))

pub told_after : (s : Seen) (us : List Unit) → (after s us).told ≡ s.told
unfolding after
told_after s us = refl

pub metamodel_after : (s : Seen) (us : List Unit) → (after s us).metamodel ≡ s.metamodel
unfolding after
metamodel_after s us = refl

pub over_after : (s : Seen) (us : List Unit) → (after s us).over ≡ s.over
unfolding after
over_after s us = refl

-- want of memory comes when these were asked
pub stays : (s now : Seen) (us rest all : List Unit) → now ≡ after s us → us ++ rest ≡ all → Stopped s all now
unfolding after
stays s now us rest all is split =
    let sums = sum_by-append s.cost us rest in
    let whole = ap (sum_by s.cost) split in
    let P : Seen → Type 0 = Stopped s all in
    subst P (sym is) (record {
      front = us;
      rest = rest;
      is = split;
      asked = refl;
      row = refl;
      kept = refl;
      spent = omega (arith, sums, whole);
      metamodel = refl;
      told = refl;
      cost = refl;
      lenders = refl;
    })

-- after these were asked, a refusal comes while others are
pub later : (s mid now : Seen) (us vs rest all : List Unit) → mid ≡ after s us → us ++ (vs ++ rest) ≡ all → Stopped mid vs now → Stopped s all now
unfolding after
later s mid now us vs rest all is split stop =
    let P : Seen → Type 0 = λ m. Stopped m vs now in
    by (subst P is stop)
  where
    by : Stopped (after s us) vs now → Stopped s all now
    by stop =
        let first = sum_by-append s.cost us (vs ++ rest) in
        let second = sum_by-append s.cost vs rest in
        let whole = ap (sum_by s.cost) split in
        let bound = stop.spent in
        record {
          front = us ++ stop.front;
          rest = stop.rest ++ rest;
          is = append_assoc us stop.front (stop.rest ++ rest) ∙ (ap (λ ws. us ++ ws) (sym (append_assoc stop.front stop.rest rest) ∙ ap (λ ws. ws ++ rest) stop.is) ∙ split);
          asked = stop.asked ∙ append_assoc s.asked us stop.front;
          row = stop.row;
          kept = stop.kept ∙ (append_assoc s.kept (map s.row us) (map s.row stop.front) ∙ ap (λ ks. s.kept ++ ks) (sym (map-append s.row us stop.front)));
          spent = omega (arith, first, second, whole, bound);
          metamodel = stop.metamodel;
          told = stop.told;
          cost = stop.cost;
          lenders = stop.lenders;
        }

-- want of memory comes when these were asked
pub no_memory : (s now : Seen) (us rest all : List Unit) (e : Stop) → now ≡ after s us → us ++ rest ≡ all → e ≡ NoMemory → Refused s all e now
no_memory s now us rest all e is split none = record { stopped = stays s now us rest all is split; large = λ same. impossible (sym none ∙ same) }
  where
    impossible : NoMemory ≡ TooLarge → now.over ≡ true
    impossible h = cc

-- after these were asked, a refusal comes while others are
pub refused_later : (s mid now : Seen) (us vs rest all : List Unit) (e : Stop) → mid ≡ after s us → us ++ (vs ++ rest) ≡ all → Refused mid vs e now → Refused s all e now
refused_later s mid now us vs rest all e is split r = record { stopped = later s mid now us vs rest all is split r.stopped; large = r.large }

-- the same, as what is answered
pub short : {A : Type 0} (s now : Seen) (us rest all : List Unit) (r : Result A Stop) → IsErr r × IsErrAnd r (λ e. e ≡ NoMemory) → now ≡ after s us → us ++ rest ≡ all → Asks s all r now
short s now us rest all (Ok x) h is split = absurd h.1
short s now us rest all (Err e) h is split = no_memory s now us rest all e is split h.1

pub passed_on : {A : Type 0} (s mid now : Seen) (us vs rest all : List Unit) (r : Result A Stop) (e : Stop) → IsErr r × IsErrAnd r (λ f. f ≡ e) → mid ≡ after s us → us ++ (vs ++ rest) ≡ all → Refused mid vs e now → Asks s all r now
passed_on s mid now us vs rest all (Ok x) e h is split refused = absurd h.1
passed_on s mid now us vs rest all (Err f) e h is split refused =
    let P : Stop → Type 0 = λ stop. Refused s all stop now in
    subst P (sym h.1) (refused_later s mid now us vs rest all e is split refused)
