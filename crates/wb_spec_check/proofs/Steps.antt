-- The place of each path.
use Rattle.std.proofs.Common.{rules, ◌≡◌, ℕ, List, ◌++◌, Bor, Result, Ok, Err, ap, ◌∙◌, append_assoc}
use Rattle.wb_spec_check.specs.Places.{place_of, ◌▸◌, ◌!◌}
use Rattle.wb_spec_check.specs.declared.path.Path.{Path, Root, Member, Item, the_lemmas}
use Rattle.std.specs.Prelude.{codes, OnOk}

pub place_root : place_of Root ≡ codes "#"
unfolding place_of
place_root = search (rules, the_lemmas)

pub place_member : (outer : Bor Path) (name : Bor (List ℕ)) → place_of (Member outer name) ≡ place_of outer.now ▸ name.now
unfolding place_of
place_member outer name = search (rules, the_lemmas)

pub place_item : (outer : Bor Path) (n : ℕ) → place_of (Item outer n) ≡ place_of outer.now ! n
unfolding place_of
place_item outer n = search (rules, the_lemmas)

-- the place before, and then a step
pub pushed_on : {A E : Type 0} (r : Result A E) (old middle new outer step : List ℕ) → middle ≡ old ++ outer → OnOk r (new ≡ middle ++ step) → OnOk r (new ≡ old ++ (outer ++ step))
pushed_on (Ok x) old middle new outer step before after = after ∙ ap (λ text. text ++ step) before ∙ append_assoc old outer step
pushed_on (Err e) old middle new outer step before after = tt
