use Rattle.std.proofs.Common.{◌≡◌, refl, sym, ap, subst, ◌∙◌, ℕ, List, Some, length, take, vec_len}
use Rattle.std.proofs.lemmas.List.{with_items_is}
use Rattle.wb_outer.specs.declared.door.Got.TheVariants as got
use Rattle.wb_http.specs.declared.requests.RequestEnd.TheVariants as ends
use Rattle.wb_http.specs.Fronts.{Fills}
use Rattle.wb_http.proofs.Moving.{fills_end}
use Rattle.wb_http.proofs.held.Held.fill.Goals as goal

pub returns-in-End-clause-fills : goal.returns-in-End-clause-fills
returns-in-End-clause-fills g c =
    let count : length c.read_behind.new.room ≡ vec_len c.self.inside.room = c.read_behind.ensures.count ∙ c.as_mut_slice.ensures.len in
    subst (λ (xs : List ℕ). Fills c.args.self.now (take c.self.inside.len xs) (g.D.Door.told c.args.door.now) (g.D.Door.told c.read_behind.new.door) (Some ends.Ended)) (sym (with_items_is c.self.inside.room c.read_behind.new.room count))
    (fills_end got.End c.self.inside.len c.as_mut_slice.result.now c.read_behind.new.room c.args.self.now _ _ refl (ap (take c.self.inside.len) c.as_mut_slice.ensures.value ∙ c.self.view_is) c.in-End.ensures.reads)

pub returns-in-Failed-clause-fills : goal.returns-in-Failed-clause-fills
returns-in-Failed-clause-fills g c =
    let count : length c.read_behind.new.room ≡ vec_len c.self.inside.room = c.read_behind.ensures.count ∙ c.as_mut_slice.ensures.len in
    subst (λ (xs : List ℕ). Fills c.args.self.now (take c.self.inside.len xs) (g.D.Door.told c.args.door.now) (g.D.Door.told c.read_behind.new.door) (Some ends.Failed)) (sym (with_items_is c.self.inside.room c.read_behind.new.room count))
    (fills_end got.Failed c.self.inside.len c.as_mut_slice.result.now c.read_behind.new.room c.args.self.now _ _ refl (ap (take c.self.inside.len) c.as_mut_slice.ensures.value ∙ c.self.view_is) c.in-Failed.ensures.reads)
