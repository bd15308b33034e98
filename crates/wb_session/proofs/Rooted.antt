-- An object that stays live through edits keeps its class.
use Rattle.std.proofs.Common.{◌≡◌, ◌<◌, ◌≤◌, ℕ, Bool, true, false, not, ◌∷◌, cond, Option, Some, None, refl, sym, ap, subst, ◌∙◌, arith}
use Rattle.std.specs.Prelude.{IsSome, Ok, is_some}
use Rattle.std.specs.Option.{option_map_or}
use Rattle.std.proofs.lemmas.Bool.{false≢true}
use Rattle.wb_metamodel.specs.Metamodel.{Metamodel, conforms}
use Rattle.wb_metamodel.specs.WellFormed.{WellFormed}
use Rattle.wb_store.specs.Contents.{Contents, kind}
use Rattle.wb_store.specs.Cells.{tree}
use Rattle.wb_store.specs.Relinking.{is_among}
use Rattle.wb_store.proofs.Without.{kind-without}
use Rattle.wb_validity.specs.Valid.{IsValid, conforms_to}
use Rattle.wb_model.specs.declared.edits.edit.Edit.{Edit}
use Rattle.wb_model.specs.declared.edits.edit.Edit.TheVariants.{Create, Set, Add, Take, Unset, MoveTo, Remove}
use Rattle.wb_model.specs.declared.refusals.ModelRefusal.TheVariants.{UnknownObject}
use Rattle.wb_model.specs.Edits.{is_live, removed}
use Rattle.wb_model.specs.EditLaws.{AreEdited, IsEdited}
use Rattle.wb_model.specs.EditLaws.AreEdited.{by_none, by_more}
use Rattle.wb_model.specs.EditLaws.IsEdited.{by_set, by_add, by_take, by_unset, by_move, by_remove, by_create}
use Rattle.wb_model.specs.GivenEdits.{edit_of}
use Rattle.wb_model.proofs.EditLaws.{dead-stays, kept-many, numbers-fresh, same_metamodel-many}
use Rattle.wb_model.proofs.GivenEdits.{given-metamodel}
use Rattle.wb_model.proofs.KeptLinks.{accepted, sound}
use Rattle.wb_model.proofs.Live.{kind-at, live-below, some-kind}
use Rattle.wb_model.proofs.OtherFeatures.{add-only, set-only, take-only, unset-only}
use Rattle.wb_model.proofs.PlainFeatures.{create-others, move-others}

left_by : (b : Bool) (k : Option ℕ) → IsSome (cond b k None) → cond b k None ≡ k
left_by true k h = refl
left_by false k h = absurd (false≢true h)

module _ (m n : Contents) (well : WellFormed m.metamodel) (valid : IsValid m) (x : ℕ) (live : IsSome (kind m x)) where
  old : x < m.next
  old = live-below m (sound m valid) x live

  removal_keeps : (o : ℕ) → removed o m ≡ n → IsSome (kind n x) → kind n x ≡ kind m x
  removal_keeps o is stays =
      let same : kind n x ≡ cond (not (is_among (o ∷ tree m o) x)) (kind m x) None = ap (λ (k : Contents). kind k x) (sym is) ∙ kind-without m (o ∷ tree m o) x in
      same ∙ left_by (not (is_among (o ∷ tree m o) x)) (kind m x) (subst IsSome same stays)

  same_class : (edit : Edit) → edit_of edit m ≡ Ok n → IsSome (kind n x) → kind n x ≡ kind m x
  same_class (Create class place) e stays = create-others m n class place e x (λ is. absurd (omega (arith, old, is)))
  same_class (Set o f v) e stays = (set-only m well f n o v e).classes x
  same_class (Add o f v) e stays = (add-only m well f n o v e).classes x
  same_class (Take o f v) e stays = (take-only m well f n o v e).classes x
  same_class (Unset o f) e stays = (unset-only m well f n o e).classes x
  same_class (MoveTo o p f) e stays = move-others m n o p f e x
  same_class (Remove o) e stays = removal_keeps o (accepted (cond (is_live m o) None (Some UnknownObject)) (removed o m) n e).1 stays

pub conforms_still : (edit : Edit) (m n : Contents) (c x : ℕ) → WellFormed m.metamodel → IsValid m → edit_of edit m ≡ Ok n → conforms_to m c x ≡ true → is_live n x ≡ true → conforms_to n c x ≡ true
conforms_still edit m n c x well valid e conforms_now stays =
    let found = kind-at m x (λ (d : ℕ). conforms m.metamodel d c) conforms_now in
    let same = same_class m n well valid x (some-kind m x found.0 found.1) edit e stays in
    ap (λ (mm : Metamodel). option_map_or (λ (d : ℕ). conforms mm d c) (kind n x) false) (given-metamodel edit m n e)
    ∙ (ap (λ (k : Option ℕ). option_map_or (λ (d : ℕ). conforms m.metamodel d c) k false) same ∙ conforms_now)

-- ---- one edit after another

edit_made : (m n : Contents) → IsEdited m n → (edit : Edit) × (edit_of edit m ≡ Ok n)
edit_made m n (by_set o f v e) = (Set o f v, e)
edit_made m n (by_add o f v e) = (Add o f v, e)
edit_made m n (by_take o f v e) = (Take o f v, e)
edit_made m n (by_unset o f e) = (Unset o f, e)
edit_made m n (by_move o p f e) = (MoveTo o p f, e)
edit_made m n (by_remove o e) = (Remove o, e)
edit_made m n (by_create class place e) = (Create class place, e)

next_grows : (m n : Contents) → AreEdited m n → m.next ≤ n.next
next_grows m n by_none = omega arith
next_grows m n (by_more {k = k} r e) = let before = next_grows m k r in let after = (numbers-fresh k n e).never_falls in omega arith

-- an object that is live lived before the last edit
lived_by : (k : Option ℕ) (b : Bool) → (k ≡ None → b ≡ false) → b ≡ true → IsSome k
lived_by None b dead live = absurd (false≢true (sym (dead refl) ∙ live))
lived_by (Some class) b dead live = refl

lived : (k n : Contents) (x : ℕ) → IsEdited k n → x < k.next → is_live n x ≡ true → is_live k x ≡ true
lived k n x e below live = lived_by (kind k x) (is_live n x) (λ none. ap is_some (dead-stays k n (by_more by_none e) x below none)) live

pub conforms_through : (m n : Contents) (c x : ℕ) → WellFormed m.metamodel → IsValid m → AreEdited m n → x < m.next → conforms_to m c x ≡ true → is_live n x ≡ true → conforms_to n c x ≡ true
conforms_through m n c x well valid by_none below now stays = now
conforms_through m n c x well valid (by_more {k = k} r e) below now stays =
    let made = edit_made k n e in
    let well_ = subst WellFormed (sym (same_metamodel-many m k r)) well in
    let there = next_grows m k r in
    let below_ : x < k.next = omega (arith, below, there) in
    conforms_still made.0 k n c x well_ (kept-many m k well valid r) made.1 (conforms_through m k c x well valid r below now (lived k n x e below_ stays)) stays
