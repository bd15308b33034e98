use Rattle.std.proofs.Common.{◌≡◌, ℕ, Bor, Option, Some, None, false, sym}
use Rattle.std.specs.Option.{is_some, option_copied}
use Rattle.std.proofs.lemmas.Bool.{true≢false}
use Rattle.wb_ecore.proofs.NameLemmas.{inserted}
use Rattle.wb_ecore.proofs.numbered_names.NumberedNames.add.Goals as goal

absent : (r : Option (Bor ℕ)) (o : Option ℕ) → is_some r ≡ false → option_copied r ≡ o → o ≡ None
absent None o h e = sym e
absent (Some x) o h e = absurd (true≢false h)

pub returns-in_ok-insert : goal.returns-in_ok-insert
returns-in_ok-insert c = λ other.
    inserted (λ key. key.items) c.in_ok-from_slice.field-0 c.args.name.now c.args.number c.args.self.now.numbers.entries c.insert.new.self.entries
    c.in_ok-from_slice.ensures.items c.in_ok-insert.ensures.updates.3 c.in_ok-insert.ensures.updates.1
    (absent c.get.result _ c.if-is_none.ensures c.get.ensures.value) other
