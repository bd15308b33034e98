-- Texts that are written piece by piece.
use Rattle.std.proofs.Common.{◌≡◌, ℕ, ◌<◌, Bool, true, false, List, ◌++◌, length, Some, None, sym, ap, subst, ◌∙◌, arith, if◌then◌else◌}
use Rattle.std.proofs.lemmas.Bool.{le-leb, lt-leb}
use Rattle.std.proofs.lemmas.List.{length-append}
use Rattle.wb_aql_values.specs.TextForms.{Extends, bounded_text}

-- a text that fits is the bounded text
pub some_of : (whole written text : List ℕ) (fits : Bool) → fits ≡ true → Extends fits whole written → text ≡ written → Some text ≡ bounded_text whole
some_of whole written text fits e h t =
    let g : Extends true whole written = subst (λ b. Extends b whole written) e h in
    ap Some (t ∙ g.0) ∙ ap (λ b. if b then Some whole else None) (sym (le-leb (length whole) 65536 g.1))

-- one that does not is none
pub none_of : (whole written : List ℕ) (fits : Bool) → fits ≡ false → Extends fits whole written → None ≡ bounded_text whole
none_of whole written fits e h =
    let g : Extends false whole written = subst (λ b. Extends b whole written) e h in
    ap (λ b. if b then Some whole else None) (sym (lt-leb (length whole) 65536 g))

-- nor is one with more behind it
pub none_of_longer : (whole more written : List ℕ) (fits : Bool) → fits ≡ false → Extends fits whole written → None ≡ bounded_text (whole ++ more)
none_of_longer whole more written fits e h =
    let g : Extends false whole written = subst (λ b. Extends b whole written) e h in
    let l : 65536 < length (whole ++ more) = omega (arith, g, length-append whole more) in
    ap (λ b. if b then Some (whole ++ more) else None) (sym (lt-leb (length (whole ++ more)) 65536 l))

-- what was written fits
pub written_whole : (whole written : List ℕ) (fits : Bool) → fits ≡ true → Extends fits whole written → written ≡ whole
written_whole whole written fits e h = let g : Extends true whole written = subst (λ b. Extends b whole written) e h in g.0
