-- Copies of maps.
use Rattle.std.proofs.Common.{◌≡◌, List, [], ◌∷◌, refl}
use Rattle.std.specs.Prelude.{string_bytes}
use Rattle.std.specs.declared.string.String.{String}
use Rattle.spec_base.specs.Shown.{shown}
use Rattle.std.specs.List.{AllZip}
use Rattle.std.proofs.lemmas.List.Elements.{same_from_all_zip}

-- copies of lists by name, whose elements equal their source
pub same_lists : {V A B : Type 0} (C : V → V → Type 0) (es : List (String A × List V)) (fs : List (String B × List V))
    → ((x y : V) → C x y → y ≡ x) → AllZip (λ p q. (string_bytes q.0 ≡ string_bytes p.0) × AllZip C p.1 q.1) es fs → shown fs ≡ shown es
same_lists C [] [] copies copied = refl
same_lists C [] (f ∷ fs) copies copied = absurd copied
same_lists C (e ∷ es) [] copies copied = absurd copied
same_lists C (e ∷ es) (f ∷ fs) copies copied =
    λ i. (copied.0.0 i, same_from_all_zip C e.1 f.1 copied.0.1 copies i) ∷ same_lists C es fs copies copied.1 i
