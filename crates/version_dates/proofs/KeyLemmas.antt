-- Copies of sets.
use Rattle.std.proofs.Common.{◌≡◌, List}
use Rattle.std.specs.List.{AllZip}
use Rattle.std.proofs.lemmas.List.Elements.{same_from_all_zip}

-- copies of keys that equal their source
pub same_keys : {K : Type 0} (C : K → K → Type 0) (ks ls : List K) → ((x y : K) → C x y → y ≡ x) → AllZip C ks ls → ls ≡ ks
same_keys C ks ls keys copied = same_from_all_zip C ks ls copied keys
