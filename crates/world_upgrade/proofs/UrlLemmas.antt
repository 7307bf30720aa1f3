-- A specifier that was read is read again from its text.
use Rattle.std.proofs.Common.{◌≡◌, ℕ, List, Option, Some, None, Ok, Err, refl, sym, ap, ◌∙◌}
use Rattle.std.specs.Prelude.{Result}
use Rattle.json_forms.specs.Form.{url_of}
use Rattle.url.specs.Parser.{Parsed, parse_url}
use Rattle.url.specs.Parts.{Parts, serialize, IsValid}
use Rattle.url.proofs.Theorems.{parse_url_idempotent}
use Rattle.world_upgrade.specs.Told.{IsParsed, IsAgain}

found_by : (t : List ℕ) (r : Parsed Parts) (u : Parts) → parse_url None t ≡ r → url_of t ≡ Some u → r ≡ Ok u
unfolding url_of
found_by t (Ok x) u e h = let same : Some x ≡ Some u = rw e at h in cc
found_by t (Err x) u e h = let same : None ≡ Some u = rw e at h in absurd cc

read_by : (t : List ℕ) (u : Parts) → parse_url None t ≡ Ok u → url_of t ≡ Some u
unfolding url_of
read_by t u e = rw e refl

pub url_again : (u : Parts) → IsValid u → IsParsed u → IsAgain u
url_again u valid parsed =
    read_by (serialize u) u (parse_url_idempotent None None parsed.0 u tt valid (found_by parsed.0 (parse_url None parsed.0) u refl parsed.1))
