-- What is left of exports to go over.
use Rattle.std.specs.Prelude.{ℕ, List, [], ◌∷◌, codes, String, Option, Some, None}
use Rattle.std.specs.Borrow.{Bor}
use Rattle.std.specs.declared.alloc.Global.{Global}
use Rattle.serde_json.specs.View.{members_view}
use Rattle.serde_json.specs.declared.value.Value.{Value}
use Rattle.spec_base.specs.Options.{by_option}
use Rattle.pkg_versions.specs.Exports.{text_members}

-- a name and a file
abbrev pub export_view : Bor (List ℕ) × Bor (List ℕ) → List ℕ × List ℕ
export_view p = (p.0.now, p.1.now)

-- the export that a text is, and the members that are left
abbrev pub exports_left : Option (Bor (List ℕ)) → Option (List (String Global × Value)) → List (List ℕ × List ℕ)
exports_left (Some text) members = (codes ".", text.now) ∷ by_option members [] (λ es. text_members (members_view es))
exports_left None members = by_option members [] (λ es. text_members (members_view es))
