-- What a world file says of where texts lead, of the types of modules and of JSX.
use Rattle.std.specs.Prelude.{ℕ, List, [], ◌∷◌, map, codes, Option, Some, None, Result, Ok, Err, option_map}
use Rattle.serde_json.specs.Data.{Data}
use Rattle.serde_json.specs.Find.{get}
use Rattle.url.specs.Parts.{Parts}
use Rattle.spec_base.specs.declared.position.Range.{Range}
use Rattle.spec_base.specs.declared.position.ResolutionKind.{ResolutionKind}
use Rattle.spec_base.specs.declared.position.ResolutionKind.TheVariants as kind_is
use Rattle.spec_base.specs.declared.refusal.Fault.{Fault}
use Rattle.json_forms.specs.Form.{Form, text, specifier, choice, given, ◌>>=◌}
use Rattle.json_forms.specs.Keyed.{keyed_or_empty}
use Rattle.json_forms.specs.Member.{has_names, required, optional, with_default, or_empty}
use Rattle.source_io.specs.Resolvers.{no_jsx}
use Rattle.source_io.specs.declared.types.JsxDefaults.{JsxDefaults}
use Rattle.source_io.specs.declared.types.WorldResolution.{WorldResolution}
use Rattle.world_file.specs.WorldInfos.{fault}
use Rattle.world_file.specs.declared.world_resolutions.ResolverParts.{ResolverParts}
use Rattle.world_file.specs.declared.world_resolutions.TypesTarget.{TypesTarget}

-- ---- where texts lead

-- the names of what a text is resolved for
abbrev pub resolution_kinds : List (List ℕ × ResolutionKind)
resolution_kinds = (codes "code", kind_is.Execution) ∷ (codes "types", kind_is.Types) ∷ []

-- exactly one of the members `to` and `error` stands
abbrev pub to_or_error : Option Data → Option Data → Option (Result Parts Fault)
to_or_error (Some to) None = option_map Ok (specifier to)
to_or_error None (Some error) = option_map Err (fault error)
to_or_error (Some to) (Some error) = None
to_or_error None None = None

-- where a text leads, or the fault of the resolver
abbrev pub resolution_result : Form (Result Parts Fault)
resolution_result d = to_or_error (get (codes "to") d) (get (codes "error") d)

-- the members that a resolution may have
abbrev pub resolution_members : List (List ℕ)
resolution_members =
    codes "referrer"
    ∷ codes "text"
    ∷ codes "kind"
    ∷ codes "attribute"
    ∷ codes "to"
    ∷ codes "error"
    ∷ []

-- what is answered about one text
unfoldable pub world_resolution : Form WorldResolution
world_resolution d = do
  known ← given (has_names resolution_members d)
  referrer ← required specifier (codes "referrer") d
  asked ← required text (codes "text") d
  kind ← required (choice resolution_kinds) (codes "kind") d
  attribute ← optional text (codes "attribute") d
  result ← resolution_result d
  Some (record { referrer = referrer; text = asked; kind = kind; attribute = attribute; result = result })

-- ---- the types of modules

-- the module of a module's types
abbrev pub types_target : Form TypesTarget
types_target d = do
  known ← given (has_names (codes "to" ∷ []) d)
  to ← required specifier (codes "to") d
  Some (record { to = to })

-- no range is told for them
abbrev pub types_listed : List (Parts × TypesTarget) → List (Parts × Parts × Option Range)
types_listed targets = map (λ e. (e.0, e.1.to, None)) targets

-- ---- JSX

-- the JSX parts, each of which may be absent
abbrev pub jsx_defaults : Form JsxDefaults
jsx_defaults d = do
  known ← given (has_names (codes "source" ∷ codes "types" ∷ codes "module" ∷ []) d)
  source ← optional text (codes "source") d
  types ← optional text (codes "types") d
  name ← optional text (codes "module") d
  Some (record { source = source; types = types; «module» = name })

-- ---- all of it

-- what a resolver answers by the members of a file
abbrev pub resolver_parts : Form ResolverParts
resolver_parts d = do
  resolutions ← or_empty world_resolution (codes "resolutions") d
  types ← keyed_or_empty types_target (codes "types") d
  jsx ← with_default no_jsx jsx_defaults (codes "jsx") d
  Some (record { resolutions = resolutions; types = types_listed types; jsx = jsx })
