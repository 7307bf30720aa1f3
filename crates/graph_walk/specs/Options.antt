-- How a walk goes.
use Rattle.std.specs.Prelude.{Bool, true, false, ◌||◌, ◌&&◌}
use Rattle.url.specs.Parts.{Parts}
use Rattle.media_types.specs.declared.media.MediaType.{MediaType}
use Rattle.media_types.specs.declared.media.MediaType.TheVariants as media
use Rattle.graph_dependencies.specs.declared.graph_kind.GraphKind.{GraphKind}
use Rattle.graph_dependencies.specs.declared.graph_kind.GraphKind.TheVariants.{All, CodeOnly, TypesOnly}
use Rattle.graph_walk.specs.declared.options.CheckJsOption.{CheckJsOption}
use Rattle.graph_walk.specs.declared.options.CheckJsOption.TheVariants.{True, False, Custom}
use Rattle.graph_walk.specs.declared.options.WalkOptions.{WalkOptions}

-- the options of a walk, with the test of specifiers that they choose
pub record How : Type 0 where
  pub kind : GraphKind
  pub follow_dynamic : Bool
  pub prefers_fast_check : Bool
  pub checks : Parts → Bool

-- whether JavaScript at a specifier is checked
abbrev pub answered : {C : Type 0} → (C → Parts → Bool) → CheckJsOption C → Parts → Bool
answered resolves True s = true
answered resolves False s = false
answered resolves (Custom c) s = resolves c.now s

-- what the options of a walk mean
abbrev pub how : {C : Type 0} → (C → Parts → Bool) → WalkOptions C → How
how resolves o = record { kind = o.kind; follow_dynamic = o.follow_dynamic; prefers_fast_check = o.prefer_fast_check_graph; checks = answered resolves o.check_js }

-- the kind has types alone
abbrev pub is_types_only : GraphKind → Bool
is_types_only All = false
is_types_only CodeOnly = false
is_types_only TypesOnly = true

-- types stand in it, whatever is asked
abbrev pub has_types_of_its_own : MediaType → Bool
has_types_of_its_own media.JavaScript = false
has_types_of_its_own media.Jsx = false
has_types_of_its_own media.Mjs = false
has_types_of_its_own media.Cjs = false
has_types_of_its_own media.TypeScript = true
has_types_of_its_own media.Mts = true
has_types_of_its_own media.Cts = true
has_types_of_its_own media.Dts = true
has_types_of_its_own media.Dmts = true
has_types_of_its_own media.Dcts = true
has_types_of_its_own media.Tsx = true
has_types_of_its_own media.Css = false
has_types_of_its_own media.Json = true
has_types_of_its_own media.Jsonc = false
has_types_of_its_own media.Json5 = false
has_types_of_its_own media.Markdown = false
has_types_of_its_own media.Html = false
has_types_of_its_own media.Sql = false
has_types_of_its_own media.Wasm = true
has_types_of_its_own media.SourceMap = false
has_types_of_its_own media.Unknown = false

-- it is JavaScript, which is checked where the options say so
abbrev pub is_javascript : MediaType → Bool
is_javascript media.JavaScript = true
is_javascript media.Jsx = true
is_javascript media.Mjs = true
is_javascript media.Cjs = true
is_javascript media.TypeScript = false
is_javascript media.Mts = false
is_javascript media.Cts = false
is_javascript media.Dts = false
is_javascript media.Dmts = false
is_javascript media.Dcts = false
is_javascript media.Tsx = false
is_javascript media.Css = false
is_javascript media.Json = false
is_javascript media.Jsonc = false
is_javascript media.Json5 = false
is_javascript media.Markdown = false
is_javascript media.Html = false
is_javascript media.Sql = false
is_javascript media.Wasm = false
is_javascript media.SourceMap = false
is_javascript media.Unknown = false

-- the types of a module are checked: it has types of its own, or it is JavaScript and is to be checked
abbrev pub is_checkable : How → Parts → MediaType → Bool
is_checkable o s m = has_types_of_its_own m || (is_javascript m && o.checks s)
