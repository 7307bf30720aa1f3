use Rattle.std.proofs.Common.{◌≡◌, map, drop}
use Rattle.std.specs.Map.{lookup}
use Rattle.std.specs.Str.{bytes_eq}
use Rattle.json_forms.proofs.names.find.Given as goal

-- what is left decides
abbrev pub invariant-loop-row : goal.invariant-loop-row
invariant-loop-row g l =
    lookup (bytes_eq l.name) (map (λ e. (e.0.now, e.1)) l.table) ≡ lookup (bytes_eq l.name) (map (λ e. (e.0.now, e.1)) (drop l.row-index l.table))
