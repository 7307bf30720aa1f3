-- What contracts see of an edge that is lent.
use Rattle.graph_walk.specs.declared.edges.EdgeRef.{EdgeRef}
use Rattle.graph_walk.specs.Errors.{Edge}

-- the edge that a lent one shows
abbrev pub edge_value : EdgeRef → Edge
edge_value e = record { here = e.here.now; text = e.text.now; is_type = e.is_type; is_dynamic = e.is_dynamic }
