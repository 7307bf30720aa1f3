use Rattle.std.proofs.Common.{◌≡◌, true, nat_eq, subst}
use Rattle.source_io.proofs.ResolverLemmas.{nothing_in, unlisted_alike}
use Rattle.source_io.proofs.world_resolver.WorldResolverResolver.answers_kinds_alike.Goals as goal

pub returns : goal.returns
returns c =
    let r = c.args.self.now in
    λ told is. unlisted_alike r.resolutions.entries r.types.entries r.jsx (nothing_in r.resolutions.entries (subst (λ n. nat_eq n 0 ≡ true) c.len.ensures is))
