use Rattle.std.proofs.Common.{◌≡◌, ℕ, List, sym, subst}
use Rattle.graph_store.specs.Stores.{entries_in}
use Rattle.graph_store.specs.Words.{IsStoreOf}
use Rattle.store_turns.proofs.twice.read_back.Goals as goal

pub returns-in-Ok-decode-clause-same : goal.returns-in-Ok-decode-clause-same
returns-in-Ok-decode-clause-same c = λ writable.
    let bytes : c.deref.result.now ≡ c.in-Ok.bytes.items = c.deref.ensures.value in
    c.in-Ok-decode.ensures.only (entries_in c.args.store.now) (subst (λ (b : List ℕ). IsStoreOf b (entries_in c.args.store.now)) (sym bytes) (c.in-Ok.ensures.store writable))
