use Rattle.std.proofs.Common.{◌∙◌, false, true, sym, subst, arith}
use Rattle.graph_store.specs.declared.entry_key.EntryKey.{EntryKey}
use Rattle.graph_store.specs.AnswerMap.{entries_from}
use Rattle.graph_store.specs.Stores.{IsPutIn}
use Rattle.graph_store.proofs.AnswerMap.{one_at_most, put_into, room_more, stays}
use Rattle.graph_store.proofs.answer_map.AnswerMap.put.Goals as goal

pub returns-then-contains_key-clause-put : goal.returns-then-contains_key-clause-put
returns-then-contains_key-clause-put c =
    let e = c.args.entry in
    let key : EntryKey = record { specifier = e.specifier; purpose = e.purpose } in
    subst (λ xs. IsPutIn e xs xs false) c.self.view_is (stays key e.answer c.self.inside.answers.entries (sym c.if-contains_key.ensures))

pub invariant_of-self-2 : goal.invariant_of-self-2
invariant_of-self-2 c =
    let e = c.args.entry in
    let key : EntryKey = record { specifier = e.specifier; purpose = e.purpose } in
    let put = c.in_ok-insert.ensures in
    room_more key e.answer c.self.inside.answers.entries c.insert.new.self.entries c.reserve.new.self.items _ (sym c.if-contains_key.ensures) put.entries c.self.invariant.formed c.requires
    (c.reserve.ensures.items ∙ c.self.invariant.empty)
    (omega (arith, one_at_most c.in_ok-insert.field-0 _ _ put.len, c.in_ok-reserve.ensures.ok, c.len-len.ensures.len))

pub returns-clause-put : goal.returns-clause-put
returns-clause-put c =
    let e = c.args.entry in
    let key : EntryKey = record { specifier = e.specifier; purpose = e.purpose } in
    subst (λ xs. IsPutIn e xs (entries_from c.insert.new.self.entries) true) c.self.view_is
    (put_into key e.answer c.self.inside.answers.entries c.insert.new.self.entries (sym c.if-contains_key.ensures) c.in_ok-insert.ensures.entries)
