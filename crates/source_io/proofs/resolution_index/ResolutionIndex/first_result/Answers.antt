use Rattle.std.proofs.Common.{◌∙◌, sym, ap, Some, None, rules}
use Rattle.std.specs.Prelude.{option_copied, unwrap_or}
use Rattle.source_io.specs.Resolvers.{resolves}
use Rattle.source_io.proofs.ChainLemmas.{met, met_within, none_listed, entry_met, link_met, found_met, sought_on, smaller_met, one_entry, no_entry}
use Rattle.source_io.proofs.resolution_index.ResolutionIndex.first_result.Goals as goal

pub returns-in_err-entry : goal.returns-in_err-entry
returns-in_err-entry c =
    let rs = c.args.self.now.entries in
    let m = met rs c.args.text.now c.args.referrer.now c.args.kind (option_copied c.args.attribute) c.in-Some.place c.loop-at.at c.loop-at.invariant c.in-Some.is in
    let there = c.entry_at.ensures ∙ entry_met rs c.args.text.now c.args.referrer.now c.args.kind (option_copied c.args.attribute) c.in-Some.place m in
    no_entry (option_copied c.entry_at.result) m.entry (ap option_copied c.in_err-entry.was) there

pub returns-then-is_listed_for : goal.returns-then-is_listed_for
returns-then-is_listed_for c =
    let rs = c.args.self.now.entries in
    let m = met rs c.args.text.now c.args.referrer.now c.args.kind (option_copied c.args.attribute) c.in-Some.place c.loop-at.at c.loop-at.invariant c.in-Some.is in
    let there = c.entry_at.ensures ∙ entry_met rs c.args.text.now c.args.referrer.now c.args.kind (option_copied c.args.attribute) c.in-Some.place m in
    let same = one_entry (option_copied c.entry_at.result) c.in_ok-entry.entry.now m.entry (ap option_copied c.in_ok-entry.was) there in
    ap (λ e. Some e.result) same
    ∙ found_met rs c.args.text.now c.args.referrer.now c.args.kind (option_copied c.args.attribute) c.in-Some.place m (ap (resolves c.args.text.now c.args.referrer.now c.args.kind (option_copied c.args.attribute)) (sym same) ∙ sym c.is_listed_for.ensures ∙ c.if-is_listed_for.true)

pub loop-at-smaller : goal.loop-at-smaller
loop-at-smaller c =
    let rs = c.args.self.now.entries in
    let m = met rs c.args.text.now c.args.referrer.now c.args.kind (option_copied c.args.attribute) c.in-Some.place c.loop-at.at c.loop-at.invariant c.in-Some.is in
    let link = c.link_at-at.ensures ∙ ap (λ o. unwrap_or o None) (link_met rs c.args.text.now c.args.referrer.now c.args.kind (option_copied c.args.attribute) c.args.self.now.links.items c.in-Some.place m c.args.self.now.linked) in
    smaller_met rs c.args.text.now c.args.referrer.now c.args.kind (option_copied c.args.attribute) c.loop-at.at c.link_at-at.result c.in-Some.place m c.in-Some.is link (met_within rs c.args.text.now c.args.referrer.now c.args.kind (option_copied c.args.attribute) c.in-Some.place m)

pub loop-at-preserved : goal.loop-at-preserved
loop-at-preserved c =
    let rs = c.args.self.now.entries in
    let m = met rs c.args.text.now c.args.referrer.now c.args.kind (option_copied c.args.attribute) c.in-Some.place c.loop-at.at c.loop-at.invariant c.in-Some.is in
    let there = c.entry_at.ensures ∙ entry_met rs c.args.text.now c.args.referrer.now c.args.kind (option_copied c.args.attribute) c.in-Some.place m in
    let link = c.link_at-at.ensures ∙ ap (λ o. unwrap_or o None) (link_met rs c.args.text.now c.args.referrer.now c.args.kind (option_copied c.args.attribute) c.args.self.now.links.items c.in-Some.place m c.args.self.now.linked) in
    let same = one_entry (option_copied c.entry_at.result) c.in_ok-entry.entry.now m.entry (ap option_copied c.in_ok-entry.was) there in
    sought_on rs c.args.text.now c.args.referrer.now c.args.kind (option_copied c.args.attribute) c.in-Some.place m c.link_at-at.result (ap (resolves c.args.text.now c.args.referrer.now c.args.kind (option_copied c.args.attribute)) (sym same) ∙ sym c.is_listed_for.ensures ∙ c.if-is_listed_for.false) link

pub returns : goal.returns
returns c =
    let rs = c.args.self.now.entries in
    sym (none_listed rs c.args.text.now c.args.referrer.now c.args.kind (option_copied c.args.attribute) c.loop-at.at c.loop-at.invariant (search rules))
