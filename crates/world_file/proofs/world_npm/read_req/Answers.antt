use Rattle.std.proofs.Common.{◌≡◌, ℕ, ◌≤◌, ◌-◌, not, List, length, take, drop, arith, ap, subst, ◌∙◌, rules}
use Rattle.std.specs.List.{after_last, before_last, slice_range, suffix_len}
use Rattle.spec_base.specs.Refusal.{Reads}
use Rattle.world_file.specs.WorldNpm.{named_req}
use Rattle.world_file.specs.WorldPackages.{is_at}
use Rattle.world_file.proofs.PackageLemmas.{begins_behind, begins_there}
use Rattle.world_file.proofs.world_npm.read_req.Goals as goal

pub range_from-requires : goal.range_from-requires
range_from-requires c = λ some.
    begins_behind c.args.text.now c.as_bytes.result.now c.version_start-start.result c.as_bytes.ensures.value c.version_start-start.ensures.within c.version_start-start.ensures.ascii c.utf8.text some

pub range-requires-clause-end_boundary : goal.range-requires-clause-end_boundary
range-requires-clause-end_boundary c =
    let more : 2 ≤ c.version_start-start.result = omega (arith, c.if-start-lt2.false) in
    begins_there c.args.text.now c.as_bytes.result.now c.version_start-start.result c.as_bytes.ensures.value c.version_start-start.ensures.within c.version_start-start.ensures.ascii more

front_is : (text : List ℕ) (n : ℕ) → slice_range text 0 n ≡ take n text
front_is text n = search rules

pub returns : goal.returns
returns c =
    let text = c.args.text.now in
    let start : c.version_start-start.result ≡ length text - suffix_len (λ b. not (is_at b)) text =
    c.version_start-start.ensures.place ∙ ap (λ t. length t - suffix_len (λ b. not (is_at b)) t) c.as_bytes.ensures.value in
    let front : c.range.result.now ≡ before_last is_at text =
    c.range.ensures.value ∙ front_is text (c.version_start-start.result - 1) ∙ ap (λ n. take (n - 1) text) start in
    let back : c.range_from.result.now ≡ after_last is_at text = c.range_from.ensures.value ∙ ap (λ n. drop n text) start in
    subst (λ o. Reads c.named_req.result o) (λ i. named_req (front i) (back i)) c.named_req.ensures
