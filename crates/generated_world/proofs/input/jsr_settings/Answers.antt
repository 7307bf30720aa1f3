use Rattle.std.proofs.Common.{false, None}
use Rattle.generated_world.proofs.Registry.{jsr_is}
use Rattle.generated_world.proofs.input.jsr_settings.Goals as goal

pub returns : goal.returns
returns c = λ i. record {
  provider = jsr_is c.in_ok-provider.provider c.in_ok-provider.ensures i;
  passthrough_jsr = false;
  newest = record { date = None; exclude = c.new-2.ensures i; exclude_prefixes = c.new-3.ensures i; prefix_dates = c.new-4.ensures i };
}
