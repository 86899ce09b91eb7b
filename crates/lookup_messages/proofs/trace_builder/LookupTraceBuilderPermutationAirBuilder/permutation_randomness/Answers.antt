use Rattle.std.proofs.Common.{refl}
use Rattle.lookup_messages.specs.TraceBuilder.{ext_builder_window}
use Rattle.lookup_messages.proofs.OwnWindow.{means_itself}
use Rattle.lookup_messages.proofs.trace_builder.LookupTraceBuilderPermutationAirBuilder.permutation_randomness.Goals as goal

pub returns-clause-means : goal.returns-clause-means
returns-clause-means g c = means_itself (ext_builder_window c.args.self.now) (λ w. w.challenges) _ refl
