use Rattle.std.proofs.Common.{refl}
use Rattle.lookup_messages.specs.TraceBuilder.{builder_window}
use Rattle.lookup_messages.proofs.OwnWindow.{means_itself}
use Rattle.lookup_messages.proofs.trace_builder.LookupTraceBuilderAirBuilder.public_values.Goals as goal

pub returns-clause-means : goal.returns-clause-means
returns-clause-means g c = means_itself (builder_window c.args.self.now) (λ w. w.public_values) _ refl
