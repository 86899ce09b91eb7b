use Rattle.std.proofs.Common.{refl}
use Rattle.lookup_messages.specs.TraceBuilder.{builder_window}
use Rattle.lookup_messages.proofs.OwnWindow.{means_itself}
use Rattle.lookup_messages.proofs.trace_builder.LookupTraceBuilderAirBuilder.preprocessed.Goals as goal

pub returns-clause-current : goal.returns-clause-current
returns-clause-current g c = means_itself (builder_window c.args.self.now) (λ w. w.preprocessed) _ refl

pub returns-clause-next : goal.returns-clause-next
returns-clause-next g c = means_itself (builder_window c.args.self.now) (λ w. w.preprocessed_next) _ c.args.self.now.preprocessed.same_length
