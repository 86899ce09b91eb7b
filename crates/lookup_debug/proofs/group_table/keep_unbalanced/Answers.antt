use Rattle.std.proofs.Common.{rules}
use Rattle.indexmap.proofs.CallerLemmas.{filter-RetainsPairs}
use Rattle.lookup_debug.proofs.group_table.keep_unbalanced.Goals as goal

pub returns : goal.returns
returns g c = filter-RetainsPairs _ _ _ (λ k v b w h call. search rules) _ _ c.retain.ensures.filtered
