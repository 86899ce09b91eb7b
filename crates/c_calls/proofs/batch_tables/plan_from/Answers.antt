use Rattle.std.proofs.Common.{◌∙◌, inl, inr, sym}
use Rattle.std.proofs.lemmas.Result.{MatchResult-weaker}
use Rattle.c_calls.proofs.batch_tables.plan_from.Goals as goal

pub returns-then-has_ids : goal.returns-then-has_ids
returns-then-has_ids g c = MatchResult-weaker c.plan_over.result c.plan_over.ensures
    (λ plan is. inr (sym c.has_ids.ensures ∙ c.if-has_ids.true, is))
    (λ e refusal. elim refusal [
      | inl memory ↦ inl memory
      | inr other ↦ inr (inr (sym c.has_ids.ensures ∙ c.if-has_ids.true, other))
    ])

pub returns-else-has_ids : goal.returns-else-has_ids
returns-else-has_ids g c = MatchResult-weaker c.new.result c.new.ensures
    (λ plan is. inl (sym c.has_ids.ensures ∙ c.if-has_ids.false, is))
    (λ e refusal. elim refusal [
      | inl memory ↦ inl memory
      | inr other ↦ inr (inl (sym c.has_ids.ensures ∙ c.if-has_ids.false, other))
    ])
