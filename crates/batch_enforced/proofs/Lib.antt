mod AirLaws
mod FlagLaws
mod PlanLaws
mod QueryLaws
mod RefusalLaws
mod WeightLaws
