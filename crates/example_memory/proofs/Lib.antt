mod BatchLaws
mod PlanLaws
mod PushLaws
